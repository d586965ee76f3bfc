-- The words that are taken from the matches of `clap`.
use Rattle.std.proofs.Common.{◌≡◌, List, [], ◌∷◌, Option, Some, None, refl, ap, sym, ◌∙◌}
use Rattle.std.specs.Prelude.{codes, option_map, unwrap_or}
use Rattle.clap.specs.Words.{Text, first_of, first_value, matched_of, raw_values, rows_of}
use Rattle.clap.specs.declared.parser.matches.Found.{Found}
use Rattle.clap.proofs.WalkLemmas.{first_value-rows, raw_values-rows}
use Rattle.command_line.specs.Clap.{gathered}

abbrev gathered_from : Option Text → Option (List Text) → Option (List Text)
gathered_from first values = option_map (λ word. word ∷ unwrap_or values []) first

as-gathered : (found : Found) (first : Option Text) (values : Option (List Text)) → first ≡ first_value found (codes "command") → values ≡ option_map raw_values (matched_of found (codes "values")) → gathered_from first values ≡ gathered (rows_of found)
as-gathered found first values one others =
    ap (λ (o : Option Text). gathered_from o values) (one ∙ first_value-rows found (codes "command"))
    ∙ ap (λ (o : Option (List Text)). gathered_from (first_of (codes "command") (rows_of found)) o) (others ∙ raw_values-rows found (codes "values"))

pub none-gathered : (found : Found) (first : Option Text) → first ≡ first_value found (codes "command") → first ≡ None → None ≡ gathered (rows_of found)
none-gathered found first one none =
    let values = option_map raw_values (matched_of found (codes "values")) in
    sym (ap (λ (o : Option Text). gathered_from o values) none) ∙ as-gathered found first values one refl

pub some-gathered : (found : Found) (first : Option Text) (word : Text) (values : Option (List Text)) → first ≡ first_value found (codes "command") → first ≡ Some word → values ≡ option_map raw_values (matched_of found (codes "values")) → Some (word ∷ unwrap_or values []) ≡ gathered (rows_of found)
some-gathered found first word values one some others =
    sym (ap (λ (o : Option Text). gathered_from o values) some) ∙ as-gathered found first values one others

-- a list read of what is there, or of what stands for it
pub read-either : {X Y : Type 0} (read : X → List Y) (one : Option X) (other : X) → read other ≡ [] → read (unwrap_or one other) ≡ unwrap_or (option_map read one) []
read-either read None other none = none
read-either read (Some x) other none = refl
