-- Lines that leave as they are taken.
use Rattle.std.proofs.Common.{◌≡◌, ℕ, ◌+◌, List, [], ◌∷◌, ◌++◌, length, reverse, Option, Some, None, ap, sym, ◌∙◌}
use Rattle.std.specs.Prelude.{MatchOption}
use Rattle.std.specs.Option.{option_to_list}
use Rattle.std.proofs.lemmas.List.{append-nil, nil_from_length, reverse-append, reverse-reverse}

-- lines that are turned twice are as they were
pub turned-back : {X : Type 0} (all held turned : List X) → held ≡ all → turned ≡ reverse held → reverse turned ≡ all
turned-back {X} all held turned same is =
    ap (λ (lines : List X). reverse lines) (is ∙ ap (λ (lines : List X). reverse lines) same) ∙ reverse-reverse all

-- the last line of those that are turned is the next one
pub last-taken : {X : Type 0} (old kept new : List X) (count fewer : ℕ) (taken : Option X) → count ≡ length old → old ≡ kept ++ option_to_list taken → MatchOption taken ((count ≡ 0) × (fewer ≡ 0)) (λ _. fewer + 1 ≡ count) → new ≡ kept → MatchOption taken ((reverse old ≡ []) × (reverse new ≡ [])) (λ line. reverse old ≡ line ∷ reverse new)
last-taken {X} old kept new count fewer None long parts cases same =
    let empty : old ≡ [] = nil_from_length old (sym long ∙ cases.0) in
    let left : new ≡ [] = same ∙ sym (append-nil kept) ∙ sym parts ∙ empty in
    (ap (λ (lines : List X). reverse lines) empty, ap (λ (lines : List X). reverse lines) left)
last-taken {X} old kept new count fewer (Some line) long parts cases same =
    ap (λ (lines : List X). reverse lines) parts ∙ reverse-append kept (line ∷ []) ∙ ap (λ (lines : List X). line ∷ reverse lines) (sym same)
