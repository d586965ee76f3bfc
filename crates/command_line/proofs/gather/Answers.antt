use Rattle.std.proofs.Common.{◌≡◌, ℕ, List, [], ◌∷◌, ◌++◌, Some, map, Bor, ap, refl, ◌∙◌}
use Rattle.std.specs.Prelude.{option_map}
use Rattle.clap.specs.Words.{found_of}
use Rattle.command_line.proofs.GatherLaws.{none-gathered, read-either, some-gathered}
use Rattle.command_line.proofs.gather.Goals as goal

abbrev texts : List (Bor (List ℕ)) → List (List ℕ)
texts words = map (λ word. word.now) words

pub returns-in-None : goal.returns-in-None
returns-in-None c =
    none-gathered (found_of c.args.matches.now) (option_map (λ word. word.now) c.get_str.result) c.get_str.ensures (ap (option_map (λ word. word.now)) c.in-None.is)

pub returns-in_ok-extend_from_slice-in-Some : goal.returns-in_ok-extend_from_slice-in-Some
returns-in_ok-extend_from_slice-in-Some c =
    let first = c.in-Some.first in
    let values = c.unwrap_or-values.result.now in
    let list : c.extend_from_slice.new.self.items ≡ first ∷ values =
    c.in_ok-extend_from_slice-in-Some.ensures.items ∙ ap (λ (words : List (Bor (List ℕ))). words ++ values) (c.in_ok-push-in-Some.ensures.items ∙ ap (λ (words : List (Bor (List ℕ))). words ++ first ∷ []) c.new-list.ensures.items) in
    let others = ap (λ slice. texts slice.now) c.unwrap_or-values.ensures ∙ read-either (λ slice. texts slice.now) c.get_strs.result _ refl in
    ap (λ (words : List (Bor (List ℕ))). Some (texts words)) list
    ∙ ap (λ (behind : List (List ℕ)). Some (first.now ∷ behind)) others
    ∙ some-gathered (found_of c.args.matches.now) (option_map (λ word. word.now) c.get_str.result) first.now (option_map (λ slice. texts slice.now) c.get_strs.result) c.get_str.ensures (ap (option_map (λ word. word.now)) c.in-Some.is) c.get_strs.ensures
