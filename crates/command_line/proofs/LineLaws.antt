-- What `clap` makes of the words is their line.
use Rattle.std.proofs.Common.{◌≡◌, ℕ, ◌≤◌, inl, inr, List, [], ◌∷◌, length, Bool, true, false, cond, not, ◌&&◌, Some, None, is_some, refl, ap, ap₂, sym, ◌∙◌, arith}
use Rattle.std.specs.Prelude.{nat_lt}
use Rattle.std.specs.List.{list_all, list_any}
use Rattle.std.proofs.Math.Bool.{and-false}
use Rattle.std.proofs.lemmas.Bool.{le-leb, le-ltb, lt-ltb, ltb-false}
use Rattle.std.proofs.lemmas.Bool.Decides.{leb_tells}
use Rattle.clap.specs.Faults.{check_fault, defaults_fault, entered_fault, fault_of, settle_fault, walk_fault}
use Rattle.clap.specs.Kinds.{Kinds, or_else, range_kinds}
use Rattle.clap.specs.Simple.{built, entered, matches_of}
use Rattle.clap.specs.Takes.{default_passes, entered_passes, is_valid, settle_passes, takes, value_passes}
use Rattle.clap.specs.Walk.{Row, Text, Walk, finished, nothing_held, settled, walk, walk_from}
use Rattle.clap.specs.declared.error.kind.ErrorKind.TheVariants.{TooManyValues}
use Rattle.clap.proofs.OnLiterals.{clap_on_literals}
use Rattle.command_line.specs.Clap.{command_rule, gathered, line_app, values_rule}
use Rattle.command_line.specs.Lines.{is_dashed, is_line, line_of}
use Rattle.command_line.proofs.WordLaws.{ArePlain, are-plain}
use Rattle.command_line.proofs.WalkLaws.{behind_all, behind_values, line-passes, line-walked, row_of, top}

-- the rows of a line
abbrev value_rows : List Text → List Row
value_rows [] = []
value_rows (value ∷ values) = row_of values_rule (value ∷ values) ∷ []

finished-line : (word : Text) (values : List Text) → finished top.rules (behind_all word values).held ≡ row_of command_rule (word ∷ []) ∷ value_rows values
unfolding clap_on_literals
finished-line word [] = refl
finished-line word (value ∷ values) = refl

rows-gathered : (word : Text) (values : List Text) → gathered (row_of command_rule (word ∷ []) ∷ value_rows values) ≡ Some (word ∷ values)
unfolding clap_on_literals
rows-gathered word [] = refl
rows-gathered word (value ∷ values) = refl

line-gathered : (word : Text) (values : List Text) → ArePlain (word ∷ values) → gathered (matches_of line_app (word ∷ values)) ≡ Some (word ∷ values)
line-gathered word values plain =
    ap (λ (end : Walk). gathered (finished top.rules end.held)) (line-walked word values plain)
    ∙ ap gathered (finished-line word values)
    ∙ rows-gathered word values

-- At most five values.

-- a list of kinds that is empty has empty parts
or-else-left : (a b : Kinds) → or_else a b ≡ [] → a ≡ []
or-else-left [] b none = refl
or-else-left (k ∷ a) b none = absurd cc

or-else-right : (a b : Kinds) → or_else a b ≡ [] → b ≡ []
or-else-right [] b none = none
or-else-right (k ∷ a) b none = absurd cc

at-most : (n : ℕ) → range_kinds 0 5 n ≡ [] → n ≤ 5
at-most n none =
    let at : (over : Bool) → nat_lt 5 n ≡ over → n ≤ 5 = elim [
      | true ↦ λ is.
          let many : range_kinds 0 5 n ≡ TooManyValues ∷ [] = rw (le-ltb n 0 (omega arith), is) refl in
          let no : TooManyValues ∷ [] ≡ [] = sym many ∙ none in
          absurd cc
      | false ↦ λ is. ltb-false 5 n is
    ] in
    at (nat_lt 5 n) refl

values-fault : (word value : Text) (values : List Text) → settle_fault top.rules top.args_override_self (behind_values word (value ∷ values)).held ≡ [] → length (value ∷ values) ≤ 5
unfolding clap_on_literals
values-fault word value values none =
    at-most (length (value ∷ values)) (or-else-left (range_kinds 0 5 (length (value ∷ values))) _ none)

few-values : (word : Text) (values : List Text) → ArePlain (word ∷ values) → fault_of line_app (word ∷ values) ≡ [] → length values ≤ 5
few-values word [] plain none = omega arith
few-values word (value ∷ values) plain none =
    let words = word ∷ value ∷ values in
    let end = walk top.rules [] nothing_held words in
    let below = entered_fault (built line_app) end.stopped in
    let settling = settle_fault top.rules top.args_override_self end.held in
    let checks = or_else (defaults_fault (settled top.rules end.held).rows top.rules) (check_fault top (finished top.rules end.held) (is_some (entered (built line_app) end.stopped))) in
    let walked = walk_fault top [] (walk_from nothing_held) words in
    let quiet = or-else-left settling checks (or-else-right below (or_else settling checks) (or-else-right walked (or_else below (or_else settling checks)) none)) in
    values-fault word value values (sym (ap (λ (at : Walk). settle_fault top.rules top.args_override_self at.held) (line-walked word (value ∷ values) plain)) ∙ quiet)

-- The command takes a line.

every-value : (values : List Text) → list_all (value_passes values_rule) values ≡ true
every-value [] = refl
every-value (value ∷ values) = every-value values

-- what is asked of the end of a walk whose words passed
abbrev passes_at : Walk → Bool → Bool
passes_at end passed =
    entered_passes (built line_app) end.stopped
    && (passed && (settle_passes top.rules top.args_override_self end.held
    && (list_all default_passes top.rules && is_valid top (finished top.rules end.held) (is_some (entered (built line_app) end.stopped)))))

end-passes : (word : Text) (values : List Text) → length values ≤ 5 → passes_at (behind_all word values) true ≡ true
unfolding clap_on_literals
end-passes word [] few = refl
end-passes word (value ∷ values) few =
    let n = length (value ∷ values) in
    ap (λ b. b && true) (ap₂ (λ a b. a && b) (le-leb 0 n (omega arith)) (ap₂ (λ a b. a && b) (le-leb n 5 few) (every-value (value ∷ values))))

takes-line : (word : Text) (values : List Text) → ArePlain (word ∷ values) → length values ≤ 5 → takes line_app (word ∷ values) ≡ true
takes-line word values plain few =
    ap₂ passes_at (line-walked word values plain) (line-passes word values plain) ∙ end-passes word values few

-- The line.

is-line : (word : Text) (values : List Text) → list_any is_dashed (word ∷ values) ≡ false → length values ≤ 5 → line_of (word ∷ values) ≡ Some (word ∷ values)
is-line word values none few =
    let words = word ∷ values in
    let test : is_line words ≡ true = ap₂ (λ a b. not a && b) none (ap₂ (λ a b. a && b) (lt-ltb 0 (length words) (omega arith)) (lt-ltb (length words) 7 (omega arith))) in
    ap (λ b. cond b (Some words) None) test

pub dashed-line : (words : List Text) → list_any is_dashed words ≡ true → None ≡ line_of words
dashed-line words dashed =
    sym (ap (λ b. cond (not b && (nat_lt 0 (length words) && nat_lt (length words) 7)) (Some words) None) dashed)

-- where `clap` gave matches
pub matched-line : (words : List Text) (rows : List Row) → list_any is_dashed words ≡ false → rows ≡ matches_of line_app words → fault_of line_app words ≡ [] → gathered rows ≡ line_of words
unfolding clap_on_literals
matched-line [] rows none are quiet = ap gathered are
matched-line (word ∷ values) rows none are quiet =
    let plain = are-plain (word ∷ values) none in
    ap gathered are ∙ line-gathered word values plain ∙ sym (is-line word values none (few-values word values plain quiet))

-- where it gave none, and not for want of memory
pub refused-line : (words : List Text) → list_any is_dashed words ≡ false → (takes line_app words ≡ true → ⊥) → None ≡ line_of words
refused-line [] none refused = refl
refused-line (word ∷ values) none refused = elim (leb_tells (length values) 5) [
  | inl few ↦ absurd (refused (takes-line word values (are-plain (word ∷ values) none) few.1))
  | inr many ↦
      let words = word ∷ values in
      let dashless = not (list_any is_dashed words) in
      let some = nat_lt 0 (length words) in
      let test : is_line words ≡ false = ap (λ few. dashless && (some && few)) (le-ltb (length words) 7 (omega arith)) ∙ ap (λ b. dashless && b) (and-false some) ∙ and-false dashless in
      sym (ap (λ b. cond b (Some words) None) test)
]
