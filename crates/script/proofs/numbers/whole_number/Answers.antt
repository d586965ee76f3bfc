use Rattle.std.proofs.Common.{◌≡◌, ℕ, ◌^◌, ◌<◌, ◌==◌, Bool, true, false, List, [], length, Some, refl, sym, ◌∙◌, ap, subst, arith, append-nil}
use Rattle.std.proofs.lemmas.Bool.{eqb-true, lt-ltb}
use Rattle.std.proofs.lemmas.List.{nil_from_length}
use Rattle.std.proofs.lemmas.Option.{same_Some}
use Rattle.script_grammar.specs.Values.{IsNumber}
use Rattle.script_grammar.specs.ValueReading.{number_at}
use Rattle.script_grammar.proofs.Numbers.{number_rule}
use Rattle.script.proofs.numbers.whole_number.Goals as goal

-- what bytes that spell a number are read as
read-whole : (low high n : ℕ) (bytes : List ℕ) → high < 2 ^ 64 → IsNumber low high n bytes → number_at low high bytes ≡ Some (n, [])
read-whole low high n bytes fits spelled =
    let N : List ℕ → Type 0 = λ text. number_at low high text ≡ Some (n, []) in
    subst N (append-nil bytes) ((number_rule low high (lt-ltb high (2 ^ 64) fits)).complete n bytes [] spelled refl)

-- a number is read, and nothing is left
nothing-left : (low high value : ℕ) (bytes rest : List ℕ) (empty : Bool) → high < 2 ^ 64 → number_at low high bytes ≡ Some (value, rest) → empty ≡ (length rest == 0) → empty ≡ true → IsNumber low high value bytes
nothing-left low high value bytes rest empty fits read tested none_left =
    let none = nil_from_length rest (eqb-true (length rest) 0 (sym tested ∙ none_left)) in
    let sound = (number_rule low high (lt-ltb high (2 ^ 64) fits)).sound bytes value [] (read ∙ ap (λ (left : List ℕ). Some (value, left)) none) in
    subst (IsNumber low high value) (sym (sound.1 ∙ append-nil sound.0)) sound.2

-- or something is
more-left : (low high value : ℕ) (bytes rest : List ℕ) (empty : Bool) → high < 2 ^ 64 → number_at low high bytes ≡ Some (value, rest) → empty ≡ (length rest == 0) → empty ≡ false → (n : ℕ) → IsNumber low high n bytes → ⊥
more-left low high value bytes rest empty fits read tested some_left n spelled =
    let same = same_Some (value, rest) (n, []) (sym read ∙ read-whole low high n bytes fits spelled) in
    let none : rest ≡ [] = ap (λ (found : ℕ × List ℕ). found.1) same in
    let zero_long : (length rest == 0) ≡ true = ap (λ (left : List ℕ). length left == 0) none in
    cc

pub returns-in-None : goal.returns-in-None
returns-in-None c n spelled =
    let read = read-whole c.args.low c.args.high n c.args.bytes.now (omega arith) spelled in
    let none = c.in-None.ensures.found in
    cc

pub returns-then-is_empty : goal.returns-then-is_empty
returns-then-is_empty c =
    nothing-left c.args.low c.args.high c.in-Some.value c.args.bytes.now c.in-Some.rest.now c.is_empty.result (omega arith) c.in-Some.ensures.found c.is_empty.ensures c.if-is_empty.true

pub returns-else-is_empty : goal.returns-else-is_empty
returns-else-is_empty c =
    more-left c.args.low c.args.high c.in-Some.value c.args.bytes.now c.in-Some.rest.now c.is_empty.result (omega arith) c.in-Some.ensures.found c.is_empty.ensures c.if-is_empty.false
