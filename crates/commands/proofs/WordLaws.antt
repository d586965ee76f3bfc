-- Numbers among the words.
use Rattle.std.proofs.Common.{◌≡◌, ℕ, ◌^◌, ◌<◌, List, Bool, true, false, cond, ◌&&◌, Option, Some, None, refl, sym, ap, ◌∙◌, arith}
use Rattle.std.specs.Prelude.{MatchOption, nat_le}
use Rattle.std.specs.Fmt.{decimal}
use Rattle.std.specs.Str.Parse.{digits_value}
use Rattle.std.proofs.lemmas.Bool.{and_parts, leb-true, le-leb}
use Rattle.std.proofs.lemmas.Fmt.{digits_value-decimal}
use Rattle.std.proofs.lemmas.Slice.Eq.{bytes_eq-Decides}
use Rattle.script_grammar.specs.Values.{IsNumber}
use Rattle.script_grammar.proofs.Digits.{own}
use Rattle.commands.specs.Commands.{is_word, number_of}

-- a word that spells a number of the range writes it
pub number-spelled : (low high n : ℕ) (word : List ℕ) → high < 2 ^ 64 → IsNumber low high n word → number_of low high word ≡ Some n
number-spelled low high n word small spelled =
    let value : digits_value 10 word ≡ n = ap (digits_value 10) spelled.2 ∙ digits_value-decimal own n (omega (arith, spelled.1)) in
    let same : is_word word (decimal (digits_value 10 word)) ≡ true =
    (bytes_eq-Decides word (decimal (digits_value 10 word))).1 (spelled.2 ∙ ap decimal (sym value)) in
    rw (same, value, le-leb low n spelled.0, le-leb n high spelled.1) refl

-- a word that spells none writes none
pub number-unspelled : (low high : ℕ) (word : List ℕ) → ((n : ℕ) → IsNumber low high n word → ⊥) → number_of low high word ≡ None
number-unspelled low high word none =
    let value = digits_value 10 word in
    let test = is_word word (decimal value) && (nat_le low value && nat_le value high) in
    let at : (t : Bool) → test ≡ t → cond t (Some value) None ≡ None = elim [
      | true ↦ λ passes.
          let parts = and_parts (is_word word (decimal value)) (nat_le low value && nat_le value high) passes in
          let range = and_parts (nat_le low value) (nat_le value high) parts.1 in
          absurd (none value (leb-true low value range.0, leb-true value high range.1, (bytes_eq-Decides word (decimal value)).0 parts.0))
      | false ↦ λ passes. refl
    ] in
    at test refl

-- what the reading of a number gives
pub number-read : (low high : ℕ) (word : List ℕ) (found : Option ℕ) → high < 2 ^ 64 → MatchOption found ((n : ℕ) → IsNumber low high n word → ⊥) (λ n. IsNumber low high n word) → found ≡ number_of low high word
number-read low high word None small none = sym (number-unspelled low high word none)
number-read low high word (Some n) small spelled = sym (number-spelled low high n word small spelled)
