-- The first line of some bytes.
use Rattle.std.proofs.Common.{◌≡◌, ℕ, suc, ◌+◌, ◌-◌, ◌<◌, ◌≤◌, Bool, true, false, not, cond, ◌==◌, List, [], ◌∷◌, length, take, drop, refl, sym, ap, ◌∙◌, arith}
use Rattle.std.specs.List.{position_or_len}
use Rattle.std.proofs.lemmas.List.{take_all, drop_all, length-drop}
use Rattle.std.proofs.Math.Numerals.{one-add, add-one}
use Rattle.script_language.specs.Scripts.{raw_lines, with_first}

-- where the first LF stands, or the length
abbrev end_of : List ℕ → ℕ
end_of bytes = position_or_len (λ byte. byte == 10) bytes

-- the bytes up to the first LF are the first line, and those behind it the others
pub raw_lines_split : (bytes : List ℕ) → 0 < length bytes → raw_lines bytes ≡ take (end_of bytes) bytes ∷ raw_lines (drop (suc (end_of bytes)) bytes)
raw_lines_split [] some = absurd (omega arith)
raw_lines_split (b ∷ []) some =
    let at : (t : Bool) → cond t ([] ∷ []) ((b ∷ []) ∷ []) ≡ take (cond (not t) (1 + 0) 0) (b ∷ []) ∷ raw_lines (drop (suc (cond (not t) (1 + 0) 0)) (b ∷ [])) = elim [
      | true ↦ refl
      | false ↦ refl
    ] in
    at (b == 10)
raw_lines_split (b ∷ c ∷ bytes) some =
    let more = raw_lines_split (c ∷ bytes) (omega arith) in
    let k = end_of (c ∷ bytes) in
    let at : (t : Bool) → cond t ([] ∷ raw_lines (c ∷ bytes)) (with_first b (raw_lines (c ∷ bytes))) ≡ take (cond (not t) (1 + k) 0) (b ∷ c ∷ bytes) ∷ raw_lines (drop (suc (cond (not t) (1 + k) 0)) (b ∷ c ∷ bytes)) = elim [
      | true ↦ refl
      | false ↦ rw (one-add, more) refl
    ] in
    at (b == 10)

-- the first line, and the rest as a slice to the end has it
pub first_and_rest : (bytes : List ℕ) (end : ℕ) → 0 < length bytes → end ≡ end_of bytes
    → raw_lines bytes ≡ take end bytes ∷ raw_lines (take (length bytes - (end + 1)) (drop (end + 1) bytes))
first_and_rest bytes end some e =
    let rest : take (length bytes - (end + 1)) (drop (end + 1) bytes) ≡ drop (suc end) bytes =
    take_all (length bytes - (end + 1)) (drop (end + 1) bytes) (omega (arith, length-drop (end + 1) bytes)) ∙ ap (λ k. drop k bytes) (add-one end) in
    raw_lines_split bytes some ∙ ap (λ k. take k bytes ∷ raw_lines (drop (suc k) bytes)) (sym e) ∙ ap (λ x. take end bytes ∷ raw_lines x) (sym rest)

-- bytes without LF are one line
pub one_line : (bytes : List ℕ) (end : ℕ) → 0 < length bytes → end ≡ end_of bytes → length bytes ≤ end → raw_lines bytes ≡ bytes ∷ []
one_line bytes end some e long =
    let whole = take_all end bytes long in
    let none : drop (suc end) bytes ≡ [] = drop_all (suc end) bytes (omega arith) in
    raw_lines_split bytes some ∙ ap (λ k. take k bytes ∷ raw_lines (drop (suc k) bytes)) (sym e) ∙ ap (λ x. x ∷ raw_lines (drop (suc end) bytes)) whole ∙ ap (λ x. bytes ∷ raw_lines x) none
