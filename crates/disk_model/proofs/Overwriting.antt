-- What is put over bytes in place, one byte after another and in parts.
use Rattle.std.proofs.Common.{◌≡◌, ℕ, zero, suc, ◌+◌, ◌<◌, ◌≤◌, List, [], ◌∷◌, ◌++◌, length, get_or, set, take, drop, refl, sym, ap, ◌∙◌, arith, add-one, zero-add, length-append}
use lib.Seq.{paste}
use Rattle.std.proofs.lemmas.List.{take_all, take_at, drop_all, append-nil, take-append-le, get_or_push, length_push}
use Rattle.std.proofs.lemmas.List.Edits.{paste_more}
use Rattle.disk_model.specs.Disk.{overwritten}
use Rattle.disk_model.specs.Memory.{torn_byte, torn_bytes}

-- a step of a loop that puts s over d from `at` on
pub overwrite_more : (d s : List ℕ) (at i : ℕ) (now : List ℕ) → now ≡ paste d at s i → at + i < length d → i < length s
    → set now (at + i) (get_or s i 0) ≡ paste d at s (i + 1)
overwrite_more d s at i now e within left = ap (λ b. set b (at + i) (get_or s i 0)) e ∙ paste_more d at s i 0 within left

-- the same from the front
pub copy_more : (d s : List ℕ) (i : ℕ) (now : List ℕ) → now ≡ paste d 0 s i → i < length d → i < length s
    → set now i (get_or s i 0) ≡ paste d 0 s (i + 1)
copy_more d s i now e within left =
    ap (λ n. set now n (get_or s i 0)) (sym (zero-add i)) ∙ overwrite_more d s 0 i now e (omega arith) left

-- one more byte put behind those that were put over d from `at` on
pub overwritten_more : (d s : List ℕ) (at y : ℕ) → at + length s < length d
    → set (overwritten d at s) (at + length s) y ≡ overwritten d at (s ++ y ∷ [])
overwritten_more d s at y within =
    let t = s ++ y ∷ [] in
    let front : take (length s) t ≡ s = take_at s (y ∷ []) (length s) refl in
    let last : get_or t (length s) 0 ≡ y = get_or_push s y 0 (length s) refl in
    let all : length t ≡ length s + 1 = length_push s y in
    let whole : take (length s + 1) t ≡ t = take_all (length s + 1) t (omega arith) in
    let step : set (paste d at t (length s)) (at + length s) (get_or t (length s) 0) ≡ paste d at t (length s + 1) =
    paste_more d at t (length s) 0 within (omega arith) in
    let now : overwritten d at s ≡ paste d at t (length s) = ap (λ u. take at d ++ u ++ drop (at + length s) d) (sym front) in
    let after : paste d at t (length s + 1) ≡ overwritten d at t =
    ap (λ u. take at d ++ u ++ drop (at + (length s + 1)) d) whole ∙ ap (λ n. take at d ++ t ++ drop (at + n) d) (sym all) in
    ap (λ u. set u (at + length s) y) now ∙ ap (λ v. set (paste d at t (length s)) (at + length s) v) (sym last) ∙ step ∙ after

-- so many torn bytes are so many
pub length-torn_bytes : (torn : List ℕ) (n : ℕ) → length (torn_bytes torn n) ≡ n
length-torn_bytes torn zero = refl
length-torn_bytes torn (suc n) = length_push (torn_bytes torn n) (torn_byte torn n) ∙ omega (arith, length-torn_bytes torn n)

-- a step of a loop that puts torn bytes over d from `at` on
pub tear_more : (d torn : List ℕ) (at i y : ℕ) (now : List ℕ) → now ≡ overwritten d at (torn_bytes torn i) → at + i < length d
    → y ≡ torn_byte torn i → set now (at + i) y ≡ overwritten d at (torn_bytes torn (i + 1))
tear_more d torn at i y now e within is =
    let n = length-torn_bytes torn i in
    let step : set (overwritten d at (torn_bytes torn i)) (at + length (torn_bytes torn i)) y ≡ overwritten d at (torn_bytes torn i ++ y ∷ []) =
    overwritten_more d (torn_bytes torn i) at y (omega arith) in
    ap (λ u. set u (at + i) y) e
    ∙ ap (λ m. set (overwritten d at (torn_bytes torn i)) (at + m) y) (sym n)
    ∙ step ∙ ap (λ z. overwritten d at (torn_bytes torn i ++ z ∷ [])) is
    ∙ ap (λ m. overwritten d at (torn_bytes torn m)) (sym (add-one i))

-- bytes put past the end of what was added behind d are put past the end of d
pub overwritten_past : (d t s : List ℕ) (at : ℕ) → at ≤ length d → length d + length t ≤ at + length s
    → overwritten (d ++ t) at s ≡ overwritten d at s
overwritten_past d t s at within past =
    let front : take at (d ++ t) ≡ take at d = take-append-le at d t within in
    let all = length-append d t in
    let none : drop (at + length s) (d ++ t) ≡ [] = drop_all (at + length s) (d ++ t) (omega arith) in
    let nothing : drop (at + length s) d ≡ [] = drop_all (at + length s) d (omega arith) in
    rw (front, none, nothing) refl

-- nothing added changes nothing
pub append_none : (d t : List ℕ) → length t ≡ 0 → d ++ t ≡ d
append_none d [] none = append-nil d
append_none d (x ∷ t) none = absurd (omega arith)
