-- Bytes that lie beside a write are those that lay there before; and the slots of two records that wrap lie beside each other.
use Rattle.std.proofs.Common.{◌≡◌, ◌≢◌, ℕ, ◌+◌, ◌*◌, ◌/◌, ◌%◌, ◌<◌, ◌≤◌, ◌⊎◌, inl, inr, List, length, take, drop, get_or, ap, sym, ◌∙◌, arith, length-drop}
use Rattle.std.proofs.lemmas.Bool.{cases_lt}
use Rattle.std.proofs.lemmas.List.{length-take, ext_get_or, get_or-take, get_or-drop}
use Rattle.std.proofs.Math.Nat.{mul-le-mul_left, mul-le-mul_right}
use Rattle.disk_model.specs.Disk.{overwritten}
use Rattle.disk_model.proofs.Tearing.{length-overwritten, overwritten_outside}

pub beside : (file bytes own : List ℕ) (at o : ℕ) → at ≤ length file → (o + length own ≤ at) ⊎ (at + length bytes ≤ o) → take (length own) (drop o (overwritten file at bytes)) ≡ own → take (length own) (drop o file) ≡ own
beside file bytes own at o within apart is =
    let now = overwritten file at bytes in
    let count = length own in
    let long = length-overwritten file bytes at within in
    let whole : length (take count (drop o now)) ≡ count = ap length is in
    let taken = length-take count (drop o now) in
    let dropped = length-drop o now in
    let taken_before = length-take count (drop o file) in
    let dropped_before = length-drop o file in
    let same : length (take count (drop o file)) ≡ count = elim apart [
      | inl front ↦ omega (arith, front, within, taken_before, dropped_before)
      | inr behind ↦ omega (arith, behind, long, whole, taken, dropped, taken_before, dropped_before)
    ] in
    ext_get_or 0 (take count (drop o file)) own same
    (λ place less.
    let before : place < count = omega (arith, less, same) in
    get_or-take count (drop o file) place 0 before ∙ get_or-drop o file place 0
    ∙ sym (overwritten_outside file bytes at (o + place) within (outside apart place before))
    ∙ sym (get_or-drop o now place 0) ∙ sym (get_or-take count (drop o now) place 0 before) ∙ ap (λ l. get_or l place 0) is) where
      outside : (o + length own ≤ at) ⊎ (at + length bytes ≤ o) → (place : ℕ) → place < length own → (o + place < at) ⊎ (at + length bytes ≤ o + place)
      outside (inl front) place less = inl (omega (arith, front, less))
      outside (inr behind) place less = inr (omega (arith, behind))

-- slots of records that wrap

times-apart : (size one other : ℕ) → one < other → one * size + size ≤ other * size
times-apart size one other less =
    let le : (one + 1) * size ≤ other * size = mul-le-mul_right size (omega (arith, less)) in omega (arith, le)

-- fewer than n numbers apart, two numbers have different rests
rests-apart : (n k t : ℕ) → 0 < n → k < t → t < k + n → k % n ≢ t % n
rests-apart n k t some less near same = by_case (cases_lt (k / n) (t / n)) where
  by_case : (k / n < t / n) ⊎ (t / n ≤ k / n) → ⊥
  by_case (inl up) =
      let le : n * (k / n + 1) ≤ n * (t / n) = mul-le-mul_left n (omega (arith, up)) in absurd (omega (arith, le, some, less, near, same))
  by_case (inr down) =
      let le : n * (t / n) ≤ n * (k / n) = mul-le-mul_left n down in absurd (omega (arith, le, some, less, near, same))

pub slots-apart : (n size k t : ℕ) → 0 < n → k < t → t < k + n → (k % n * size + size ≤ t % n * size) ⊎ (t % n * size + size ≤ k % n * size)
slots-apart n size k t some less near = by_case (cases_lt (k % n) (t % n)) (cases_lt (t % n) (k % n)) where
  by_case : (k % n < t % n) ⊎ (t % n ≤ k % n) → (t % n < k % n) ⊎ (k % n ≤ t % n) → (k % n * size + size ≤ t % n * size) ⊎ (t % n * size + size ≤ k % n * size)
  by_case (inl below) other = inl (times-apart size (k % n) (t % n) below)
  by_case (inr above) (inl behind) = inr (times-apart size (t % n) (k % n) behind)
  by_case (inr above) (inr not_behind) = absurd (rests-apart n k t some less near (omega (arith, above, not_behind)))
