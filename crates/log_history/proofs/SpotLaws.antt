-- Where the record of a number stands among the records of a file that wraps.
use Rattle.std.proofs.Common.{◌≡◌, ℕ, zero, suc, ◌+◌, ◌-◌, ◌*◌, ◌/◌, ◌%◌, ◌<◌, ◌≤◌, ◌⊎◌, inl, inr, List, [], ◌∷◌, ◌++◌, length, take, drop, get_or, sym, ap, ◌∙◌, arith, length-append, length-drop, length-take}
use Rattle.std.specs.List.{concat}
use Rattle.std.proofs.lemmas.Bool.{cases_lt}
use Rattle.std.proofs.lemmas.List.{get_or-take, get_or-drop, get_or_append_left, get_or-append_right, take_at, drop_at, drop-drop}
use Rattle.std.proofs.lemmas.List.Elements.{All-head, All-tail}
use Rattle.std.proofs.lemmas.Nat.{div-add-mod'}
use Rattle.std.proofs.Math.Nat.{mul-le-mul_right}
use Rattle.stream_layout.specs.LogFiles.{round_of, overlaid}
use Rattle.stream_layout.proofs.Rounds.{AreOfSize, length-running, overlaid_is}

-- records of one size one after another
pub concat-slice : (size : ℕ) (records : List (List ℕ)) (number : ℕ) → AreOfSize size records → number < length records → take size (drop (number * size) (concat records)) ≡ get_or records number []
concat-slice size [] number sizes within = absurd (omega (arith, within))
concat-slice size (first ∷ records) zero sizes within =
    let whole = All-head (λ (bytes : List ℕ). length bytes ≡ size) first records sizes in
    let none : zero * size ≡ 0 = omega arith in
    ap (λ at. take size (drop at (first ++ concat records))) none ∙ take_at first (concat records) size whole
concat-slice size (first ∷ records) (suc number) sizes within =
    let whole = All-head (λ (bytes : List ℕ). length bytes ≡ size) first records sizes in
    let more : suc number * size ≡ size + number * size = omega arith in
    ap (λ at. take size (drop at (first ++ concat records))) more
    ∙ ap (take size) (sym (drop-drop (number * size) size (first ++ concat records)) ∙ ap (drop (number * size)) (drop_at first (concat records) size whole))
    ∙ concat-slice size records number (All-tail (λ (bytes : List ℕ). length bytes ≡ size) first records sizes) (omega (arith, within))

-- a record stands at an index of others
pub record IsAmong (others : List (List ℕ)) (index : ℕ) (bytes : List ℕ) : Type 0 where
  pub within : index < length others
  pub is : get_or others index [] ≡ bytes

-- the records of a round
round-has : (n round rest : ℕ) (records : List (List ℕ)) → rest < n → round * n + rest < length records → IsAmong (round_of n round records) rest (get_or records (round * n + rest) [])
round-has n round rest records small within =
    let long = length-take n (drop (round * n) records) in
    let behind = length-drop (round * n) records in
    record {
      within = omega (arith, long, behind, small, within);
      is = get_or-take n (drop (round * n) records) rest [] small ∙ get_or-drop (round * n) records rest [];
    }

-- a record of the last round
last-round : (n round rest index : ℕ) (records : List (List ℕ)) → rest < n → length records ≡ round * n + rest → index < rest → IsAmong (overlaid n records) index (get_or records (round * n + index) [])
last-round n round rest index records small is early =
    let parts = overlaid_is n round rest records small is in
    let front = drop (round * n) records in
    let behind = drop rest (round_of n (round - 1) records) in
    let running : length front ≡ rest = length-running n round rest records is in
    let whole = ap length parts ∙ length-append front behind in
    record {
      within = omega (arith, whole, running, early);
      is = ap (λ these. get_or these index []) parts ∙ get_or_append_left front behind [] index (omega (arith, running, early)) ∙ get_or-drop (round * n) records index [];
    }

-- a record of the round before
round-before : (n round rest index : ℕ) (records : List (List ℕ)) → rest < n → length records ≡ (round + 1) * n + rest → rest ≤ index → index < n → IsAmong (overlaid n records) index (get_or records (round * n + index) [])
round-before n round rest index records small is late low =
    let parts = overlaid_is n (round + 1) rest records small is in
    let one : round + 1 - 1 ≡ round = omega arith in
    let front = drop ((round + 1) * n) records in
    let before = round_of n (round + 1 - 1) records in
    let running : length front ≡ rest = length-running n (round + 1) rest records is in
    let there = round-has n round index records low (omega (arith, is, low)) in
    let same : length before ≡ length (round_of n round records) = ap (λ r. length (round_of n r records)) one in
    let left = length-drop rest before in
    let whole = ap length parts ∙ length-append front (drop rest before) in
    let back : rest + (index - rest) ≡ index = omega (arith, late) in
    record {
      within = omega (arith, whole, running, left, same, there.within, late);
      is = ap (λ these. get_or these index []) parts
          ∙ get_or-append_right front (drop rest before) rest index [] running late
          ∙ get_or-drop rest before (index - rest) []
          ∙ ap (λ i. get_or before i []) back
          ∙ ap (λ r. get_or (round_of n r records) index []) one
          ∙ there.is;
    }

-- a record by its round and its rest
pub wrapped : (n number : ℕ) (records : List (List ℕ)) → 0 < n → number < length records → length records ≤ number + n → IsAmong (overlaid n records) (number % n) (get_or records number [])
wrapped n number records some within kept =
    by_round (length records / n) (length records % n) (omega arith) (sym (div-add-mod' (length records) n)) (number / n) (number % n) (omega arith) (sym (div-add-mod' number n)) where
      own_round : (round rest own index : ℕ) → rest < n → length records ≡ round * n + rest → index < n → number ≡ own * n + index → (own ≡ round) ⊎ (round ≡ own + 1)
      own_round round rest own index small is low at = by_case (cases_lt own round) (cases_lt (own + 1) round) (cases_lt round own) where
        by_case : (own < round) ⊎ (round ≤ own) → (own + 1 < round) ⊎ (round ≤ own + 1) → (round < own) ⊎ (own ≤ round) → (own ≡ round) ⊎ (round ≡ own + 1)
        by_case before (inl far) other = absurd (let le : own + 2 ≤ round = omega (arith, far) in let more : (own + 2) * n ≤ round * n = mul-le-mul_right n le in omega (arith, more, is, at, kept, low))
        by_case before (inr near) (inl beyond) = absurd (let le : round + 1 ≤ own = omega (arith, beyond) in let more : (round + 1) * n ≤ own * n = mul-le-mul_right n le in omega (arith, more, is, at, within, small))
        by_case (inl before) (inr near) (inr other) = inr (omega (arith, before, near))
        by_case (inr behind) (inr near) (inr other) = inl (omega (arith, behind, other))

      by_round : (round rest : ℕ) → rest < n → length records ≡ round * n + rest → (own index : ℕ) → index < n → number ≡ own * n + index → IsAmong (overlaid n records) index (get_or records number [])
      by_round round rest small is own index low at = by_own (own_round round rest own index small is low at) where
        by_own : (own ≡ round) ⊎ (round ≡ own + 1) → IsAmong (overlaid n records) index (get_or records number [])
        by_own (inl same) =
            let long : length records ≡ own * n + rest = is ∙ ap (λ r. r * n + rest) (sym same) in
            let there = last-round n own rest index records small long (omega (arith, long, at, within)) in
            record { within = there.within; is = there.is ∙ ap (λ k. get_or records k []) (sym at) }
        by_own (inr next) =
            let long : length records ≡ (own + 1) * n + rest = is ∙ ap (λ r. r * n + rest) next in
            let there = round-before n own rest index records small long (omega (arith, long, at, kept)) low in
            record { within = there.within; is = there.is ∙ ap (λ k. get_or records k []) (sym at) }
