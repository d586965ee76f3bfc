-- What a window keeps of all replies, one reply after another, and how the numbers of calls lead to them.
use Rattle.std.proofs.Common.{◌≡◌, ℕ, suc, ◌+◌, ◌-◌, ◌<◌, ◌≤◌, ◌==◌, min, List, [], ◌∷◌, ◌++◌, length, take, drop, reverse, replicate, Some, get_or, sym, ◌∙◌, ap, inl, inr, arith, length-take, length-append}
use Rattle.std.proofs.lemmas.List.{take-take, length-replicate, take-append-le, take_all, append-nil, get_or-take, length-reverse}
use Rattle.std.proofs.lemmas.Grind.{reverse_onto}
use Rattle.std.proofs.lemmas.Bool.{cases_eq, cases_lt, cond-true, cond-false, eq-eqb, ne_eqb}
use Rattle.client_window.specs.Windows.{Kept, window_of, HasRepliesBefore}
use Rattle.client_window.specs.Judgement.{taken_under, forgotten}

-- where 32 are kept, all but the oldest are the last 31
pub newest : {R : Type 0} (kept : List R) → length kept ≡ 32 → reverse (drop 1 kept) ≡ take 31 (reverse kept)
newest [] full = absurd (omega arith)
newest (oldest ∷ others) full =
    let count = length-reverse others in
    sym (ap (take 31) (reverse_onto others oldest []) ∙ take-append-le 31 (reverse others) (oldest ∷ []) (omega arith) ∙ take_all 31 (reverse others) (omega arith))

-- where fewer are kept, all of them are
pub all_kept : {R : Type 0} (kept : List R) → length kept < 32 → reverse kept ≡ take 31 (reverse kept)
all_kept kept fewer =
    let count = length-reverse kept in
    sym (take_all 31 (reverse kept) (omega arith))

-- what is kept, and the next reply, make what is kept then
pub window_of-more : {R : Type 0} (reply : R) (all : List R) (next : ℕ) (kept now : List R) → ◌≡◌ {A = Kept R} (record { next = next; replies = kept }) (window_of all) → now ≡ take 32 (reply ∷ kept) → ◌≡◌ {A = Kept R} (record { next = next + 1; replies = now }) (window_of (reply ∷ all))
window_of-more {R} reply all next kept now is added =
    let number : next + 1 ≡ length (reply ∷ all) + 1 = omega (arith, ap (λ (window : Kept R). window.next) is) in
    let replies : now ≡ take 32 (reply ∷ all) = added ∙ ap (λ (replies : List R). reply ∷ take 31 replies) (ap (λ (window : Kept R). window.replies) is) ∙ ap (λ (replies : List R). reply ∷ replies) (take-take 31 32 all (omega arith)) in
    λ i. record { next = number i; replies = replies i }

-- one reply more is kept, while they are at most 32
pub HasRepliesBefore-more : {R : Type 0} (next : ℕ) (reply : R) (kept now : List R) → HasRepliesBefore next (length kept) → reverse now ≡ take 32 (reply ∷ reverse kept) → HasRepliesBefore (next + 1) (length now)
HasRepliesBefore-more next reply kept now before added =
    let old = length-reverse kept in
    let new = length-reverse now in
    record {
      first = omega arith;
      kept = omega (arith, ap length added, length-take 32 (reply ∷ reverse kept), before.first, before.kept);
    }

-- the reply under a number stands as far from the front as calls were answered after it
taken_under_at : {R : Type 0} (seq : ℕ) (all : List R) (d : R) → 1 ≤ seq → seq ≤ length all → taken_under seq all ≡ Some (get_or all (length all - seq) d)
taken_under_at seq [] d low high = absurd (omega arith)
taken_under_at {R} seq (reply ∷ before) d low high =
    let older = taken_under seq before in
    elim (cases_eq seq (length before + 1)) [
      | inl newest ↦
          let first : suc (length before) - seq ≡ 0 = omega arith in
          cond-true (seq == length before + 1) (Some reply) older (eq-eqb _ _ newest) ∙ sym (ap (λ (place : ℕ). Some (get_or (reply ∷ before) place d)) first)
      | inr other ↦
          let behind : suc (length before) - seq ≡ suc (length before - seq) = omega arith in
          cond-false (seq == length before + 1) (Some reply) older (ne_eqb _ _ other) ∙ taken_under_at seq before d low (omega arith) ∙ sym (ap (λ (place : ℕ). Some (get_or (reply ∷ before) place d)) behind)
    ]

-- a reply that is found among those that are kept was taken under the number
pub taken_under_kept : {R : Type 0} (next seq : ℕ) (all kept : List R) (reply : R) → ◌≡◌ {A = Kept R} (record { next = next; replies = kept }) (window_of all) → seq < next → next - seq - 1 < length kept → reply ≡ get_or kept (next - seq - 1) reply → (forgotten all < seq) × (taken_under seq all ≡ Some reply)
taken_under_kept {R} next seq all kept reply is before within found =
    let number : next ≡ length all + 1 = ap (λ (window : Kept R). window.next) is in
    let replies : kept ≡ take 32 all = ap (λ (window : Kept R). window.replies) is in
    let count : length kept ≡ min 32 (length all) = ap length replies ∙ length-take 32 all in
    let place : next - seq - 1 ≡ length all - seq = omega arith in
    let from : reply ≡ get_or all (length all - seq) reply = found ∙ ap (λ (i : ℕ). get_or kept i reply) place ∙ ap (λ (xs : List R). get_or xs (length all - seq) reply) replies ∙ get_or-take 32 all (length all - seq) reply (omega arith) in
    (omega arith, taken_under_at seq all reply (omega arith) (omega arith) ∙ sym (ap Some from))

-- 32 replies, or fewer with none behind them, are the last 32 of all
front_of : {R : Type 0} (kept : List R) (n : ℕ) (d : R) → length kept ≤ 32 → (length kept < 32 → n ≡ 0) → kept ≡ take 32 (kept ++ replicate n d)
front_of kept n d bound none =
    elim (cases_lt (length kept) 32) [
      | inl fewer ↦ sym (ap (λ m. take 32 (kept ++ replicate m d)) (none fewer) ∙ ap (take 32) (append-nil kept) ∙ take_all 32 kept bound)
      | inr many ↦ sym (take-append-le 32 kept (replicate n d) many ∙ take_all 32 kept bound)
    ]

-- so many replies before the next call are those of some list
pub window_of-some : {R : Type 0} (next : ℕ) (kept : List R) → HasRepliesBefore next (length kept) → (all : List R) × (◌≡◌ {A = Kept R} (record { next = next; replies = kept }) (window_of all))
window_of-some {R} next [] before =
    let number : next ≡ 1 = omega (arith, before.first, before.kept) in
    ([], λ i. record { next = number i; replies = [] })
window_of-some {R} next (reply ∷ others) before =
    let kept : List R = reply ∷ others in
    let older : List R = replicate (next - 1 - length kept) reply in
    let count : length (kept ++ older) ≡ length kept + (next - 1 - length kept) = length-append kept older ∙ ap (λ (n : ℕ). length kept + n) (length-replicate (next - 1 - length kept) reply) in
    let number : next ≡ length (kept ++ older) + 1 = omega (arith, count, before.first, before.kept) in
    let front : kept ≡ take 32 (kept ++ older) = front_of kept _ reply (omega (arith, before.kept)) (λ fewer. omega (arith, before.kept, before.first)) in
    (kept ++ older, λ i. record { next = number i; replies = front i })
