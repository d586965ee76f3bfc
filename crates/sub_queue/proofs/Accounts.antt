-- What holds of a subscription whatever happened to it.
use Rattle.std.proofs.Common.{◌≡◌, ℕ, ◌+◌, ◌-◌, ◌<◌, ◌≤◌, Bool, true, false, ◌&&◌, nat_lt, nat_le, cond, ◌⊎◌, inl, inr, suc, List, [], ◌∷◌, ◌++◌, length, drop, refl, ap, sym, subst, ◌∙◌, arith, append_assoc, length-append, length-drop, add_comm}
use Rattle.std.proofs.lemmas.Bool.Decides.{leb_tells}
use Rattle.std.proofs.lemmas.Bool.{leb-true, le-leb, and_parts}
use Rattle.std.specs.Bool.{Decides}
use Rattle.std.specs.Cmp.Derive.{both_true}
use Rattle.std.proofs.lemmas.List.{append-nil, drop-append-le, drop-drop}
use Rattle.ntf_types.specs.declared.notification.Notification.{Notification}
use Rattle.sub_queue.specs.declared.item.Lost.{Lost}
use Rattle.sub_queue.specs.declared.item.Content.{Content}
use Rattle.sub_queue.specs.declared.item.Content.TheVariants.{Notified}
use Rattle.sub_queue.specs.Items.{mark_of, discarded, marks_of, marks_in, numbered}
use Rattle.sub_queue.specs.Queue.{Queue, IsNew, IsCapacity, IsSound, next_number, has_room, offered, received}
use Rattle.sub_queue.specs.History.{Happening, Account, has_place, is_new_receipt, after_offer, after_receipt, account_of, marks_offered, queue_for}
use Rattle.sub_queue.specs.History.Happening.{Offered, Receipted}
use Rattle.sub_queue.proofs.Keeping.{drop-numbered, length-discarded}

-- the account after an offer, by whether a place was free
abbrev offer_by : Notification → Account → Bool → Account
offer_by notification account place = record {
  made = cond place (account.made ++ Notified notification ∷ []) account.made;
  through = account.through;
  lost = cond place account.lost (account.lost ++ mark_of notification ∷ []);
}

-- the account after a receipt, by whether it is new
abbrev receipt_by : ℕ → Account → Bool → Account
receipt_by through account new = record {
  made = cond new (account.made ++ discarded account.lost) account.made;
  through = cond new through account.through;
  lost = cond new [] account.lost;
}

-- receipts go no further than the items made, no more items are held than places, and something is lost only while all places are taken
pub record IsPossible (capacity : ℕ) (account : Account) : Type 0 where
  pub receipts : account.through ≤ length account.made
  pub places : length account.made - account.through ≤ capacity
  pub lost : (account.lost ≡ []) ⊎ (capacity ≤ length account.made - account.through)

-- where a place is free, nothing is lost
none_lost : (capacity : ℕ) (account : Account) → IsPossible capacity account → length account.made - account.through < capacity → account.lost ≡ []
none_lost capacity account possible place =
    elim possible.lost [ inl none ↦ none | inr full ↦ absurd (omega arith) ]

IsPossible-offer : (capacity : ℕ) (notification : Notification) (account : Account) → IsPossible capacity account → IsPossible capacity (after_offer capacity notification account)
IsPossible-offer capacity notification account possible =
    let P : Bool → Type 0 = λ place. IsPossible capacity (offer_by notification account place) in
    let more = length-append account.made (Notified notification ∷ []) in
    let receipts = possible.receipts in
    let places = possible.places in
    elim (leb_tells (suc (length account.made - account.through)) capacity) [
      | inl room ↦ subst P (sym room.0) (record { receipts = omega arith; places = omega arith; lost = inl (none_lost capacity account possible room.1) })
      | inr full ↦ subst P (sym full.0) (record { receipts = receipts; places = places; lost = inr (omega arith) })
    ]

-- two tests hold both, or not
both_tests : (a b : Bool) → ((a && b) ≡ true) ⊎ ((a && b) ≡ false)
both_tests true true = inl refl
both_tests true false = inr refl
both_tests false b = inr refl

IsPossible-receipt : (capacity through : ℕ) (account : Account) → IsPossible capacity account → IsPossible capacity (after_receipt through account)
IsPossible-receipt capacity through account possible =
    let P : Bool → Type 0 = λ new. IsPossible capacity (receipt_by through account new) in
    let more = length-append account.made (discarded account.lost) in
    let one = length-discarded account.lost in
    let places = possible.places in
    elim (both_tests (nat_lt account.through through) (nat_le through (length account.made))) [
      | inl new ↦ elim (leb_tells through (length account.made)) [
        | inl within ↦
            let made = within.1 in
            let after = leb-true (suc account.through) through (and_parts (nat_lt account.through through) (nat_le through (length account.made)) new).0 in
            subst P (sym new) (record { receipts = omega arith; places = omega arith; lost = inl refl })
        | inr beyond ↦ let tests = and_parts (nat_lt account.through through) (nat_le through (length account.made)) new in absurd (cc (beyond.0, tests.1))
      ]
      | inr old ↦ subst P (sym old) possible
    ]

-- each account of what happened is possible
pub account_of-possible : (capacity : ℕ) (past : List Happening) → IsPossible capacity (account_of capacity past)
account_of-possible capacity [] = record { receipts = omega arith; places = omega arith; lost = inl refl }
account_of-possible capacity (Offered notification ∷ past) =
    IsPossible-offer capacity notification (account_of capacity past) (account_of-possible capacity past)
account_of-possible capacity (Receipted through ∷ past) =
    IsPossible-receipt capacity through (account_of capacity past) (account_of-possible capacity past)

pub marks_in-append : (front back : List Content) → marks_in (front ++ back) ≡ marks_in front ++ marks_in back
marks_in-append [] back = refl
marks_in-append (content ∷ front) back =
    ap (λ marks. marks_of content ++ marks) (marks_in-append front back) ∙ sym (append_assoc (marks_of content) (marks_in front) (marks_in back))

marks_in-discarded : (lost : List Lost) → marks_in (discarded lost) ≡ lost
marks_in-discarded [] = refl
marks_in-discarded (first ∷ others) = append-nil (first ∷ others)

-- the marks of an account: those in its items, and then those lost
abbrev pub marks_told : Account → List Lost
marks_told account = marks_in account.made ++ account.lost

-- an offer adds its mark at the end
marks_told-offer : (capacity : ℕ) (notification : Notification) (account : Account) → IsPossible capacity account → marks_told (after_offer capacity notification account) ≡ marks_told account ++ mark_of notification ∷ []
marks_told-offer capacity notification account possible =
    let mark = mark_of notification in
    let P : Bool → Type 0 = λ place. marks_told (offer_by notification account place) ≡ marks_told account ++ mark ∷ [] in
    elim (leb_tells (suc (length account.made - account.through)) capacity) [
      | inl room ↦
          let none = none_lost capacity account possible room.1 in
          let made : marks_in (account.made ++ Notified notification ∷ []) ≡ marks_in account.made ++ mark ∷ [] = marks_in-append account.made (Notified notification ∷ []) in
          let Told : List Lost → Type 0 = λ lost. marks_in (account.made ++ Notified notification ∷ []) ++ lost ≡ (marks_in account.made ++ lost) ++ mark ∷ [] in
          subst P (sym room.0) (subst Told (sym none) (append-nil _ ∙ made ∙ ap (λ marks. marks ++ mark ∷ []) (sym (append-nil (marks_in account.made)))))
      | inr full ↦ subst P (sym full.0) (sym (append_assoc (marks_in account.made) account.lost (mark ∷ [])))
    ]

-- a receipt leaves the marks as they are
marks_told-receipt : (through : ℕ) (account : Account) → marks_told (after_receipt through account) ≡ marks_told account
marks_told-receipt through account =
    elim (is_new_receipt through account) as (λ new. marks_told (receipt_by through account new) ≡ marks_told account) [
      | true ↦ append-nil _ ∙ marks_in-append account.made (discarded account.lost) ∙ ap (λ marks. marks_in account.made ++ marks) (marks_in-discarded account.lost)
      | false ↦ refl
    ]

-- all marks that were offered stand in the items made, and then among the lost
pub marks_told-account_of : (capacity : ℕ) (past : List Happening) → marks_told (account_of capacity past) ≡ marks_offered past
marks_told-account_of capacity [] = refl
marks_told-account_of capacity (Offered notification ∷ past) =
    marks_told-offer capacity notification (account_of capacity past) (account_of-possible capacity past) ∙ ap (λ marks. marks ++ mark_of notification ∷ []) (marks_told-account_of capacity past)
marks_told-account_of capacity (Receipted through ∷ past) =
    marks_told-receipt through (account_of capacity past) ∙ marks_told-account_of capacity past

-- what is held after one item more
held_more : (place : Bool) (through : ℕ) (made : List Content) (content : Content) → through ≤ length made → cond place (drop through made ++ content ∷ []) (drop through made) ≡ drop through (cond place (made ++ content ∷ []) made)
held_more true through made content receipts = sym (drop-append-le through made (content ∷ []) receipts)
held_more false through made content receipts = refl

-- an offer makes of the queue that stands for an account the one that stands for the account after it
pub offered-queue_for : (capacity : ℕ) (notification : Notification) (account : Account) → IsPossible capacity account → offered notification (queue_for capacity account) ≡ queue_for capacity (after_offer capacity notification account)
offered-queue_for capacity notification account possible =
    let content = Notified notification in
    let held = drop account.through account.made in
    let same : has_room (queue_for capacity account) ≡ has_place capacity account = ap (λ count. nat_lt count capacity) (length-drop account.through account.made) in
    let held_same = ap (λ place. cond place (held ++ content ∷ []) held) same ∙ held_more (has_place capacity account) account.through account.made content possible.receipts in
    let lost_same = ap (λ place. cond place account.lost (account.lost ++ mark_of notification ∷ [])) same in
    λ i. record { capacity = capacity; first = account.through + 1; held = held_same i; lost = lost_same i }

-- a receipt is new for an account exactly where it is for the queue that stands for it
pub is_new_receipt-decides : (capacity through : ℕ) (account : Account) → Decides (is_new_receipt through account) (IsNew through (queue_for capacity account))
is_new_receipt-decides capacity through account =
    let long = length-drop account.through account.made in (
      λ e.
          let tests = and_parts (nat_lt account.through through) (nat_le through (length account.made)) e in
          let after : account.through < through = leb-true (suc account.through) through tests.0 in
          let within : through ≤ length account.made = leb-true through (length account.made) tests.1 in
          record { from = omega arith; below = omega arith },
      λ new.
          let from = new.from in
          let below = new.below in
          both_true (le-leb (suc account.through) through (omega arith)) (le-leb through (length account.made) (omega arith)),
    )

-- what is held after a new receipt
held_after : (last through : ℕ) (made more : List Content) → last < through → through ≤ length made → drop (through + 1 - (last + 1)) (drop last made) ++ more ≡ drop through (made ++ more)
held_after last through made more after within =
    let moved : last + (through + 1 - (last + 1)) ≡ through = omega arith in
    ap (λ held. held ++ more) (drop-drop (through + 1 - (last + 1)) last made ∙ ap (λ k. drop k made) moved) ∙ sym (drop-append-le through made more within)

-- a new receipt makes of the queue that stands for an account the one that stands for the account after it
pub received-queue_for : (capacity through : ℕ) (account : Account) → IsNew through (queue_for capacity account) → received through (queue_for capacity account) ≡ queue_for capacity (after_receipt through account)
received-queue_for capacity through account new =
    let is_new = (is_new_receipt-decides capacity through account).1 new in
    let long = length-drop account.through account.made in
    let from = new.from in
    let below = new.below in
    let held = held_after account.through through account.made (discarded account.lost) (omega arith) (omega arith) in
    let Q : Bool → Queue = λ b. queue_for capacity (receipt_by through account b) in
    let by_new : received through (queue_for capacity account) ≡ Q true = λ i. record { capacity = capacity; first = through + 1; held = held i; lost = [] } in
    by_new ∙ ap Q (sym is_new)

-- the held items are those made without the ones that have a receipt
pub numbered-held : (through : ℕ) (made : List Content) → numbered (through + 1) (drop through made) ≡ drop through (numbered 1 made)
numbered-held through made =
    ap (λ number. numbered number (drop through made)) (add_comm through 1) ∙ sym (drop-numbered through 1 made)

-- what is held are the items made that have no receipt: at most as many as there are places
pub held-places : (capacity : ℕ) (account : Account) → IsPossible capacity account → length (queue_for capacity account).held ≤ capacity
held-places capacity account possible =
    let held = length-drop account.through account.made in
    let places = possible.places in
    omega arith

-- the next item's number is one above the count of items made
pub next_number-made : (capacity : ℕ) (account : Account) → IsPossible capacity account → next_number (queue_for capacity account) ≡ length account.made + 1
next_number-made capacity account possible =
    let held = length-drop account.through account.made in
    let receipts = possible.receipts in
    omega arith

-- while numbers are left, the queue that stands for an account is sound
pub queue_for-sound : (capacity : ℕ) (account : Account) → IsPossible capacity account → IsCapacity capacity → length account.made < 4294967295 → IsSound (queue_for capacity account)
queue_for-sound capacity account possible fits left =
    let held = length-drop account.through account.made in
    let receipts = possible.receipts in
    let places = possible.places in
    let next = next_number-made capacity account possible in
    record {
      capacity = fits;
      first = omega arith;
      numbers = omega arith;
      places = held-places capacity account possible;
      lost = elim possible.lost [ inl none ↦ inl none | inr full ↦ inr (omega arith) ];
    }
