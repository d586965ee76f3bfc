-- What one more change does to the items made for a subscription, to its receipts and to those that last.
use Rattle.std.proofs.Common.{◌≡◌, ℕ, ◌+◌, ◌≤◌, ◌==◌, Bool, true, false, ◌&&◌, cond, ◌⊎◌, inl, inr, List, [], ◌∷◌, ◌++◌, length, refl, ap, sym, ◌∙◌, arith, length-append}
use Rattle.std.specs.Prelude.{Option, Some, None}
use Rattle.std.proofs.lemmas.Bool.Decides.{nat_tests}
use Rattle.std.proofs.lemmas.List.{append-nil}
use Rattle.std.proofs.lemmas.Bool.{and_parts}
use Rattle.ntf_types.specs.declared.notification.Notification.{Notification}
use Rattle.ntf_filters.specs.Matching.{matches}
use Rattle.sub_queue.specs.declared.item.Content.TheVariants.{Notified}
use Rattle.sub_queue.specs.Items.{discarded}
use Rattle.sub_queue.specs.History.{Happening, Account, account_of, has_place, is_new_receipt, after_offer, after_receipt}
use Rattle.sub_queue.specs.History.{Happening as happening}
use Rattle.sub_queue.proofs.Keeping.{length-discarded}
use Rattle.client_set.specs.Members.{Stands}
use Rattle.client_set.proofs.RisingLaws.{Stands-put, Stands-without}
use Rattle.ntf_history.specs.Changes.{Sub, NtfChange}
use Rattle.ntf_history.specs.Changes.NtfChange.{Began, Ended, Subscribed, Unsubscribed, Sent, Receipted}
use Rattle.ntf_history.specs.Subscriptions.{has_id, is_of, comes_first, subs, sub_at, lasts, offered_to, happened, account, made, through_of, is_new, Extends}
use Rattle.ais_values.proofs.Basics.{pair_same}

pub Extends-same : {X : Type 0} (xs : List X) → Extends xs xs
Extends-same xs = record { more = []; is = sym (append-nil xs) }

-- an offer makes one item, or none
made-offer : (capacity : ℕ) (notification : Notification) (account : Account) → Extends account.made (after_offer capacity notification account).made
made-offer capacity notification account = placed (has_place capacity account) where
  placed : (place : Bool) → Extends account.made (cond place (account.made ++ Notified notification ∷ []) account.made)
  placed true = record { more = Notified notification ∷ []; is = refl }
  placed false = Extends-same account.made

made-receipt : (through : ℕ) (account : Account) → Extends account.made (after_receipt through account).made
made-receipt through account = taken (is_new_receipt through account) where
  taken : (new : Bool) → Extends account.made (cond new (account.made ++ discarded account.lost) account.made)
  taken true = record { more = discarded account.lost; is = refl }
  taken false = Extends-same account.made

made-offered : (capacity : ℕ) (found : Option Sub) (notification : Notification) (before : List Happening) → Extends (account_of capacity before).made (account_of capacity (offered_to found notification before)).made
made-offered capacity None notification before = Extends-same (account_of capacity before).made
made-offered capacity (Some sub) notification before = asked (matches sub.filters notification) where
  asked : (b : Bool) → Extends (account_of capacity before).made (account_of capacity (cond b (happening.Offered notification ∷ before) before)).made
  asked true = made-offer capacity notification (account_of capacity before)
  asked false = Extends-same (account_of capacity before).made

made-receipted : (capacity through : ℕ) (mine : Bool) (before : List Happening) → Extends (account_of capacity before).made (account_of capacity (cond mine (happening.Receipted through ∷ before) before)).made
made-receipted capacity through true before = made-receipt through (account_of capacity before)
made-receipted capacity through false before = Extends-same (account_of capacity before).made

-- items that were made stay made, in order: one more change adds some behind them, or none
pub made-grows : (capacity : ℕ) (change : NtfChange) (past : List NtfChange) (client key : ℕ) → Extends (made capacity past client key) (made capacity (change ∷ past) client key)
made-grows capacity (Began other) past client key = Extends-same (made capacity past client key)
made-grows capacity (Ended other) past client key = Extends-same (made capacity past client key)
made-grows capacity (Subscribed sub) past client key = Extends-same (made capacity past client key)
made-grows capacity (Unsubscribed other id) past client key = Extends-same (made capacity past client key)
made-grows capacity (Sent notification record_number) past client key =
    made-offered capacity (sub_at past client key) notification (happened past client key)
made-grows capacity (Receipted other number through) past client key =
    made-receipted capacity through (client == other && key == number && lasts past client key) (happened past client key)

-- an offer leaves the receipts alone
through-offered : (capacity : ℕ) (found : Option Sub) (notification : Notification) (before : List Happening) → (account_of capacity (offered_to found notification before)).through ≡ (account_of capacity before).through
through-offered capacity None notification before = refl
through-offered capacity (Some sub) notification before = asked (matches sub.filters notification) where
  asked : (b : Bool) → (account_of capacity (cond b (happening.Offered notification ∷ before) before)).through ≡ (account_of capacity before).through
  asked true = refl
  asked false = refl

-- a receipt of this client and key moves the number, if it is new
through-receipted : (capacity : ℕ) (client key other number through : ℕ) (alive : Bool) (before : List Happening) (mine : Bool) → (client == other && key == number && alive) ≡ mine → ((account_of capacity (cond mine (happening.Receipted through ∷ before) before)).through ≡ (account_of capacity before).through) ⊎ (Receipted other number through ≡ Receipted client key (account_of capacity (cond mine (happening.Receipted through ∷ before) before)).through)
through-receipted capacity client key other number through alive before false is = inl refl
through-receipted capacity client key other number through alive before true is = new (is_new_receipt through (account_of capacity before)) where
  new : (b : Bool) → (cond b through (account_of capacity before).through ≡ (account_of capacity before).through) ⊎ (Receipted other number through ≡ Receipted client key (cond b through (account_of capacity before).through))
  new true =
      let tests = and_parts (client == other && key == number) alive is in
      let keys = pair_same client key other number tests.0 in
      inr (ap (λ c. Receipted c number through) (sym keys.0) ∙ ap (λ k. Receipted client k through) (sym keys.1))
  new false = inl refl

-- the number of the last receipt moves by a receipt alone, which names it
pub through-moves : (capacity : ℕ) (change : NtfChange) (past : List NtfChange) (client key : ℕ) → (through_of capacity (change ∷ past) client key ≡ through_of capacity past client key) ⊎ (change ≡ Receipted client key (through_of capacity (change ∷ past) client key))
through-moves capacity (Began other) past client key = inl refl
through-moves capacity (Ended other) past client key = inl refl
through-moves capacity (Subscribed sub) past client key = inl refl
through-moves capacity (Unsubscribed other id) past client key = inl refl
through-moves capacity (Sent notification record_number) past client key =
    inl (through-offered capacity (sub_at past client key) notification (happened past client key))
through-moves capacity (Receipted other number through) past client key =
    through-receipted capacity client key other number through (lasts past client key) (happened past client key) (client == other && key == number && lasts past client key) refl

self_same : (c k : ℕ) (alive : Bool) → alive ≡ true → (c == c && k == k && alive) ≡ true
self_same c k alive is = grind (arith, nat_tests)

-- a new receipt is the last one then
pub through-received : (capacity : ℕ) (past : List NtfChange) (client key through : ℕ) → is_new capacity past client key through ≡ true → through_of capacity (Receipted client key through ∷ past) client key ≡ through
through-received capacity past client key through new =
    let tests = and_parts (lasts past client key) (is_new_receipt through (account capacity past client key)) new in
    let before = happened past client key in
    let mine = self_same client key (lasts past client key) tests.0 in
    ap (λ b. (account_of capacity (cond b (happening.Receipted through ∷ before) before)).through) mine ∙ ap (λ b. cond b through (account_of capacity before).through) tests.1

-- before any change there is no receipt
pub through-begins : (capacity client key : ℕ) → through_of capacity [] client key ≡ 0
through-begins capacity client key = refl

-- each change makes one item at most for a subscription
length-offer : (capacity : ℕ) (notification : Notification) (account : Account) → length (after_offer capacity notification account).made ≤ length account.made + 1
length-offer capacity notification account = placed (has_place capacity account) where
  placed : (place : Bool) → length (cond place (account.made ++ Notified notification ∷ []) account.made) ≤ length account.made + 1
  placed true = omega (arith, length-append account.made (Notified notification ∷ []))
  placed false = omega arith

length-offered : (capacity : ℕ) (found : Option Sub) (notification : Notification) (before : List Happening) → length (account_of capacity (offered_to found notification before)).made ≤ length (account_of capacity before).made + 1
length-offered capacity None notification before = omega arith
length-offered capacity (Some sub) notification before = asked (matches sub.filters notification) where
  asked : (b : Bool) → length (account_of capacity (cond b (happening.Offered notification ∷ before) before)).made ≤ length (account_of capacity before).made + 1
  asked true = length-offer capacity notification (account_of capacity before)
  asked false = omega arith

length-receipted : (capacity through : ℕ) (mine : Bool) (before : List Happening) → length (account_of capacity (cond mine (happening.Receipted through ∷ before) before)).made ≤ length (account_of capacity before).made + 1
length-receipted capacity through false before = omega arith
length-receipted capacity through true before = new (is_new_receipt through (account_of capacity before)) where
  new : (b : Bool) → length (cond b ((account_of capacity before).made ++ discarded (account_of capacity before).lost) (account_of capacity before).made) ≤ length (account_of capacity before).made + 1
  new true =
      omega (arith, length-append (account_of capacity before).made (discarded (account_of capacity before).lost), length-discarded (account_of capacity before).lost)
  new false = omega arith

pub length-made : (capacity : ℕ) (past : List NtfChange) (client key : ℕ) → length (made capacity past client key) ≤ length past
length-made capacity [] client key = omega arith
length-made capacity (Began other ∷ past) client key = omega (arith, length-made capacity past client key)
length-made capacity (Ended other ∷ past) client key = omega (arith, length-made capacity past client key)
length-made capacity (Subscribed sub ∷ past) client key = omega (arith, length-made capacity past client key)
length-made capacity (Unsubscribed other id ∷ past) client key = omega (arith, length-made capacity past client key)
length-made capacity (Sent notification record_number ∷ past) client key =
    omega (arith, length-made capacity past client key, length-offered capacity (sub_at past client key) notification (happened past client key))
length-made capacity (Receipted other number through ∷ past) client key =
    omega (arith, length-made capacity past client key, length-receipted capacity through (client == other && key == number && lasts past client key) (happened past client key))

-- the subscriptions that last after one more change lasted before, or were made by it
pub subs-after : (change : NtfChange) (past : List NtfChange) (sub : Sub) → Stands sub (subs (change ∷ past)) → Stands sub (subs past) ⊎ (change ≡ Subscribed sub)
subs-after (Began client) past sub stands = inl stands
subs-after (Ended client) past sub stands = inl (Stands-without (is_of client) sub (subs past) stands).0
subs-after (Subscribed new) past sub stands = elim (Stands-put comes_first sub new (subs past) stands) [
  | inl same ↦ inr (ap (λ (s : Sub). Subscribed s) (sym same))
  | inr there ↦ inl there
]
subs-after (Unsubscribed client id) past sub stands =
    inl (Stands-without (has_id client id) sub (subs past) stands).0
subs-after (Sent notification record_number) past sub stands = inl stands
subs-after (Receipted client key through) past sub stands = inl stands
