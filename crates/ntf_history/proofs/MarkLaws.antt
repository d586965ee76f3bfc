-- The items of a subscription, and what was lost since the last, tell of the notifications for which it asked while it lasted, each once and in order.
use Rattle.std.proofs.Common.{◌≡◌, ℕ, ◌==◌, Bool, true, false, ◌&&◌, cond, ◌⊎◌, inl, inr, List, [], ◌∷◌, ◌++◌, map, refl, ap, sym, subst, ◌∙◌, append_assoc}
use Rattle.std.specs.Prelude.{Option, Some, None, filter}
use Rattle.std.proofs.lemmas.Bool.{or_parts}
use Rattle.std.proofs.lemmas.List.{append-nil, map-append}
use Rattle.std.proofs.lemmas.List.Elements.{filter-append}
use Rattle.std.proofs.lemmas.Grind.{flat_map-append}
use Rattle.ntf_types.specs.declared.notification.Notification.{Notification}
use Rattle.ntf_filters.specs.Matching.{matches}
use Rattle.sub_queue.specs.declared.item.Lost.{Lost}
use Rattle.sub_queue.specs.declared.item.Content.TheVariants.{Notified}
use Rattle.sub_queue.specs.Items.{mark_of, discarded, marks_in}
use Rattle.sub_queue.specs.History.{Happening, Account, account_of, has_place, is_new_receipt, after_offer, after_receipt, marks_offered}
use Rattle.sub_queue.specs.History.{Happening as happening}
use Rattle.sub_queue.proofs.Accounts.{marks_told-account_of}
use Rattle.client_set.specs.Members.{Stands}
use Rattle.client_set.specs.Rising.{without}
use Rattle.client_set.proofs.RisingLaws.{Stands-put, Stands-without}
use Rattle.ntf_history.specs.Changes.{Sub, NtfChange}
use Rattle.ntf_history.specs.Changes.NtfChange.{Began, Ended, Subscribed, Unsubscribed, Sent, Receipted}
use Rattle.ntf_history.specs.Subscriptions.{has_key, has_id, is_of, comes_first, subs, sub_at, lasts, offered_to, happened, account, made, lost_of, is_known, sent_since, asked_since, asked_by, asked_while, dropped_while, losses_of, losses_in}
use Rattle.ntf_history.specs.Possible.{ArePossible}
use Rattle.ntf_history.proofs.KeyLaws.{has_key-is, sub_at-stands, sub_at-named, sub_at-member}
use Rattle.ntf_history.proofs.TableLaws.{unknown-absent}

-- What was offered is what it asked for.

marks-offered_to : (found : Option Sub) (notification : Notification) (before : List Happening) → marks_offered (offered_to found notification before) ≡ marks_offered before ++ map mark_of (asked_by found notification)
marks-offered_to None notification before = sym (append-nil (marks_offered before))
marks-offered_to (Some sub) notification before = elim (matches sub.filters notification) as (λ b. marks_offered (cond b (happening.Offered notification ∷ before) before) ≡ marks_offered before ++ map mark_of (cond b (notification ∷ []) [])) [
  | true ↦ refl
  | false ↦ sym (append-nil (marks_offered before))
]

-- a receipt offers nothing
marks-receipted : (through : ℕ) (mine : Bool) (before : List Happening) → marks_offered (cond mine (happening.Receipted through ∷ before) before) ≡ marks_offered before
marks-receipted through true before = refl
marks-receipted through false before = refl

marks-asked : (past : List NtfChange) (client key : ℕ) → marks_offered (happened past client key) ≡ map mark_of (asked_while past client key)
marks-asked [] client key = refl
marks-asked (Began other ∷ past) client key = marks-asked past client key
marks-asked (Ended other ∷ past) client key = marks-asked past client key
marks-asked (Subscribed sub ∷ past) client key = marks-asked past client key
marks-asked (Unsubscribed other id ∷ past) client key = marks-asked past client key
marks-asked (Sent notification record_number ∷ past) client key =
    let more = asked_by (sub_at past client key) notification in
    marks-offered_to (sub_at past client key) notification (happened past client key) ∙ ap (λ marks. marks ++ map mark_of more) (marks-asked past client key) ∙ sym (map-append mark_of (asked_while past client key) more)
marks-asked (Receipted other number through ∷ past) client key =
    marks-receipted through (client == other && key == number && lasts past client key) (happened past client key) ∙ marks-asked past client key

-- **of each subscription, its items and then what was lost since tell of what it asked for while it lasted**
pub told-asked : (capacity : ℕ) (past : List NtfChange) (client key : ℕ) → marks_in (made capacity past client key) ++ lost_of capacity past client key ≡ map mark_of (asked_while past client key)
told-asked capacity past client key =
    marks_told-account_of capacity (happened past client key) ∙ marks-asked past client key

-- What was dropped is told as lost.

-- the losses of an account: those in its items, and then those since
abbrev losses_told : Account → List Lost
losses_told account = losses_in account.made ++ account.lost

losses-discarded : (lost : List Lost) → losses_in (discarded lost) ≡ lost
losses-discarded [] = refl
losses-discarded (first ∷ others) = append-nil (first ∷ others)

-- an offer loses its notification where no place is free
losses-offer : (capacity : ℕ) (notification : Notification) (account : Account) → losses_told (after_offer capacity notification account) ≡ losses_told account ++ map mark_of (cond (has_place capacity account) [] (notification ∷ []))
losses-offer capacity notification account = placed (has_place capacity account) where
  placed : (place : Bool) → losses_in (cond place (account.made ++ Notified notification ∷ []) account.made) ++ cond place account.lost (account.lost ++ mark_of notification ∷ []) ≡ losses_told account ++ map mark_of (cond place [] (notification ∷ []))
  placed true =
      ap (λ losses. losses ++ account.lost) (flat_map-append losses_of account.made (Notified notification ∷ []) ∙ append-nil (losses_in account.made)) ∙ sym (append-nil (losses_told account))
  placed false = sym (append_assoc (losses_in account.made) account.lost (mark_of notification ∷ []))

losses-offered : (capacity : ℕ) (found : Option Sub) (notification : Notification) (before : List Happening) → losses_told (account_of capacity (offered_to found notification before)) ≡ losses_told (account_of capacity before) ++ map mark_of (cond (has_place capacity (account_of capacity before)) [] (asked_by found notification))
losses-offered capacity None notification before = elim (has_place capacity (account_of capacity before)) as (λ place. losses_told (account_of capacity before) ≡ losses_told (account_of capacity before) ++ map mark_of (cond place [] [])) [
  | true ↦ sym (append-nil (losses_told (account_of capacity before)))
  | false ↦ sym (append-nil (losses_told (account_of capacity before)))
]
losses-offered capacity (Some sub) notification before = asked (matches sub.filters notification) where
  unasked : (place : Bool) → losses_told (account_of capacity before) ≡ losses_told (account_of capacity before) ++ map mark_of (cond place [] [])
  unasked true = sym (append-nil (losses_told (account_of capacity before)))
  unasked false = sym (append-nil (losses_told (account_of capacity before)))

  asked : (b : Bool) → losses_told (account_of capacity (cond b (happening.Offered notification ∷ before) before)) ≡ losses_told (account_of capacity before) ++ map mark_of (cond (has_place capacity (account_of capacity before)) [] (cond b (notification ∷ []) []))
  asked true = losses-offer capacity notification (account_of capacity before)
  asked false = unasked (has_place capacity (account_of capacity before))

-- a receipt leaves the losses as they are
losses-receipt : (through : ℕ) (account : Account) → losses_told (after_receipt through account) ≡ losses_told account
losses-receipt through account = taken (is_new_receipt through account) where
  taken : (new : Bool) → losses_in (cond new (account.made ++ discarded account.lost) account.made) ++ cond new [] account.lost ≡ losses_told account
  taken true =
      append-nil _ ∙ flat_map-append losses_of account.made (discarded account.lost) ∙ ap (λ losses. losses_in account.made ++ losses) (losses-discarded account.lost)
  taken false = refl

losses-receipted : (capacity through : ℕ) (mine : Bool) (before : List Happening) → losses_told (account_of capacity (cond mine (happening.Receipted through ∷ before) before)) ≡ losses_told (account_of capacity before)
losses-receipted capacity through true before = losses-receipt through (account_of capacity before)
losses-receipted capacity through false before = refl

-- **of each subscription, what its items tell as lost, and then what was lost since, is what was dropped**
pub losses-dropped : (capacity : ℕ) (past : List NtfChange) (client key : ℕ) → losses_in (made capacity past client key) ++ lost_of capacity past client key ≡ map mark_of (dropped_while capacity past client key)
losses-dropped capacity [] client key = refl
losses-dropped capacity (Began other ∷ past) client key = losses-dropped capacity past client key
losses-dropped capacity (Ended other ∷ past) client key = losses-dropped capacity past client key
losses-dropped capacity (Subscribed sub ∷ past) client key = losses-dropped capacity past client key
losses-dropped capacity (Unsubscribed other id ∷ past) client key = losses-dropped capacity past client key
losses-dropped capacity (Sent notification record_number ∷ past) client key =
    let more = cond (has_place capacity (account capacity past client key)) [] (asked_by (sub_at past client key) notification) in
    losses-offered capacity (sub_at past client key) notification (happened past client key) ∙ ap (λ marks. marks ++ map mark_of more) (losses-dropped capacity past client key) ∙ sym (map-append mark_of (dropped_while capacity past client key) more)
losses-dropped capacity (Receipted other number through ∷ past) client key =
    losses-receipted capacity through (client == other && key == number && lasts past client key) (happened past client key) ∙ losses-dropped capacity past client key

-- Of a subscription that lasts it is all that matches since it was made.

-- before the change that made it nothing was asked
unknown-unasked : (past : List NtfChange) (client key : ℕ) → is_known past client key ≡ false → asked_while past client key ≡ []
unknown-unasked [] client key new = refl
unknown-unasked (Began other ∷ past) client key new = unknown-unasked past client key new
unknown-unasked (Ended other ∷ past) client key new = unknown-unasked past client key new
unknown-unasked (Subscribed sub ∷ past) client key new =
    unknown-unasked past client key (or_parts (has_key client key sub) (is_known past client key) new).1
unknown-unasked (Unsubscribed other id ∷ past) client key new = unknown-unasked past client key new
unknown-unasked (Sent notification record_number ∷ past) client key new =
    ap (λ o. asked_while past client key ++ asked_by o notification) (unknown-absent past client key new) ∙ append-nil (asked_while past client key) ∙ unknown-unasked past client key new
unknown-unasked (Receipted other number through ∷ past) client key new = unknown-unasked past client key new

module _ (client key : ℕ) (sub : Sub) where
  abbrev AllAsked : List NtfChange → Type 0
  AllAsked past = asked_while past client key ≡ filter (matches sub.filters) (sent_since past client key)

  -- the subscription is found before a change that takes others away
  found-before : (past : List NtfChange) (test : Sub → Bool) → Stands sub (without test (subs past)) → has_key client key sub ≡ true → sub_at past client key ≡ Some sub
  found-before past test stands named =
      sub_at-named past client key sub (Stands-without test sub (subs past) stands).0 named

  AllAsked-made : (new : Sub) (past : List NtfChange) → is_known past new.client new.key ≡ false → has_key client key new ≡ true → asked_while past client key ≡ []
  AllAsked-made new past unknown named =
      let is = has_key-is client key new named in
      let P : ℕ → Type 0 = λ c. is_known past c new.key ≡ false in
      let Q : ℕ → Type 0 = λ k. is_known past client k ≡ false in
      unknown-unasked past client key (subst Q is.1 (subst P is.0 unknown))

  asked-matching : (past : List NtfChange) → ArePossible past → sub_at past client key ≡ Some sub → AllAsked past
  asked-matching [] possible found = refl
  asked-matching (Began other ∷ past) possible found = asked-matching past possible.1 found
  asked-matching (Ended other ∷ past) possible found =
      let there = sub_at-stands (Ended other ∷ past) client key sub found in
      asked-matching past possible.1 (found-before past (is_of other) there.0 there.1)
  asked-matching (Subscribed new ∷ past) possible found =
      let there = sub_at-stands (Subscribed new ∷ past) client key sub found in
      made_now past (has_key client key new) refl possible.0.new (Stands-put comes_first sub new (subs past) there.0) there.1 (asked-matching past possible.1) where
        made_now : (past : List NtfChange) (named : Bool) → has_key client key new ≡ named → is_known past new.client new.key ≡ false → (sub ≡ new) ⊎ Stands sub (subs past) → has_key client key sub ≡ true → (sub_at past client key ≡ Some sub → AllAsked past) → asked_while past client key ≡ filter (matches sub.filters) (cond named [] (sent_since past client key))
        made_now past true is unknown stands mine rest = AllAsked-made new past unknown is
        made_now past false is unknown (inl same) mine rest =
            absurd (cc (ap (λ (s : Sub). has_key client key s) same, is, mine))
        made_now past false is unknown (inr there) mine rest = rest (sub_at-named past client key sub there mine)
  asked-matching (Unsubscribed other id ∷ past) possible found =
      let there = sub_at-stands (Unsubscribed other id ∷ past) client key sub found in
      asked-matching past possible.1 (found-before past (has_id other id) there.0 there.1)
  asked-matching (Sent notification record_number ∷ past) possible found =
      ap (λ o. asked_while past client key ++ asked_by o notification) found ∙ ap (λ asked. asked ++ asked_by (Some sub) notification) (asked-matching past possible.1 found) ∙ sym (filter-append (matches sub.filters) (sent_since past client key) (notification ∷ []))
  asked-matching (Receipted other number through ∷ past) possible found = asked-matching past possible.1 found

-- **of a subscription that lasts, what it asked for is all that matches of what was sent since it was made**
pub asked-lasting : (past : List NtfChange) (sub : Sub) → ArePossible past → Stands sub (subs past) → asked_while past sub.client sub.key ≡ asked_since past sub
asked-lasting past sub possible stands =
    asked-matching sub.client sub.key sub past possible (sub_at-member past sub stands)
