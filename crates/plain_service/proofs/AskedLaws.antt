-- The items of a subscription, and what was lost since, tell of the ok sends for which it asked while it lasted, each once and in order.
use Rattle.std.proofs.Common.{◌≡◌, ℕ, suc, ◌+◌, ◌≤◌, Bool, true, false, cond, List, [], ◌∷◌, ◌++◌, length, map, refl, ap, sym, subst, ◌∙◌, arith}
use Rattle.std.specs.Prelude.{ℤ, Option, Some, None}
use Rattle.std.specs.List.{AllByRecursion}
use Rattle.std.proofs.lemmas.Bool.{lt-ltb}
use Rattle.std.proofs.lemmas.List.{append-nil, map-append}
use Rattle.ais_values.specs.declared.status.Status.{Status}
use Rattle.ais_values.specs.declared.status.Status.TheVariants as status
use Rattle.ntf_types.specs.declared.notification.Notification.{Notification}
use Rattle.ntf_filters.specs.Matching.{matches, admits_common}
use Rattle.sub_queue.specs.declared.item.Lost.{Lost}
use Rattle.sub_queue.specs.Items.{mark_of, marks_in}
use Rattle.sub_queue.specs.History.{has_place}
use Rattle.client_set.specs.Rising.{ComesFirst, IsRising}
use Rattle.calls.specs.declared.call.Call.{Call}
use Rattle.calls.specs.declared.call.Call.TheVariants.{NtfSend}
use Rattle.calls.specs.declared.reply.Reply.{Reply}
use Rattle.calls.specs.declared.reply.Reply.TheVariants.{Sent}
use Rattle.calls.specs.declared.entry.Entry.{Entry}
use Rattle.calls.specs.declared.entry.Entry.TheVariants.{Called, Receipted}
use Rattle.ntf_history.specs.Changes.{Sub, last_id}
use Rattle.ntf_history.specs.Subscriptions.{sub_at, account, asked_by, asked_while, dropped_while, losses_in}
use Rattle.ntf_history.proofs.MarkLaws.{told-asked, losses-dropped}
use Rattle.plain_service.specs.Setups.{Setup}
use Rattle.plain_service.specs.Pasts.{Past}
use Rattle.plain_service.specs.Alarms.{accepted_as, accepted_notification}
use Rattle.plain_service.specs.Answers.{status_of}
use Rattle.plain_service.specs.Changing.{past_of, past_after}
use Rattle.plain_service.specs.Replies.{ok_reply, reply_by, reply_of, id_told, ids_told}
use Rattle.plain_service.specs.Items.{made_for, through_for}
use Rattle.plain_service.specs.Asked.{sub_for, lost_for, mark_under, mark_asked, sends_asked, sends_dropped, lower_id}
use Rattle.plain_service.proofs.IdLaws.{id-next}
use Rattle.plain_service.proofs.ListLaws.{each-push, each-weaker}
use Rattle.plain_service.proofs.Possible.{past_after-by}

-- a notification is asked for as it was sent, whatever id and time it gets
marks-accepted : (found : Option Sub) (id : ℕ) (now : ℤ) (notification : Notification) → map (mark_under id) (asked_by found notification) ≡ map mark_of (asked_by found (accepted_as id now notification))
unfolding admits_common
marks-accepted None id now notification = refl
marks-accepted (Some sub) id now notification =
    elim (matches sub.filters notification) as (λ b. map (mark_under id) (cond b (notification ∷ []) []) ≡ map mark_of (cond b (accepted_as id now notification ∷ []) [])) [ true ↦ refl | false ↦ refl ]

marks-dropped : (place : Bool) (found : Option Sub) (id : ℕ) (now : ℤ) (notification : Notification) → cond place [] (map (mark_under id) (asked_by found notification)) ≡ map mark_of (cond place [] (asked_by found (accepted_as id now notification)))
marks-dropped true found id now notification = refl
marks-dropped false found id now notification = marks-accepted found id now notification

no-marks : (place : Bool) → cond {A = List Lost} place [] [] ≡ []
no-marks true = refl
no-marks false = refl

module _ (setup : Setup) (past : Past) (sender seq : ℕ) (now : ℤ) (notification : Notification) (client key : ℕ) where
  abbrev after : Status → Past
  after answered = past_after setup past sender seq now (NtfSend notification) answered

  abbrev told : Status → Reply
  told answered = reply_by answered (ok_reply setup past sender now (NtfSend notification))

  send-asked : (before : List Lost) (answered : Status) → before ≡ map mark_of (asked_while past.ntf client key) → before ++ mark_asked (sub_at past.ntf client key) notification (told answered) ≡ map mark_of (asked_while (after answered).ntf client key)
  send-asked before status.Ok is =
      let found = sub_at past.ntf client key in
      let accepted = accepted_notification past now notification in
      ap (λ marks. marks ++ map (mark_under (last_id past.ntf + 1)) (asked_by found notification)) is ∙ ap (λ marks. map mark_of (asked_while past.ntf client key) ++ marks) (marks-accepted found (last_id past.ntf + 1) now notification) ∙ sym (map-append mark_of (asked_while past.ntf client key) (asked_by found accepted))
  send-asked before _ is = append-nil before ∙ is

  send-dropped : (capacity : ℕ) (before : List Lost) (answered : Status) → before ≡ map mark_of (dropped_while capacity past.ntf client key) → before ++ cond (has_place capacity (account capacity past.ntf client key)) [] (mark_asked (sub_at past.ntf client key) notification (told answered)) ≡ map mark_of (dropped_while capacity (after answered).ntf client key)
  send-dropped capacity before status.Ok is =
      let found = sub_at past.ntf client key in
      let place = has_place capacity (account capacity past.ntf client key) in
      let dropped = cond place [] (asked_by found (accepted_notification past now notification)) in
      ap (λ marks. marks ++ cond place [] (mark_asked found notification (told status.Ok))) is ∙ ap (λ marks. map mark_of (dropped_while capacity past.ntf client key) ++ marks) (marks-dropped place found (last_id past.ntf + 1) now notification) ∙ sym (map-append mark_of (dropped_while capacity past.ntf client key) dropped)
  send-dropped capacity before _ is =
      ap (λ marks. before ++ marks) (no-marks (has_place capacity (account capacity past.ntf client key))) ∙ append-nil before ∙ is

asked-called : (setup : Setup) (past : List Entry) (sender seq : ℕ) (now : ℤ) (call : Call) (client key : ℕ) → sends_asked setup past client key ≡ map mark_of (asked_while (past_of setup past).ntf client key) → sends_asked setup (Called sender seq now call ∷ past) client key ≡ map mark_of (asked_while (past_of setup (Called sender seq now call ∷ past)).ntf client key)
unfolding sub_for reply_of
asked-called setup past sender seq now (NtfSend notification) client key before =
    send-asked setup (past_of setup past) sender seq now notification client key (sends_asked setup past client key) (status_of setup (past_of setup past) sender now (NtfSend notification)) before
asked-called setup past sender seq now call client key before =
    past_after-by (λ after. sends_asked setup past client key ≡ map mark_of (asked_while after.ntf client key)) setup (past_of setup past) sender seq now call (status_of setup (past_of setup past) sender now call) before (λ ok. before)

asked-changes : (setup : Setup) (past : List Entry) (client key : ℕ) → sends_asked setup past client key ≡ map mark_of (asked_while (past_of setup past).ntf client key)
asked-changes setup [] client key = refl
asked-changes setup (Called sender seq now call ∷ past) client key =
    asked-called setup past sender seq now call client key (asked-changes setup past client key)
asked-changes setup (Receipted other number through now ∷ past) client key = asked-changes setup past client key

dropped-called : (setup : Setup) (past : List Entry) (sender seq : ℕ) (now : ℤ) (call : Call) (client key : ℕ) → sends_dropped setup past client key ≡ map mark_of (dropped_while setup.capacity (past_of setup past).ntf client key) → sends_dropped setup (Called sender seq now call ∷ past) client key ≡ map mark_of (dropped_while setup.capacity (past_of setup (Called sender seq now call ∷ past)).ntf client key)
unfolding sub_for reply_of made_for through_for
dropped-called setup past sender seq now (NtfSend notification) client key before =
    send-dropped setup (past_of setup past) sender seq now notification client key setup.capacity (sends_dropped setup past client key) (status_of setup (past_of setup past) sender now (NtfSend notification)) before
dropped-called setup past sender seq now call client key before =
    past_after-by (λ after. sends_dropped setup past client key ≡ map mark_of (dropped_while setup.capacity after.ntf client key)) setup (past_of setup past) sender seq now call (status_of setup (past_of setup past) sender now call) before (λ ok. before)

dropped-changes : (setup : Setup) (past : List Entry) (client key : ℕ) → sends_dropped setup past client key ≡ map mark_of (dropped_while setup.capacity (past_of setup past).ntf client key)
dropped-changes setup [] client key = refl
dropped-changes setup (Called sender seq now call ∷ past) client key =
    dropped-called setup past sender seq now call client key (dropped-changes setup past client key)
dropped-changes setup (Receipted other number through now ∷ past) client key = dropped-changes setup past client key

-- **of each subscription, its items and then what was lost since tell of the ok sends for which it asked while it lasted**
pub items-asked : (setup : Setup) (past : List Entry) (client key : ℕ) → marks_in (made_for setup past client key) ++ lost_for setup past client key ≡ sends_asked setup past client key
unfolding made_for lost_for
items-asked setup past client key =
    told-asked setup.capacity (past_of setup past).ntf client key ∙ sym (asked-changes setup past client key)

-- **what they tell as lost, and then what was lost since, is what was dropped**
pub items-dropped : (setup : Setup) (past : List Entry) (client key : ℕ) → losses_in (made_for setup past client key) ++ lost_for setup past client key ≡ sends_dropped setup past client key
unfolding made_for lost_for
items-dropped setup past client key =
    losses-dropped setup.capacity (past_of setup past).ntf client key ∙ sym (dropped-changes setup past client key)

-- The ids rise.

IsRising-push : (marks : List Lost) (mark : Lost) → IsRising lower_id marks → AllByRecursion (λ (one : Lost). lower_id one mark ≡ true) marks → IsRising lower_id (marks ++ mark ∷ [])
IsRising-push [] mark rising lower = (tt, tt)
IsRising-push (first ∷ marks) mark rising lower = (first_push marks rising.0, IsRising-push marks mark rising.1 lower.1) where
  first_push : (marks : List Lost) → ComesFirst lower_id first marks → ComesFirst lower_id first (marks ++ mark ∷ [])
  first_push [] before = (lower.0, tt)
  first_push (next ∷ marks) before = (before.0, first_push marks before.1)

-- marks rise, up to the last id that was given
record Rises (last : ℕ) (marks : List Lost) : Type 0 where
  below : AllByRecursion (λ (mark : Lost). mark.id ≤ last) marks
  rising : IsRising lower_id marks

Rises-later : (last later : ℕ) (marks : List Lost) → last ≤ later → Rises last marks → Rises later marks
Rises-later last later marks le rises = record {
  below = each-weaker (λ (mark : Lost). mark.id ≤ last) (λ (mark : Lost). mark.id ≤ later) (λ mark below. omega (arith, below, le)) marks rises.below;
  rising = rises.rising;
}

Rises-push : (last : ℕ) (marks : List Lost) (mark : Lost) → mark.id ≡ last + 1 → Rises last marks → Rises (suc last) (marks ++ mark ∷ [])
Rises-push last marks mark next rises = record {
  below = each-push (λ (one : Lost). one.id ≤ suc last) marks mark (Rises-later last (suc last) marks (omega arith) rises).below (omega (arith, next));
  rising = IsRising-push marks mark rises.rising (each-weaker (λ (one : Lost). one.id ≤ last) (λ (one : Lost). lower_id one mark ≡ true) (λ one below. lt-ltb one.id mark.id (omega (arith, next, below))) marks rises.below);
}

rises-none : (last : ℕ) (marks : List Lost) → Rises last marks → Rises (suc last) (marks ++ [])
rises-none last marks rises =
    subst (Rises (suc last)) (sym (append-nil marks)) (Rises-later last (suc last) marks (omega arith) rises)

rises-send : (ids : List ℕ) (marks : List Lost) (notification : Notification) (answer : Reply) (found : Option Sub) → ((id : ℕ) → answer ≡ Sent id → id ≡ length ids + 1) → Rises (length ids) marks → Rises (length (id_told answer ids)) (marks ++ mark_asked found notification answer)
rises-send ids marks notification (Sent id) None next rises = rises-none (length ids) marks rises
rises-send ids marks notification (Sent id) (Some sub) next rises = elim (matches sub.filters notification) as (λ b. Rises (suc (length ids)) (marks ++ map (mark_under id) (cond b (notification ∷ []) []))) [
  | true ↦ Rises-push (length ids) marks (mark_under id notification) (next id refl) rises
  | false ↦ rises-none (length ids) marks rises
]
rises-send ids marks notification _ found next rises = subst (Rises (length ids)) (sym (append-nil marks)) rises

ids-longer : (answer : Reply) (ids : List ℕ) → length ids ≤ length (id_told answer ids)
ids-longer (Sent id) ids = omega arith
ids-longer _ ids = omega arith

rises-called : (setup : Setup) (past : List Entry) (sender seq : ℕ) (now : ℤ) (call : Call) (client key : ℕ) → Rises (length (ids_told setup past)) (sends_asked setup past client key) → Rises (length (ids_told setup (Called sender seq now call ∷ past))) (sends_asked setup (Called sender seq now call ∷ past) client key)
rises-called setup past sender seq now (NtfSend notification) client key rises =
    rises-send (ids_told setup past) (sends_asked setup past client key) notification (reply_of setup past sender now (NtfSend notification)) (sub_for setup past client key) (id-next setup past sender now (NtfSend notification)) rises
rises-called setup past sender seq now call client key rises =
    Rises-later (length (ids_told setup past)) (length (id_told (reply_of setup past sender now call) (ids_told setup past))) (sends_asked setup past client key) (ids-longer (reply_of setup past sender now call) (ids_told setup past)) rises

sends-rise : (setup : Setup) (past : List Entry) (client key : ℕ) → Rises (length (ids_told setup past)) (sends_asked setup past client key)
sends-rise setup [] client key = record { below = tt; rising = tt }
sends-rise setup (Called sender seq now call ∷ past) client key =
    rises-called setup past sender seq now call client key (sends-rise setup past client key)
sends-rise setup (Receipted other number through now ∷ past) client key = sends-rise setup past client key

-- **their ids rise, so no send is among them twice**
pub sends-rising : (setup : Setup) (past : List Entry) (client key : ℕ) → IsRising lower_id (sends_asked setup past client key)
sends-rising setup past client key = (sends-rise setup past client key).rising
