-- Ids of notifications are 1, 2, 3 and so on, in order of the sends that were answered ok.
use Rattle.std.proofs.Common.{◌≡◌, ℕ, ◌+◌, List, [], ◌∷◌, length, refl, ap, sym, ◌∙◌, arith}
use Rattle.std.specs.Prelude.{ℤ, Option, Some, None}
use Rattle.ais_values.specs.declared.status.Status.{Status}
use Rattle.ais_values.specs.declared.status.Status.TheVariants as status
use Rattle.ntf_types.specs.declared.notification.Notification.{Notification}
use Rattle.calls.specs.declared.call.Call.{Call}
use Rattle.calls.specs.declared.call.Call.TheVariants.{NtfSend, ReaderRead}
use Rattle.calls.specs.declared.reply.Reply.{Reply}
use Rattle.calls.specs.declared.reply.Reply.TheVariants.{Sent}
use Rattle.calls.specs.declared.entry.Entry.{Entry}
use Rattle.calls.specs.declared.entry.Entry.TheVariants.{Called, Receipted}
use Rattle.ntf_history.specs.Changes.{last_id}
use Rattle.ntf_history.specs.Readers.{reader_of}
use Rattle.ntf_history.specs.Rows.{read_by}
use Rattle.plain_service.specs.Setups.{Setup}
use Rattle.plain_service.specs.Pasts.{Past}
use Rattle.plain_service.specs.Alarms.{alarms_stored}
use Rattle.plain_service.specs.Answers.{status_of}
use Rattle.plain_service.specs.Changing.{past_of, past_after}
use Rattle.plain_service.specs.Replies.{found_reply, ok_reply, reply_by, reply_of, id_told, ids_told, AreCounted}

found-untold : (found : Option Notification) (ids : List ℕ) → id_told (found_reply found) ids ≡ ids
found-untold None ids = refl
found-untold (Some alarm) ids = refl

id-called : (setup : Setup) (past : Past) (client seq : ℕ) (now : ℤ) (call : Call) (ids : List ℕ) → last_id past.ntf ≡ length ids → last_id (past_after setup past client seq now call status.Ok).ntf ≡ length (id_told (ok_reply setup past client now call) ids)
id-called setup past client seq now (NtfSend notification) ids is = omega (arith, is)
id-called setup past client seq now (ReaderRead direction) ids is =
    is ∙ ap length (sym (found-untold (read_by (reader_of past.readings client) direction (alarms_stored setup past)) ids))
id-called setup past client seq now _ ids is = is

id-answered : (setup : Setup) (past : Past) (client seq : ℕ) (now : ℤ) (call : Call) (ids : List ℕ) (answered : Status) → last_id past.ntf ≡ length ids → last_id (past_after setup past client seq now call answered).ntf ≡ length (id_told (reply_by answered (ok_reply setup past client now call)) ids)
id-answered setup past client seq now call ids status.Ok is = id-called setup past client seq now call ids is
id-answered setup past client seq now call ids _ is = is

-- as many ids were given as sends were told
pub last_id-told : (setup : Setup) (past : List Entry) → last_id (past_of setup past).ntf ≡ length (ids_told setup past)
unfolding reply_of
last_id-told setup [] = refl
last_id-told setup (Called client seq now call ∷ past) =
    id-answered setup (past_of setup past) client seq now call (ids_told setup past) (status_of setup (past_of setup past) client now call) (last_id-told setup past)
last_id-told setup (Receipted client key through now ∷ past) = last_id-told setup past

not-told : (setup : Setup) (past : Past) (client : ℕ) (now : ℤ) (call : Call) (answered : Status) (id : ℕ) → reply_by answered (ok_reply setup past client now call) ≡ Sent id → id ≡ last_id past.ntf + 1
not-told setup past client now (NtfSend notification) status.Ok id is = cc
not-told setup past client now (ReaderRead direction) status.Ok id is = by_case (read_by (reader_of past.readings client) direction (alarms_stored setup past)) is where
  by_case : (found : Option Notification) → found_reply found ≡ Sent id → id ≡ last_id past.ntf + 1
  by_case None none = cc
  by_case (Some alarm) other = cc
not-told setup past client now _ status.Ok id is = cc
not-told setup past client now call _ id is = cc

-- **a send that is answered ok is told the number of those before it, and one**
pub id-next : (setup : Setup) (past : List Entry) (client : ℕ) (now : ℤ) (call : Call) (id : ℕ) → reply_of setup past client now call ≡ Sent id → id ≡ length (ids_told setup past) + 1
unfolding reply_of
id-next setup past client now call id is =
    not-told setup (past_of setup past) client now call (status_of setup (past_of setup past) client now call) id is ∙ ap (λ n. n + 1) (last_id-told setup past)

counted-told : (setup : Setup) (past : List Entry) (client : ℕ) (now : ℤ) (call : Call) (told : Reply) → reply_of setup past client now call ≡ told → AreCounted (ids_told setup past) → AreCounted (id_told told (ids_told setup past))
counted-told setup past client now call (Sent id) is counted = (id-next setup past client now call id is, counted)
counted-told setup past client now call _ is counted = counted

-- **the ids that were told are 1, 2, 3 and so on**
pub ids-counted : (setup : Setup) (past : List Entry) → AreCounted (ids_told setup past)
ids-counted setup [] = tt
ids-counted setup (Called client seq now call ∷ past) =
    counted-told setup past client now call (reply_of setup past client now call) refl (ids-counted setup past)
ids-counted setup (Receipted client key through now ∷ past) = ids-counted setup past
