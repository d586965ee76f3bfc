-- Words of public clauses: replies, and what is kept of the calls of each client.
use Rattle.std.specs.Prelude.{◌≡◌, ⊤, ◌++◌, ℕ, ◌+◌, ℤ, nat_lt, ◌==◌, Bool, false, if◌then◌else◌, List, [], ◌∷◌, length, take, reverse, map, Option, Some, None}
use Rattle.std.specs.List.{cons_option}
use Rattle.client_set.specs.Rising.{put}
use Rattle.ais_values.specs.declared.status.Status.{Status}
use Rattle.ais_values.specs.declared.status.Status.TheVariants as status
use Rattle.ntf_types.specs.declared.notification.Notification.{Notification}
use Rattle.calls.specs.declared.call.Call.{Call}
use Rattle.calls.specs.declared.call.Call.TheVariants.{LogOpen, LogWrite, LogFilter, NtfSend, ReaderRead}
use Rattle.calls.specs.declared.reply.Reply.{Reply}
use Rattle.calls.specs.declared.reply.Reply.TheVariants.{Refused, Done, Sent, Found, Marked}
use Rattle.calls.specs.declared.entry.Entry.{Entry}
use Rattle.calls.specs.declared.entry.Entry.TheVariants.{Called, Receipted}
use Rattle.calls.specs.declared.saved.SavedWindow.{SavedWindow}
use Rattle.stream_config.specs.declared.attrs.StreamName.{StreamName}
use Rattle.log_history.specs.Marks.{is_filtered, mark_after}
use Rattle.ntf_history.specs.Changes.{last_id}
use Rattle.ntf_history.specs.Readers.{reader_of}
use Rattle.ntf_history.specs.Rows.{read_by}
use Rattle.plain_service.specs.Setups.{Setup}
use Rattle.plain_service.specs.Pasts.{Past}
use Rattle.plain_service.specs.Alarms.{alarms_stored}
use Rattle.plain_service.specs.Answers.{status_of}
use Rattle.plain_service.specs.Changing.{past_of, log_change}

-- the reply with the alarm that was read
abbrev pub found_reply : Option Notification → Reply
found_reply None = Done
found_reply (Some alarm) = Found alarm

-- the reply with the mark that a stream has once the call is made
abbrev pub marked_reply : Setup → Past → (client : ℕ) (now : ℤ) → Call → (filtered : Bool) → StreamName → Reply
marked_reply setup past client now call filtered name =
    Marked filtered (mark_after (cons_option (log_change setup past client now call) past.log) name)

-- what an ok call is told: an open, a write and one that sets a mask the stream's mark, a write also whether it was filtered; a send
-- its notification's id, a read the alarm, and all others nothing more
abbrev pub ok_reply : Setup → Past → (client : ℕ) (now : ℤ) → Call → Reply
ok_reply setup past client now (LogOpen name create) = marked_reply setup past client now (LogOpen name create) false name
ok_reply setup past client now (LogWrite name invocation flags time header body) =
    marked_reply setup past client now (LogWrite name invocation flags time header body)
    (is_filtered (mark_after past.log name).mask header) name
ok_reply setup past client now (LogFilter name mask) = marked_reply setup past client now (LogFilter name mask) false name
ok_reply setup past client now (NtfSend notification) = Sent (last_id past.ntf + 1)
ok_reply setup past client now (ReaderRead direction) =
    found_reply (read_by (reader_of past.readings client) direction (alarms_stored setup past))
ok_reply setup past client now _ = Done

-- the reply of a status
abbrev pub reply_by : Status → Reply → Reply
reply_by status.Ok told = told
reply_by refusal told = Refused refusal

-- the reply to a client's call, accepted at a moment after all that happened
abbrev pub reply_after : Setup → Past → (client : ℕ) (now : ℤ) → Call → Reply
reply_after setup past client now call = reply_by (status_of setup past client now call) (ok_reply setup past client now call)

-- the reply to a client's call, accepted at a moment after a history
unfoldable pub reply_of : Setup → List Entry → (client : ℕ) (now : ℤ) → Call → Reply
reply_of setup past client now call = reply_after setup (past_of setup past) client now call

-- the client's calls, the newest first
abbrev pub calls_of : ℕ → List Entry → List Call
calls_of client [] = []
calls_of client (Called caller seq now call ∷ past) =
    if caller == client then call ∷ calls_of client past else calls_of client past
calls_of client (Receipted caller key through now ∷ past) = calls_of client past

-- the number of the client's next call
abbrev pub next_number : ℕ → List Entry → ℕ
next_number client past = length (calls_of client past) + 1

-- the replies to the client's calls, the newest first
abbrev pub replies_to : Setup → ℕ → List Entry → List Reply
replies_to setup client [] = []
replies_to setup client (Called caller seq now call ∷ past) =
    if caller == client then reply_of setup past caller now call ∷ replies_to setup client past else replies_to setup client past
replies_to setup client (Receipted caller key through now ∷ past) = replies_to setup client past

-- the clients that made a call, rising
abbrev pub callers : List Entry → List ℕ
callers [] = []
callers (Called client seq now call ∷ past) = put nat_lt client (callers past)
callers (Receipted client key through now ∷ past) = callers past

-- what is kept of a client's calls: the number of the next one, and the last 32 replies, the oldest first
abbrev pub window_of : Setup → List Entry → ℕ → SavedWindow
window_of setup past client = record {
  client = client;
  next = next_number client past;
  replies = reverse (take 32 (replies_to setup client past));
}

abbrev pub windows_of : Setup → List Entry → List SavedWindow
windows_of setup past = map (window_of setup past) (callers past)

-- the ids that sends were told, the newest first
abbrev pub id_told : Reply → List ℕ → List ℕ
id_told (Sent id) ids = id ∷ ids
id_told _ ids = ids

abbrev pub ids_told : Setup → List Entry → List ℕ
ids_told setup [] = []
ids_told setup (Called client seq now call ∷ past) = id_told (reply_of setup past client now call) (ids_told setup past)
ids_told setup (Receipted client key through now ∷ past) = ids_told setup past

-- ids count 1, 2, 3 and so on, the last one first
abbrev pub AreCounted : List ℕ → Type 0
AreCounted [] = ⊤
AreCounted (id ∷ ids) = (id ≡ length ids + 1) × AreCounted ids

-- a list, the newest first, has all of an earlier one at its end
pub record EndsIn {X : Type 0} (late early : List X) : Type 0 where
  pub more : List X
  pub is : late ≡ more ++ early
