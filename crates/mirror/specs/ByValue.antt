-- Words of public clauses: what the active server makes of requests and receipts, and pushes, by the value of its service, whatever led to that value.
use Rattle.std.specs.Prelude.{◌≡◌, ℕ, suc, ◌-◌, ℤ, Bool, true, false, Option, Some, None, List, [], ◌∷◌, map, slice_get}
use Rattle.calls.specs.declared.call.Call.{Call}
use Rattle.calls.specs.declared.reply.Reply.{Reply}
use Rattle.calls.specs.declared.entry.Entry.{Entry}
use Rattle.calls.specs.declared.entry.Entry.TheVariants.{Called, Receipted}
use Rattle.calls.specs.declared.saved.Saved.{Saved}
use Rattle.wire.specs.declared.message.Message.{Message}
use Rattle.wire.specs.declared.message.Message.TheVariants.{Request, Reply as Answer, Receipt}
use Rattle.service_core.specs.Applying.{next_in, is_new_in}
use Rattle.service_core.specs.Valuing.{window_in, items_held, value_after, reply_by_value, deeds_by_value}
use Rattle.service_laws.specs.PlainOf.{item_message}
use Rattle.cluster_facts.specs.History.{Judged, New, Repeat, Old, Ahead, judged}
use Rattle.mirror.specs.declared.heard.Role.TheVariants.{Active}
use Rattle.mirror.specs.declared.heard.Why.TheVariants.{Old as OldRequest, Ahead as AheadRequest, Done, NotForRole}
use Rattle.mirror.specs.declared.heard.Heard.{Heard}
use Rattle.mirror.specs.declared.owed.Owed.{Owed}
use Rattle.mirror.specs.Replicas.{ReplicaState}
use Rattle.mirror.specs.Hearing.{ignored, accepted_alone, repeated}

-- the active server
abbrev pub serving : Saved → Option Owed → ReplicaState
serving saved owed = record { role = Active; service = Some saved; owed = owed }

-- the message that answers an entry
abbrev pub replies_for : Entry → Option Reply → List Message
replies_for (Called client number time call) (Some reply) = Answer client number reply ∷ []
replies_for (Called client number time call) None = []
replies_for (Receipted client key through time) reply = []

-- what an entry asks for, by the value before it
abbrev pub owed_by_value : Entry → Saved → Owed
owed_by_value entry saved =
    record { deeds = deeds_by_value entry saved; to_net = replies_for entry (reply_by_value entry saved) }

-- an entry is accepted at this value
abbrev pub IsAcceptedAt : Saved → Entry → Heard → ReplicaState → Type 0
IsAcceptedAt saved entry heard server =
    (heard ≡ accepted_alone entry) × (server ≡ serving (value_after entry saved) (Some (owed_by_value entry saved)))

-- how a request is judged: its client made one call for each number below that of its next one
abbrev pub judged_in : Saved → (client number : ℕ) → Judged
judged_in saved client number = judged number (next_in saved client - 1)

-- the reply to a call before the client's next one, where the value keeps it: the newest that it keeps is that to the call just before
abbrev pub reply_kept : Saved → (client number : ℕ) → Option Reply
reply_kept saved client number = slice_get (window_in saved client).replies (next_in saved client - suc number)

-- the reply that such a request gets again, if it gets one
abbrev pub reply_by : Judged → Option Reply → Option Reply
reply_by Repeat reply = reply
reply_by _ reply = None

abbrev pub reply_again : Saved → (client number : ℕ) → Option Reply
reply_again saved client number = reply_by (judged_in saved client number) (reply_kept saved client number)

-- a request that is judged so
abbrev pub IsRequestByValue : Saved → ℕ → ℕ → Call → ℤ → Judged → Heard → ReplicaState → Type 0
IsRequestByValue saved client number call now New heard server = IsAcceptedAt saved (Called client number now call) heard server
IsRequestByValue saved client number call now Repeat heard server =
    (reply : Reply) × (reply_kept saved client number ≡ Some reply) × (heard ≡ repeated (Answer client number reply)) × (server ≡ serving saved None)
IsRequestByValue saved client number call now Old heard server =
    (heard ≡ ignored OldRequest) × (server ≡ serving saved None)
IsRequestByValue saved client number call now Ahead heard server =
    (heard ≡ ignored AheadRequest) × (server ≡ serving saved None)

-- a receipt, by whether it is new
abbrev pub IsReceiptByValue : Saved → ℕ → ℕ → ℕ → ℤ → Bool → Heard → ReplicaState → Type 0
IsReceiptByValue saved client key through now true heard server =
    IsAcceptedAt saved (Receipted client key through now) heard server
IsReceiptByValue saved client key through now false heard server =
    (heard ≡ ignored Done) × (server ≡ serving saved None)

-- what becomes of a message at the active server of a value that has nothing in hand: only requests and receipts are for it
abbrev pub IsHeardByValue : Saved → ℤ → Message → Heard → ReplicaState → Type 0
IsHeardByValue saved now (Request client number call) heard server =
    IsRequestByValue saved client number call now (judged_in saved client number) heard server
IsHeardByValue saved now (Receipt client key through) heard server =
    IsReceiptByValue saved client key through now (is_new_in saved client key through) heard server
IsHeardByValue saved now _ heard server = (heard ≡ ignored (NotForRole Active)) × (server ≡ serving saved None)

-- the messages that bring the items that a value's subscriptions hold, in order
abbrev pub items_pushed : Option Saved → List Message
items_pushed None = []
items_pushed (Some saved) = map item_message (items_held saved)
