-- Words of public clauses: what the active server makes of requests and receipts, by the history that it stands for.
use Rattle.std.specs.Prelude.{◌≡◌, ℕ, ◌<◌, ℤ, Bool, true, false, Some, None, List, [], ◌∷◌}
use Rattle.calls.specs.declared.call.Call.{Call}
use Rattle.calls.specs.declared.reply.Reply.{Reply}
use Rattle.calls.specs.declared.entry.Entry.{Entry}
use Rattle.calls.specs.declared.entry.Entry.TheVariants.{Called, Receipted}
use Rattle.wire.specs.declared.message.Message.{Message}
use Rattle.wire.specs.declared.message.Message.TheVariants.{Request, Reply as Answer, Receipt}
use Rattle.cluster_facts.specs.History.{Judged, New, Repeat, Old, Ahead, judged_call}
use Rattle.cluster_facts.specs.Service.{is_new, answers_in}
use Rattle.cluster_events.specs.Events.{reply_at}
use Rattle.service_laws.specs.PlainOf.{plain_of}
use Rattle.plain_service.specs.Setups.{Setup, IsMoment}
use Rattle.plain_service.specs.Legal.{IsClient}
use Rattle.mirror.specs.declared.heard.Why.{Why}
use Rattle.mirror.specs.declared.heard.Why.TheVariants.{Old as OldRequest, Ahead as AheadRequest, Done, NotForRole}
use Rattle.mirror.specs.declared.heard.Outcome.TheVariants.{Accepted, Repeated, Ignored}
use Rattle.mirror.specs.declared.heard.Heard.{Heard}
use Rattle.mirror.specs.declared.heard.Role.TheVariants.{Active}
use Rattle.mirror.specs.Replicas.{ReplicaState, at_rest, at_work}

-- nothing changes, and nothing is posted
abbrev pub ignored : Why → Heard
ignored why = record { to_net = []; to_peer = []; committed = None; outcome = Ignored why }

-- an entry is accepted, and committed at once where no partner is linked
abbrev pub accepted_alone : Entry → Heard
accepted_alone entry = record { to_net = []; to_peer = []; committed = Some entry; outcome = Accepted }

-- a message is posted again
abbrev pub repeated : Message → Heard
repeated message = record { to_net = message ∷ []; to_peer = []; committed = None; outcome = Repeated }

abbrev pub IsRequestHeard : Setup → List Entry → ℕ → ℕ → Call → ℤ → Judged → Heard → ReplicaState → Type 0
IsRequestHeard setup past client number call now New heard server =
    let entry = Called client number now call in
    (heard ≡ accepted_alone entry) × (server ≡ at_work setup past entry)
IsRequestHeard setup past client number call now Repeat heard server =
    (reply : Reply) × (reply_at number (answers_in (plain_of setup) client past) ≡ Some reply) × (heard ≡ repeated (Answer client number reply))
    × (server ≡ at_rest setup past)
IsRequestHeard setup past client number call now Old heard server =
    (heard ≡ ignored OldRequest) × (server ≡ at_rest setup past)
IsRequestHeard setup past client number call now Ahead heard server =
    (heard ≡ ignored AheadRequest) × (server ≡ at_rest setup past)

abbrev pub IsReceiptHeard : Setup → List Entry → ℕ → ℕ → ℕ → ℤ → Bool → Heard → ReplicaState → Type 0
IsReceiptHeard setup past client key through now true heard server =
    let entry = Receipted client key through now in
    (heard ≡ accepted_alone entry) × (server ≡ at_work setup past entry)
IsReceiptHeard setup past client key through now false heard server =
    (heard ≡ ignored Done) × (server ≡ at_rest setup past)

-- what becomes of a message at the active server of a history that has nothing in hand: only requests and receipts are for it
abbrev pub IsHeardAtRest : Setup → List Entry → ℤ → Message → Heard → ReplicaState → Type 0
IsHeardAtRest setup past now (Request client number call) heard server =
    IsRequestHeard setup past client number call now (judged_call past client number) heard server
IsHeardAtRest setup past now (Receipt client key through) heard server =
    IsReceiptHeard setup past client key through now (is_new (plain_of setup) past client key through) heard server
IsHeardAtRest setup past now _ heard server = (heard ≡ ignored (NotForRole Active)) × (server ≡ at_rest setup past)

-- a request or a receipt is a client's, and is heard at a moment. Calls are numbered from 1
abbrev pub CanHear : Message → ℤ → Type 0
CanHear (Request client number call) now = IsClient client × (0 < number) × IsMoment now
CanHear (Receipt client key through) now = IsClient client × IsMoment now
CanHear _ now = Unit {0}
