-- Words of bodies alone: how an entry that may be accepted is made ready for the partner.
use Rattle.std.specs.Prelude.{◌≡◌, ℕ, suc, ◌==◌, ℤ, Bool, false, Option, Some, None, List, ◌∷◌}
use Rattle.calls.specs.declared.entry.Entry.{Entry}
use Rattle.calls.specs.declared.entry.Entry.TheVariants.{Called, Receipted}
use Rattle.calls.specs.declared.saved.Saved.{Saved}
use Rattle.wire.specs.declared.message.Message.{Message}
use Rattle.wire.specs.declared.message.Message.TheVariants.{Request, Receipt}
use Rattle.service_core.specs.Applying.{next_in, is_new_in}
use Rattle.service_core.specs.Valuing.{value_after, deeds_by_value}
use Rattle.stream_layout.specs.declared.deed.Deed.{Deed}
use Rattle.plain_service.specs.Setups.{Setup}
use Rattle.plain_service.specs.Storing.{deeds_of}
use Rattle.plain_service.specs.Values.{saved_of}
use Rattle.mirror.specs.declared.heard.Heard.{Heard}
use Rattle.mirror.specs.declared.heard.Role.TheVariants.{Standby}
use Rattle.mirror.specs.Replicas.{ReplicaState, started}

-- the entry that a message may become
abbrev pub entry_by : Message → ℤ → Option Entry
entry_by (Request client number call) now = Some (Called client number now call)
entry_by (Receipt client key through) now = Some (Receipted client key through now)
entry_by message now = None

-- whether a message becomes the next entry, by the value of the service: the client's next request, or a receipt that is new
abbrev pub becomes_in : Saved → Message → Bool
becomes_in saved (Request client number call) = number == next_in saved client
becomes_in saved (Receipt client key through) = is_new_in saved client key through
becomes_in saved message = false

-- the same of a server, which may have none
abbrev pub wanted_by : Option Saved → Message → Bool
wanted_by None message = false
wanted_by (Some saved) message = becomes_in saved message

-- the number of the next entry
abbrev pub number_next : Option Saved → ℕ
number_next None = 1
number_next (Some saved) = suc saved.number

-- an entry that was accepted is held back, and messages go to the partner
abbrev pub held_back : Option Entry → List Message → Heard → Heard
held_back None messages heard = heard
held_back (Some entry) messages heard = record { to_net = heard.to_net; to_peer = messages; committed = None; outcome = heard.outcome }

-- the standby applied an entry that follows a history
abbrev pub HasApplied : Setup → List Entry → Entry → List Deed → ReplicaState → Type 0
HasApplied setup past entry deeds server =
    (deeds ≡ deeds_of setup past entry) × (server ≡ started Standby (saved_of setup (entry ∷ past)))

-- by the value before it
abbrev pub HasAppliedTo : Saved → Entry → List Deed → ReplicaState → Type 0
HasAppliedTo saved entry deeds server =
    (deeds ≡ deeds_by_value entry saved) × (server ≡ started Standby (value_after entry saved))
