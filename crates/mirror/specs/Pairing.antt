-- Words of public clauses: a server of a pair, and what it makes of what comes from its partner, of a partner that joins or goes down, and of the
-- entry in hand.
use Rattle.std.specs.Prelude.{◌≡◌, ℕ, suc, ℤ, Bool, true, false, is_some, Option, Some, None, List, [], ◌∷◌, length}
use Rattle.calls.specs.declared.entry.Entry.{Entry}
use Rattle.calls.specs.declared.saved.Saved.{Saved}
use Rattle.stream_layout.specs.declared.deed.Deed.{Deed}
use Rattle.wire.specs.declared.message.Message.{Message}
use Rattle.wire.specs.declared.message.Message.TheVariants.{Request, Receipt, Mirror, MirrorAck, Snapshot, JoinAck}
use Rattle.service_core.specs.Applying.{CanApply}
use Rattle.service_core.specs.Valuing.{value_after, deeds_by_value}
use Rattle.plain_service.specs.Setups.{Setup}
use Rattle.plain_service.specs.Legal.{IsHistory, CanFollow}
use Rattle.plain_service.specs.Fitness.{IsFit}
use Rattle.plain_service.specs.Storing.{deeds_of}
use Rattle.plain_service.specs.Values.{saved_of}
use Rattle.mirror.specs.declared.heard.Heard.{Heard}
use Rattle.mirror.specs.declared.heard.Outcome.{Outcome}
use Rattle.mirror.specs.declared.heard.Outcome.TheVariants.{Applied, Confirmed, Joined, Changed}
use Rattle.mirror.specs.declared.heard.Role.{Role}
use Rattle.mirror.specs.declared.heard.Role.TheVariants.{Active, Standby, Joining}
use Rattle.mirror.specs.declared.heard.Why.TheVariants.{Busy, NotForRole}
use Rattle.mirror.specs.declared.state.NodeState.{NodeState}
use Rattle.mirror.specs.declared.node.Tie.{Tie}
use Rattle.mirror.specs.declared.node.Tie.TheVariants.{Apart, Owing, Linked}
use Rattle.mirror.specs.declared.owed.Owed.{Owed}
use Rattle.mirror.specs.Replicas.{ReplicaState, started, at_rest, at_work}
use Rattle.mirror.specs.Hearing.{CanHear, IsHeardAtRest, ignored}
use Rattle.mirror.specs.ByValue.{IsHeardByValue, serving}
use Rattle.mirror.specs.Working.{emptied}

-- a server that has no partner and has applied nothing of one
abbrev pub alone : ReplicaState → NodeState
alone server = record { replica = server; waits = None; tie = Apart; promised = []; kept = None }

-- a server that waits for the value of the service
abbrev pub joining : ReplicaState
joining = record { role = Joining; service = None; owed = None }

-- messages for the partner, and an entry that is committed; nothing is posted
abbrev pub sent : List Message → Option Entry → Outcome → Heard
sent messages committed outcome = record { to_net = []; to_peer = messages; committed = committed; outcome = outcome }

-- the message that brings the value of a service to a server that joins
abbrev pub snapshots : Option Saved → List Message
snapshots None = []
snapshots (Some saved) = Snapshot saved ∷ []

-- a partner joins: it gets the value at once where nothing is in hand, and else once the entry in hand is worked
abbrev pub IsJoinBegun : Bool → NodeState → Heard → NodeState → Type 0
IsJoinBegun false old heard new =
    (heard ≡ sent (snapshots old.replica.service) None Changed) × (new ≡ record old { tie = Linked; promised = [] })
IsJoinBegun true old heard new =
    (heard ≡ sent [] None Changed) × (new ≡ record old { tie = Owing; promised = snapshots old.replica.service })

-- the partner went down: an entry that waits is ready
abbrev pub parted : NodeState → NodeState
parted node = record node { waits = None; tie = Apart; promised = [] }

-- the partner has the entry in hand, which waits no longer
abbrev pub confirmed : NodeState → NodeState
confirmed node = record node { waits = None }

-- the entry in hand was worked: a partner that joins is linked from then on
abbrev pub tied_after : Tie → Tie
tied_after Apart = Apart
tied_after Owing = Linked
tied_after Linked = Linked

abbrev pub worked_out : NodeState → NodeState
worked_out node = record node { replica = emptied node.replica; tie = tied_after node.tie; promised = [] }

-- what worked, with the messages for a partner that joins
abbrev pub with_peer : Heard → List Message → Heard
with_peer heard messages = record heard { to_peer = messages }

-- the deeds that are kept
abbrev pub deeds_kept : Option (List Deed) → List Deed
deeds_kept None = []
deeds_kept (Some deeds) = deeds

-- whether a standby keeps the deeds of an entry that it applied since it started or joined
abbrev pub keeps_by : Role → Option (List Deed) → Bool
keeps_by Standby kept = is_some kept
keeps_by _ kept = false

abbrev pub keeps_deeds : NodeState → Bool
keeps_deeds node = keeps_by node.replica.role node.kept

-- the standby becomes active, with nothing in hand and without link
abbrev pub acting : ReplicaState → ReplicaState
acting server = record { role = Active; service = server.service; owed = None }

abbrev pub taken_over : NodeState → NodeState
taken_over node = alone (acting node.replica)

-- an accepted entry goes to the linked partner under its number, and is not committed before the partner has it
abbrev pub mirrors : ℕ → Option Entry → List Message
mirrors number None = []
mirrors number (Some entry) = Mirror number entry ∷ []

abbrev pub mirrored : ℕ → Heard → Heard
mirrored number heard =
    record { to_net = heard.to_net; to_peer = mirrors number heard.committed; committed = None; outcome = heard.outcome }

abbrev pub newest : Option Entry → Option Entry → Option Entry
newest None before = before
newest (Some entry) before = Some entry

-- with nothing in hand and a linked partner: what becomes of a request or a receipt is what becomes of it without one; but an entry is mirrored, and waits
abbrev pub IsMirrored : Setup → List Entry → ℤ → Message → Option Entry → Heard → ReplicaState → Option Entry → Type 0
IsMirrored setup past now message before heard server waits =
    (plain : Heard) × IsHeardAtRest setup past now message plain server × (heard ≡ mirrored (suc (length past)) plain) × (waits ≡ newest plain.committed before)

-- with nothing in hand, by what ties the server to its partner
abbrev pub IsHeardTied : Tie → Setup → List Entry → ℤ → Message → NodeState → Heard → NodeState → Type 0
IsHeardTied Linked setup past now message old heard new =
    IsMirrored setup past now message old.waits heard new.replica new.waits × (new ≡ record old { replica = new.replica; waits = new.waits })
IsHeardTied tie setup past now message old heard new =
    IsHeardAtRest setup past now message heard new.replica × (new ≡ record old { replica = new.replica })

-- the same by the value of its service, whatever led to that value
abbrev pub IsMirroredByValue : Saved → ℤ → Message → Option Entry → Heard → ReplicaState → Option Entry → Type 0
IsMirroredByValue saved now message before heard server waits =
    (plain : Heard) × IsHeardByValue saved now message plain server × (heard ≡ mirrored (suc saved.number) plain) × (waits ≡ newest plain.committed before)

abbrev pub IsTiedByValue : Tie → Saved → ℤ → Message → NodeState → Heard → NodeState → Type 0
IsTiedByValue Linked saved now message old heard new =
    IsMirroredByValue saved now message old.waits heard new.replica new.waits × (new ≡ record old { replica = new.replica; waits = new.waits })
IsTiedByValue tie saved now message old heard new =
    IsHeardByValue saved now message heard new.replica × (new ≡ record old { replica = new.replica })

-- it is busy while an entry is in hand, by the history that it stands for and by the value of its service
abbrev pub BusyByHistory : NodeState → Heard → NodeState → Type 0
BusyByHistory old heard new =
    (setup : Setup) (past : List Entry) (entry : Entry) → old.replica ≡ at_work setup past entry
    → (heard ≡ ignored (Busy (suc (length past)))) × (new ≡ old)

abbrev pub BusyByValue : NodeState → Heard → NodeState → Type 0
BusyByValue old heard new =
    (saved : Saved) (owed : Owed) → old.replica ≡ serving saved (Some owed) → (heard ≡ ignored (Busy saved.number)) × (new ≡ old)

-- what it makes of a message with nothing in hand, by each history that it stands for and by each fit value of its service
abbrev pub RestsByHistory : Message → ℤ → NodeState → Heard → NodeState → Type 0
RestsByHistory message now old heard new =
    (setup : Setup) (past : List Entry) → IsHistory setup past → old.replica ≡ at_rest setup past
    → IsHeardTied old.tie setup past now message old heard new

abbrev pub RestsByValue : Message → ℤ → NodeState → Heard → NodeState → Type 0
RestsByValue message now old heard new =
    (saved : Saved) → IsFit saved → old.replica ≡ serving saved None → IsTiedByValue old.tie saved now message old heard new

-- what the active server makes of a message
abbrev pub IsHeard : Message → ℤ → NodeState → Heard → NodeState → Type 0
IsHeard message now old heard new =
    BusyByHistory old heard new × RestsByHistory message now old heard new
    × BusyByValue old heard new × RestsByValue message now old heard new

-- what a standby is that applied an entry and keeps its deeds, by the history that it stood for and by the value of its service
abbrev pub FollowsHistory : Entry → NodeState → NodeState → Type 0
FollowsHistory entry old new =
    (setup : Setup) (past : List Entry) → IsHistory setup past → CanFollow setup entry past
    → old.replica ≡ started Standby (saved_of setup past)
    → new ≡ record old { replica = started Standby (saved_of setup (entry ∷ past)); kept = Some (deeds_of setup past entry) }

abbrev pub FollowsValue : Entry → NodeState → NodeState → Type 0
FollowsValue entry old new =
    (saved : Saved) → old.replica ≡ started Standby saved
    → new ≡ record old { replica = started Standby (value_after entry saved); kept = Some (deeds_by_value entry saved) }

-- and it tells the active server
abbrev pub IsFollowed : ℕ → Entry → NodeState → Heard → NodeState → Type 0
IsFollowed number entry old heard new =
    (heard ≡ sent (MirrorAck number ∷ []) (Some entry) Applied) × FollowsHistory entry old new × FollowsValue entry old new

-- what becomes of a message, by the server's role; one for another role changes nothing
abbrev pub IsReceived : Role → Message → ℤ → NodeState → Heard → NodeState → Type 0
IsReceived Active (Request client number call) now old heard new = IsHeard (Request client number call) now old heard new
IsReceived Active (Receipt client key through) now old heard new = IsHeard (Receipt client key through) now old heard new
IsReceived Active (MirrorAck number) now old heard new = (heard ≡ sent [] None Confirmed) × (new ≡ confirmed old)
IsReceived Active (JoinAck number) now old heard new = (heard ≡ sent [] None Joined) × (new ≡ old)
IsReceived Standby (Mirror number entry) now old heard new = IsFollowed number entry old heard new
IsReceived Joining (Snapshot saved) now old heard new =
    (heard ≡ sent (JoinAck saved.number ∷ []) None Joined) × (new ≡ alone (started Standby saved))
IsReceived role message now old heard new = (heard ≡ ignored (NotForRole role)) × (new ≡ old)

-- an entry can be applied where there is a service
abbrev pub CanApplyIn : Entry → Option Saved → Type 0
CanApplyIn entry None = Unit {0}
CanApplyIn entry (Some saved) = CanApply entry saved

-- what comes from the partner: an entry that can be applied, a value that is fit
abbrev pub CanReceive : Message → ℤ → NodeState → Type 0
CanReceive (Mirror number entry) now old = CanApplyIn entry old.replica.service
CanReceive (Snapshot saved) now old = IsFit saved
CanReceive message now old = CanHear message now

-- the entry of the next number, which can be applied
abbrev pub IsNextEntry : ℕ → Entry → Option Saved → Type 0
IsNextEntry number entry None = ⊥
IsNextEntry number entry (Some saved) = (number ≡ suc saved.number) × CanApply entry saved

-- what a server can be told by a journal: a fit value while it joins, and then the next entry
abbrev pub Admits : Message → NodeState → Type 0
Admits (Snapshot saved) node = (node.replica.role ≡ Joining) × IsFit saved
Admits (Mirror number entry) node = (node.replica.role ≡ Standby) × IsNextEntry number entry node.replica.service
Admits _ node = ⊥
