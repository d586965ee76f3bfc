-- Words of bodies alone: standbys that apply the entry in hand as the active server goes down, where another one has it.
use Rattle.std.specs.Prelude.{◌≡◌, ℕ, ℤ, Bool, true, false, Option, None, List, [], ◌∷◌, ◌++◌}
use Rattle.wire.specs.declared.message.Message.{Message}
use Rattle.cluster_facts.specs.Types.{Entry}
use Rattle.mirror.specs.declared.heard.Heard.{Heard}
use Rattle.mirror.specs.declared.heard.Role.{Role}
use Rattle.mirror.specs.declared.heard.Role.TheVariants as role
use Rattle.mirror.specs.declared.state.NodeState.{NodeState as Node}
use Rattle.mirror.specs.Pairing.{CanReceive, IsReceived}
use Rattle.lead_server.specs.Parting.{waiting_in, waiting_lines}
use Rattle.group_servers.specs.declared.group.Seat.{Seat}

-- a standby to which an entry goes can apply it
abbrev pub CanCatchBy : Role → List Message → Node → Type 0
CanCatchBy role.Standby (message ∷ link) node = (now : ℤ) → CanReceive message now node
CanCatchBy _ link node = Unit {0}

abbrev pub CanCatch : Seat → Type 0
CanCatch seat = CanCatchBy seat.node.replica.role seat.link seat.node

-- and does
abbrev pub CatchesBy : Role → List Message → Seat → Seat → Type 0
CatchesBy role.Standby (message ∷ link) old new =
    (moment : ℤ) × (heard : Heard) × IsReceived role.Standby message moment old.node heard new.node × (new ≡ record old { node = new.node; link = link })
CatchesBy _ link old new = new ≡ old

abbrev pub Catches : Seat → Seat → Type 0
Catches old new = CatchesBy old.node.replica.role old.link old new

abbrev pub AllCatch : List Seat → List Seat → Type 0
AllCatch [] [] = Unit {0}
AllCatch (old ∷ olds) (new ∷ news) = Catches old new × AllCatch olds news
AllCatch _ _ = ⊥

-- they do, or nothing changes
abbrev pub CatchesIf : Bool → List Seat → List Seat → Type 0
CatchesIf true olds news = AllCatch olds news
CatchesIf false olds news = news ≡ olds

-- the line of the entry that waits is put, where it is not in a history of so many
abbrev pub PutsCaught : Bool → Node → ℕ → List (List ℕ) → List (List ℕ) → Type 0
PutsCaught true active entries before after = after ≡ before ++ waiting_lines (waiting_in active entries)
PutsCaught false active entries before after = after ≡ before

abbrev pub taken_if : Bool → Option Entry → Option Entry
taken_if true waits = waits
taken_if false waits = None
