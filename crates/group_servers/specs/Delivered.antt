-- Words of bodies alone: messages that reach servers beside the active one, and that come back from them.
use Rattle.std.specs.Prelude.{◌≡◌, ℕ, ℤ, Bool, true, false, if◌then◌else◌, Option, Some, None, List, [], ◌∷◌, ◌++◌}
use Rattle.script_lines.specs.declared.line.Server.{Server}
use Rattle.wire.specs.declared.message.Message.{Message}
use Rattle.cluster_facts.specs.Types.{Entry}
use Rattle.cluster_events.specs.declared.lines.ServerRole.TheVariants as role
use Rattle.event_text.specs.Texts.{server_line}
use Rattle.mirror.specs.declared.heard.Outcome.{Outcome}
use Rattle.mirror.specs.declared.heard.Outcome.TheVariants.{Joined}
use Rattle.mirror.specs.declared.heard.Heard.{Heard}
use Rattle.mirror.specs.declared.state.NodeState.{NodeState as Node}
use Rattle.mirror.specs.Pairing.{CanReceive, IsReceived}
use Rattle.lead_server.specs.Heard.{IsConfirmed}
use Rattle.group_servers.specs.declared.group.Seat.{Seat}
use Rattle.group_servers.specs.Seats.{is_last}

-- a server can be told the first message on the way to it
abbrev pub CanTakeBy : List Message → Node → Type 0
CanTakeBy [] node = Unit {0}
CanTakeBy (message ∷ link) node = (moment : ℤ) → CanReceive message moment node

abbrev pub CanTake : Seat → Type 0
CanTake seat = CanTakeBy seat.link seat.node

-- a server heard a message
pub record Hears (message : Message) (old : Node) (heard : Heard) (new : Node) : Type 0 where
  pub moment : ℤ
  pub received : IsReceived old.replica.role message moment old heard new

-- the line of a server that joined
abbrev pub joined_lines : Server → Outcome → List (List ℕ)
joined_lines server Joined = server_line server role.Standby ∷ []
joined_lines server _ = []

-- what a server heard is told: that it joined, and what it answers
pub record TellsDelivered (server : Server) (heard : Heard) (committed : Option Entry) (old_back new_back : List Message)
    (before after : List (List ℕ)) : Type 0 where
  pub committed_is : committed ≡ heard.committed
  pub back : new_back ≡ old_back ++ heard.to_peer
  pub lines : after ≡ before ++ joined_lines server heard.outcome

-- a message came to a server
pub record Delivers (message : Message) (rest : List Message) (committed : Option Entry) (old new : Seat) (before after : List (List ℕ)) : Type 0 where
  pub first : old.link ≡ message ∷ rest
  pub heard : Heard
  pub hears : Hears message old.node heard new.node
  pub told : TellsDelivered old.server heard committed old.back new.back before after
  pub is : new ≡ record old { node = new.node; link = rest; back = new.back }

-- the first one on the way to it, if there is one
abbrev pub Comes : Option (Option Entry) → Seat → Seat → List (List ℕ) → List (List ℕ) → Type 0
Comes None old new before after = (old.link ≡ []) × (new ≡ old) × (after ≡ before)
Comes (Some committed) old new before after = (message : Message) × (rest : List Message) × Delivers message rest committed old new before after

-- the first one on the way to the first server of these to which one is on the way, if there is one
pub data FirstComes (these : Server → Bool) : Option (Option Entry) → List Seat → List Seat → List (List ℕ) → List (List ℕ) → Type 0 where
  nowhere : {lines : List (List ℕ)} → FirstComes these None [] [] lines lines
  here : {seats : List Seat} {committed : Option Entry} {before after : List (List ℕ)} → (old new : Seat) → these old.server ≡ true
      → Comes (Some committed) old new before after → FirstComes these (Some committed) (old ∷ seats) (new ∷ seats) before after
  there : {found : Option (Option Entry)} {seats news : List Seat} {before after : List (List ℕ)} → (seat : Seat)
      → (these seat.server ≡ true → seat.link ≡ [])
      → FirstComes these found seats news before after → FirstComes these found (seat ∷ seats) (seat ∷ news) before after

-- what is committed of an entry that a server applied: nothing while it goes to another one
abbrev pub committed_now : (goes : Bool) → Option Entry → Option Entry
committed_now goes committed = if goes then None else committed

-- the first message on the way back from the first server of these from which one is, if there is one
pub data TakesBack (these : Server → Bool) : Option Message → List Seat → List Seat → Type 0 where
  nothing : TakesBack these None [] []
  first : {seats : List Seat} → (message : Message) (rest : List Message) (old new : Seat) → these old.server ≡ true
      → old.back ≡ message ∷ rest → new ≡ record old { back = rest } → TakesBack these (Some message) (old ∷ seats) (new ∷ seats)
  later : {found : Option Message} {seats news : List Seat} → (seat : Seat) → (these seat.server ≡ true → seat.back ≡ [])
      → TakesBack these found seats news → TakesBack these found (seat ∷ seats) (seat ∷ news)

-- all servers
abbrev pub every : Server → Bool
every server = true

-- the active server hears the last confirmation of an entry, and no other message
abbrev pub ConfirmsBy : Bool → Message → Node → Node → Type 0
ConfirmsBy true message old new = IsConfirmed message old new
ConfirmsBy false message old new = new ≡ old

abbrev pub ConfirmsLast : Message → List Seat → Node → Node → Type 0
ConfirmsLast message seats old new = ConfirmsBy (is_last message seats) message old new
