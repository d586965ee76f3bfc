-- Words of public clauses: one server whose standby is a journal on a second disk, as servers of a cluster. The server is `a`, the
-- journal has the seat of `b`.
use Rattle.std.specs.Prelude.{◌≡◌, ℕ, ℤ, Bool, true, false, Option, None, option_map, List, [], ◌∷◌}
use Rattle.disk_model.specs.Counts.{lowered}
use Rattle.script_lines.specs.declared.line.Server.TheVariants.{A, B}
use Rattle.cluster_facts.specs.Types.{Entry}
use Rattle.cluster_facts.specs.History.{Hand, Ready}
use Rattle.cluster_facts.specs.Service.{Plain}
use Rattle.cluster_facts.specs.World.{empty_world}
use Rattle.cluster_events.specs.declared.lines.Standing.{Standing}
use Rattle.cluster_events.specs.Outcomes.{Outcome}
use Rattle.cluster_events.specs.Servers.{State, Servers}
use Rattle.cluster_events.specs.Devices.{Device}
use Rattle.group_cluster.specs.Seats.{Mark, Clear, Out, Standby, Seat, Peers, IsGroup}
use Rattle.group_cluster.specs.Group.{accept_group, mirror_group, ack_group, work_group}

pub record Alone : Type 0 where
  -- the server and the journal, as an active server and its standby
  pub mirrored : Peers
  -- whether the server is up; what is in hand while it is down may be found in the journal
  pub up : Bool
  -- how many changing calls are left until the record disk stops, and the journal's
  pub armed : Option ℕ
  pub beside : Option ℕ

-- as a group of two
abbrev pub paired : State Alone → State Peers
paired state = record { world = state.world; peers = state.peers.mirrored }

-- what a group comes to, with these counts
abbrev pub alone_by : Bool → Option ℕ → Option ℕ → Outcome (State Peers) → Outcome (State Alone)
alone_by up armed beside outcome = record {
  state = record {
    world = outcome.state.world;
    peers = record { mirrored = outcome.state.peers; up = up; armed = armed; beside = beside };
  };
  told = outcome.told;
}

-- a device of these calls that never fails: a fault ends the event
abbrev pub calm : Device → Device
calm device = record { calls = device.calls; fails = λ number. 0 }

-- how many changing calls the work of the entry in hand makes
abbrev pub calls_in : Device → List Entry → Hand → ℕ
calls_in device past (Ready entry) = device.calls past entry
calls_in device past _ = 0

-- how many changing calls of the journal's disk an append makes: what stands behind the gate, a sync, the gate, a sync
abbrev pub append_count : ℕ
append_count = 4

-- They do what a group of two does whose other server is the journal, in an append or a work that does not come to the end of a disk's
-- count; and whether the server is up or not: while it is down no line asks them. How they are shown in a line that is refused is left
-- open.
abbrev pub cold : (State Alone → Standing) → Plain → Device → Servers Alone
cold shown plain device = record {
  accept = λ entry state. alone_by state.peers.up state.peers.armed state.peers.beside (accept_group entry (paired state));
  mirror = λ state.
      option_map (alone_by state.peers.up state.peers.armed (lowered append_count state.peers.beside))
      (mirror_group (paired state));
  ack = λ state.
      option_map (alone_by state.peers.up state.peers.armed state.peers.beside) (ack_group (paired state));
  work = λ state.
      option_map
      (alone_by state.peers.up
      (lowered (calls_in device state.world.core.answered state.world.core.hand) state.peers.armed)
      state.peers.beside)
      (work_group plain (calm device) (paired state));
  steps = 13;
  standing = shown;
}

-- the server is no standby of its own, and of the journal nothing is ever on the way but an entry
abbrev pub seats_with : Mark → Bool → List Seat
seats_with mark keeps =
    record { server = A; stance = Out } ∷ record { server = B; stance = Standby None mark keeps } ∷ []

-- the journal is the standby of a server that is never armed as one of a group
pub record IsBeside (peers : Peers) : Type 0 where
  pub acting : peers.acting ≡ A
  pub mark : Mark
  pub keeps : Bool
  pub seats : peers.seats ≡ seats_with mark keeps
  pub unarmed : peers.armed ≡ None

-- what holds of them at all times
abbrev pub IsCold : State Alone → Type 0
IsCold state = IsGroup 2 (paired state) × IsBeside state.peers.mirrored

-- the server is up, nothing is on the way, and no disk is armed
abbrev pub at_rest : Alone
at_rest = record {
  mirrored = record { acting = A; seats = seats_with Clear false; armed = None };
  up = true;
  armed = None;
  beside = None;
}

-- the start of a run
abbrev pub cold_begun : ℤ → ℕ → State Alone
cold_begun now places = record { world = empty_world now places; peers = at_rest }
