-- Words of public clauses: what holds of every run of servers, over any service that does what the cluster asks, whatever is crashed,
-- armed, restarted or fails.
use Rattle.std.specs.Prelude.{◌≡◌, ℕ, ℤ, None, List}
use Rattle.script_lines.specs.declared.line.Line.{Line}
use Rattle.script_lines.specs.declared.line.Server.{Server}
use Rattle.cluster_facts.specs.Types.{Entry}
use Rattle.cluster_facts.specs.Service.{Plain, IsPlain}
use Rattle.cluster_events.specs.Lines.{Told}
use Rattle.cluster_events.specs.Servers.{State, advance, drain}
use Rattle.cluster_events.specs.Serving.{IsSteady}
use Rattle.cluster_events.specs.Devices.{Device}
use Rattle.cluster_events.specs.Settling.{Settles}
use Rattle.cluster_events.specs.Running.{Shelf}
use Rattle.cluster_events.specs.Runs.{RunBy}
use Rattle.cluster_events.specs.Promises.{AtEnd}
use Rattle.cluster_events.specs.Settled.{IsSettled}
use Rattle.group_cluster.specs.Seats.{Peers, IsGroup}
use Rattle.group_cluster.specs.Group.{group, group_start, CanStart}
use Rattle.group_cluster.specs.Running.{GroupStepBy}

-- at the end of each line of a run all promises hold. The lines so far are themselves a run, so they hold at the end of every line
abbrev pub GroupKeepsPromises : Type 0
GroupKeepsPromises =
    (size : ℕ) (plain : Plain) → IsPlain plain → (shelf : Shelf) (calls : List Entry → Entry → ℕ) (others : List Server) → CanStart size others
    → (now : ℤ) (places first : ℕ) (lines : List Line) (state : State Peers) (told : List Told) (mark : ℕ)
    → RunBy (GroupStepBy plain shelf calls) (group_start others now places) first lines state told mark → AtEnd plain state.world told

-- `settle` has an end wherever a run comes to it, whichever works fail in it, and after it everything is settled
pub record GroupSettlesOnce (plain : Plain) (device : Device) (state : State Peers) : Type 0 where
  pub new : State Peers
  pub told : List Told
  pub settles : Settles plain (group plain device) state new told

abbrev pub GroupSettleEnds : Type 0
GroupSettleEnds =
    (size : ℕ) (plain : Plain) → IsPlain plain → (shelf : Shelf) (calls : List Entry → Entry → ℕ) (device : Device) (others : List Server)
    → CanStart size others → (now : ℤ) (places first : ℕ) (lines : List Line) (state : State Peers) (told : List Told) (mark : ℕ)
    → RunBy (GroupStepBy plain shelf calls) (group_start others now places) first lines state told mark
    → GroupSettlesOnce plain device state

abbrev pub GroupSettleSettles : Type 0
GroupSettleSettles =
    (size : ℕ) (plain : Plain) → IsPlain plain → (shelf : Shelf) (calls : List Entry → Entry → ℕ) (device : Device) (others : List Server)
    → CanStart size others → (now : ℤ) (places first : ℕ) (lines : List Line) (state new : State Peers) (told printed : List Told) (mark : ℕ)
    → RunBy (GroupStepBy plain shelf calls) (group_start others now places) first lines state told mark
    → Settles plain (group plain device) state new printed → IsSettled plain new.world

-- behind a drain no step of the servers is left: so many steps as they say are enough
abbrev pub GroupDrainEnds : Type 0
GroupDrainEnds =
    (size : ℕ) (plain : Plain) → IsPlain plain → (device : Device) (state : State Peers) → IsSteady plain (IsGroup size) state
    → advance (group plain device) (drain (group plain device) state).state ≡ None
