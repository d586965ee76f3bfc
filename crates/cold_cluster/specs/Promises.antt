-- Words of public clauses: what holds of every run of one server and its journal, over any service that does what the cluster asks,
-- wherever a disk stops and however often the server is crashed.
use Rattle.std.specs.Prelude.{◌≡◌, ℕ, ℤ, true, false, None, List, ◌++◌}
use Rattle.script_lines.specs.declared.line.Line.{Line}
use Rattle.cluster_facts.specs.Types.{Entry}
use Rattle.cluster_facts.specs.History.{Ready, committed}
use Rattle.cluster_facts.specs.Messages.{messages_in}
use Rattle.cluster_facts.specs.Service.{Plain, IsPlain}
use Rattle.cluster_events.specs.Lines.{Told}
use Rattle.cluster_events.specs.Outcomes.{Outcome}
use Rattle.cluster_events.specs.Servers.{State}
use Rattle.cluster_events.specs.Devices.{Device}
use Rattle.cluster_events.specs.Serving.{IsSteady}
use Rattle.cluster_events.specs.Running.{Shelf}
use Rattle.cluster_events.specs.Runs.{RunBy}
use Rattle.cluster_events.specs.Promises.{AtEnd}
use Rattle.cluster_events.specs.Settled.{IsSettled}
use Rattle.cluster_events.specs.Settling.{Settles}
use Rattle.cluster_events.specs.Ending.{LacksLast}
use Rattle.cluster_events.specs.Ending.{is_crash}
use Rattle.cold_cluster.specs.Cold.{Alone, IsCold, cold_begun}
use Rattle.cold_cluster.specs.Lines.{ColdHappens, ColdStepBy, SettlesUp, alone}
use Rattle.cold_cluster.specs.Ended.{ColdEnds}

-- lines led from the start to this state, and printed these lines
abbrev pub Ran : Plain → Shelf → (List Entry → Entry → ℕ) → ℤ → ℕ → List Line → State Alone → List Told → Type 0
Ran plain shelf calls now places lines state told =
    RunBy {M = Unit {0}} (ColdStepBy plain shelf calls) (cold_begun now places) tt lines state told tt

-- at the end of each line of a run all promises hold. The lines so far are themselves a run, so they hold at the end of every line
abbrev pub ColdKeepsPromises : Type 0
ColdKeepsPromises =
    (plain : Plain) → IsPlain plain → (shelf : Shelf) (calls : List Entry → Entry → ℕ) (now : ℤ) (places : ℕ) (lines : List Line)
    (state : State Alone) (told : List Told) → Ran plain shelf calls now places lines state told → AtEnd plain state.world told

-- behind a `settle` that no disk stopped everything is settled
abbrev pub ColdSettleSettles : Type 0
ColdSettleSettles =
    (plain : Plain) → IsPlain plain → (shelf : Shelf) (calls : List Entry → Entry → ℕ) (device : Device) (now : ℤ) (places : ℕ)
    (lines : List Line) (state new : State Alone) (told printed : List Told) → Ran plain shelf calls now places lines state told
    → Settles plain (alone plain device) state new printed → IsSettled plain new.world

-- where no disk is armed `settle` comes to its end
pub record SettlesOnce (plain : Plain) (device : Device) (state : State Alone) : Type 0 where
  pub outcome : Outcome (State Alone)
  pub settles : SettlesUp plain device state outcome

abbrev pub ColdSettleEnds : Type 0
ColdSettleEnds =
    (plain : Plain) → IsPlain plain → (device : Device) (state : State Alone) → IsSteady plain IsCold state → state.peers.up ≡ true
    → state.peers.armed ≡ None → state.peers.beside ≡ None → SettlesOnce plain device state

-- and only `crash` takes the server down
abbrev pub ColdStaysUp : Type 0
ColdStaysUp =
    (plain : Plain) → IsPlain plain → (shelf : Shelf) (device : Device) (next : Line) (state : State Alone)
    (outcome : Outcome (State Alone)) → IsSteady plain IsCold state → is_crash next ≡ false → state.peers.up ≡ true
    → state.peers.armed ≡ None → state.peers.beside ≡ None → ColdHappens plain shelf device next state outcome
    → outcome.state.peers.up ≡ true

-- where a fault ends a run all promises hold too
abbrev pub ColdEndKeeps : Type 0
ColdEndKeeps =
    (plain : Plain) → IsPlain plain → (shelf : Shelf) (calls : List Entry → Entry → ℕ) (device : Device) (now : ℤ) (places : ℕ)
    (lines : List Line) (state : State Alone) (told : List Told) (next : Line) (end : Outcome (State Alone))
    → Ran plain shelf calls now places lines state told → ColdEnds plain device next state end
    → AtEnd plain end.state.world (end.told ++ told)

-- and where it came in the work of an entry, the last one, no reply is posted to that
abbrev pub ColdEndLacks : Type 0
ColdEndLacks =
    (plain : Plain) → IsPlain plain → (device : Device) (next : Line) (state : State Alone) (end : Outcome (State Alone)) (entry : Entry)
    → IsSteady plain IsCold state → ColdEnds plain device next state end → end.state.world.core.hand ≡ Ready entry
    → LacksLast (committed end.state.world.core) (messages_in end.state.world.net)
