-- Words of public clauses: where a fault of a disk ends a run.
use Rattle.std.specs.Prelude.{◌≡◌, ◌≤◌, Bool, true, false, List}
use Rattle.script_lines.specs.declared.line.Line.{Line}
use Rattle.script_lines.specs.declared.line.Line.TheVariants as line
use Rattle.script_lines.specs.declared.line.Server.TheVariants.{A}
use Rattle.cluster_facts.specs.Types.{Entry}
use Rattle.cluster_facts.specs.History.{Hand, Waiting, Ready}
use Rattle.cluster_facts.specs.Service.{Plain}
use Rattle.cluster_events.specs.Outcomes.{Outcome, quietly}
use Rattle.cluster_events.specs.Servers.{State}
use Rattle.cluster_events.specs.Devices.{Device}
use Rattle.cluster_events.specs.Ending.{EndAt}
use Rattle.cold_cluster.specs.Cold.{Alone}
use Rattle.cold_cluster.specs.Falling.{fallen}
use Rattle.cold_cluster.specs.Lines.{AreLeft, SettleStops}

-- the journal's disk has a fault in the append of an entry that waits
abbrev pub FailsAppend : Hand → Type 0
FailsAppend (Waiting entry) = Unit {0}
FailsAppend _ = ⊥

-- the record disk has a fault in a call of the deeds of an entry that is ready
abbrev pub FailsWork : Device → List Entry → Hand → Type 0
FailsWork device past (Ready entry) = 1 ≤ device.calls past entry
FailsWork device past _ = ⊥

-- which of both, by what is in hand
abbrev pub FailsIn : Device → List Entry → Hand → Type 0
FailsIn device past (Waiting entry) = FailsAppend (Waiting entry)
FailsIn device past hand = FailsWork device past hand

-- the server goes down in the next step of a drain, and no disk stopped before
pub record FailsStep (device : Device) (state : State Alone) (end : Outcome (State Alone)) : Type 0 where
  pub left : AreLeft state.peers
  pub fails : FailsIn device state.world.core.answered state.world.core.hand
  pub is : end ≡ fallen state

-- While the server is down a cold start may fail: then it stays down, and its line prints nothing
abbrev pub EndsBy : Bool → Plain → Device → Line → EndAt Alone
EndsBy true plain device line.Mirror state end = FailsAppend state.world.core.hand × (end ≡ fallen state)
EndsBy true plain device line.Work state end =
    FailsWork device state.world.core.answered state.world.core.hand × (end ≡ fallen state)
EndsBy true plain device line.Settle state end = SettleStops plain device (FailsStep device) state end
EndsBy false plain device (line.Restart A) state end = end ≡ quietly state
EndsBy up plain device next state end = ⊥

-- where the event of a line ends the run
abbrev pub ColdEnds : Plain → Device → Line → EndAt Alone
ColdEnds plain device next state end = EndsBy state.peers.up plain device next state end
