-- Words of public clauses: one server and its journal, as the servers of a cluster.
use Rattle.std.specs.Prelude.{◌≡◌, true, None}
use Rattle.disk_model.specs.declared.answers.DiskAnswer.{DiskAnswer}
use Rattle.disk_model.specs.declared.answers.DiskAnswer.TheVariants.{Memory, Failed, Stopped}
use Rattle.script_lines.specs.declared.line.Line.{Line}
use Rattle.script_lines.specs.declared.line.Line.TheVariants as line
use Rattle.cluster_events.specs.Servers.{State}
use Rattle.cluster_events.specs.Devices.{Device}
use Rattle.cluster_events.specs.Ending.{EndAt}
use Rattle.cold_cluster.specs.Cold.{Alone, IsCold}
use Rattle.cold_cluster.specs.Lines.{ColdHappens, HaltsStep, alone}
use Rattle.cold_cluster.specs.Ended.{ColdEnds, FailsStep}
use Rattle.cluster_rounds.specs.Kits.{Kit}
use Rattle.cluster_rounds.specs.Scripts.{Script}
use Rattle.cold_servers.specs.declared.solo.Solo.{Solo}
use Rattle.cold_servers.specs.ColdNodes.{IsDown, Own}
use Rattle.cold_servers.specs.ColdCounts.{EndsBoth, FaultsLine, LacksBoth, UsesBoth, UsesLine}
use Rattle.cold_servers.specs.ColdSeen.{ArmsBoth, BetweenBoth, ColdSeen, LeavesBoth, Outlives, Rises, TellsBoth}
use Rattle.cold_servers.specs.Silent.{IsSilent}
pub use Rattle.cold_servers.specs.Silent.{ArmedAs}

-- where a step of a drain ends, by the answer: a disk stops in it, or has a fault
abbrev pub EndsCold : DiskAnswer → Device → EndAt Alone
EndsCold Memory device = λ state end. ⊥
EndsCold Failed device = FailsStep device
EndsCold Stopped device = HaltsStep device

-- after a fault the server is down, and no disk is armed
pub record FellCold (servers : Solo) (left : ColdSeen) : Type 0 where
  pub down : IsDown servers.lone
  pub disk : left.disk.tally.armed ≡ None
  pub journal : left.journal.tally.armed ≡ None

-- A drain is thirteen steps, as of a group of two. The first disk has the record files, and the one beside it the journal. Behind a cold
-- start from a journal's disk that tells no files the server may stand for no state.
abbrev pub cold_kit : Kit Alone Solo
cold_kit = record {
  servers = alone;
  steps = 13;
  Good = IsCold;
  Own = Own;
  Seen = ColdSeen;
  see = λ disk beside. record { disk = disk; journal = beside };
  files = λ seen. seen.disk.files;
  Armed = ArmsBoth;
  ArmedAs = ArmedAs;
  Tells = TellsBoth;
  Leaves = LeavesBoth;
  Between = BetweenBoth;
  EndsAt = λ answer plain device. EndsCold answer device;
  Fell = λ setup state servers left. FellCold servers left;
  Uses = λ setup happened state outcome held left. UsesBoth setup happened state outcome.state held left;
  Halts = λ setup happened state end held left. EndsBoth Stopped setup happened state end.state held left;
  Faults = λ setup happened state end held left. EndsBoth Failed setup happened state end.state held left;
  Lacks = λ crash setup state entries servers held left. LacksBoth setup state entries held left;
  Outlives = Outlives;
  Rises = Rises;
  Wild = λ servers net entries seen. IsSilent servers net seen;
}

-- the lines that are played as over any servers whether the server is up or down; any other is so while it is up
abbrev pub SharesCold : Line → State Alone → Type 0
SharesCold (line.Time now) state = Unit {0}
SharesCold (line.Log client asked) state = Unit {0}
SharesCold (line.Ntf client asked) state = Unit {0}
SharesCold (line.Inject bytes) state = Unit {0}
SharesCold (line.DispatchOne client) state = Unit {0}
SharesCold (line.DispatchAll client workers) state = Unit {0}
SharesCold line.Servers state = Unit {0}
SharesCold next state = state.peers.up ≡ true

-- what a line of a script leads to, and where it ends by a fault
abbrev pub cold_script : Script Alone ColdSeen
cold_script = record {
  Leads = ColdHappens;
  Shares = SharesCold;
  Ends = ColdEnds;
  Allows = λ next. Unit {0};
  Uses = λ next setup happened state outcome held left. UsesLine next setup happened state outcome.state held left;
  Faults = λ next setup happened state end held left. FaultsLine next setup happened state end.state held left;
}
