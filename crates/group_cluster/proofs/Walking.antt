-- A relation of worlds and lines that is kept by each kind of line, and by what servers make of history and hand, is kept by every line.
use Rattle.std.proofs.Common.{ℕ, ◌&&◌, List, [], ◌∷◌, refl, sym, subst}
use Rattle.script_lines.specs.declared.line.Line.{Line}
use Rattle.script_lines.specs.declared.line.Line.TheVariants as line
use Rattle.cluster_facts.specs.Service.{Plain, IsPlain}
use Rattle.cluster_facts.specs.World.{World}
use Rattle.cluster_events.specs.Lines.{Told, Refused, Stood}
use Rattle.cluster_events.specs.Outcomes.{Outcome}
use Rattle.cluster_events.specs.Cores.{IsCored}
use Rattle.cluster_events.specs.Servers.{State}
use Rattle.cluster_events.specs.Devices.{Device}
use Rattle.cluster_events.specs.Running.{Shelf}
use Rattle.cluster_events.specs.Serving.{IsSteady, IsCarried}
use Rattle.cluster_events.proofs.Carrying.{IsTold}
use Rattle.cluster_events.proofs.Walking.{ByKind, Others, kind_of, IsShow, IsByKind, line-walks}
use Rattle.group_cluster.specs.Seats.{Peers, IsGroup, is_standby, any_seat, same_server}
use Rattle.group_cluster.specs.Falling.{can_join}
use Rattle.group_cluster.specs.Group.{group}
use Rattle.group_cluster.specs.Running.{GroupHappens}
use Rattle.group_cluster.proofs.Answering.{answer-goes}
use Rattle.group_cluster.proofs.Stepping.{Bears}
use Rattle.group_cluster.proofs.Serving.{group-carries, group-stepped}
use Rattle.group_cluster.proofs.Saying.{group-serves}
use Rattle.group_cluster.proofs.Lines.{crash-keeps, arm-keeps, disarm-keeps, restart-keeps}

module _ (plain : Plain) (R : World → World → List Told → Type 0) (told : IsTold plain R) (shows : (world : World) (line : Told) → IsShow line → R world world (line ∷ [])) (cored : IsCored R) where
  pub told-bears : Bears plain R
  told-bears = record {
    same = told.same;
    both = told.both;
    stood = λ world server role. shows world (Stood server role) tt;
    refused = λ world text standing. shows world (Refused text standing) tt;
    taken = cored.taken;
    applied = λ world past entry sound. cored.applied world past entry;
    confirmed = cored.confirmed;
    worked = answer-goes plain R told.both told.answer cored.answered;
    over = cored.over;
  }

-- **each line keeps the facts of the servers, and the relation of its kind**
module _ (size : ℕ) (plain : Plain) (is_plain : IsPlain plain) (shelf : Shelf) (device : Device) (R : ByKind) (told : IsTold plain (R Others)) (cored : IsCored (R Others)) (by_kind : IsByKind plain R) where
  bears : Bears plain (R Others)
  bears = told-bears plain (R Others) told by_kind.shows cored

  carried : IsCarried plain (group plain device) (IsGroup size) (R Others)
  carried = group-carries size plain is_plain device (R Others) bears told

  abbrev Walks : Line → State Peers → Outcome (State Peers) → Type 0
  Walks next state outcome = IsSteady plain (IsGroup size) outcome.state × R (kind_of next) state.world outcome.state.world outcome.told

  pub group-walks : (next : Line) (state : State Peers) (outcome : Outcome (State Peers)) → IsSteady plain (IsGroup size) state → GroupHappens plain shelf device next state outcome → Walks next state outcome
  group-walks (line.Crash server) state outcome steady happens =
      subst (Walks (line.Crash server) state) (sym happens) (crash-keeps size plain is_plain device (R Others) bears server (same_server server state.peers.acting) state refl steady)
  group-walks (line.Arm server count) state outcome steady happens =
      subst (Walks (line.Arm server count) state) (sym happens.1) (arm-keeps size plain is_plain device (R Others) bears server count (same_server server state.peers.acting && any_seat is_standby state.peers.seats) state refl happens.0 steady)
  group-walks line.Disarm state outcome steady happens =
      subst (Walks line.Disarm state) (sym happens) (disarm-keeps size plain is_plain device (R Others) bears state steady)
  group-walks (line.Restart server) state outcome steady happens =
      subst (Walks (line.Restart server) state) (sym happens) (restart-keeps size plain is_plain device (R Others) bears server (can_join server state.peers) state refl steady)
  group-walks next state outcome steady happens =
      line-walks plain is_plain shelf (group plain device) (IsGroup size) (group-serves size plain device is_plain) R carried (group-stepped size plain is_plain device (R Others) bears) by_kind next state outcome steady happens
