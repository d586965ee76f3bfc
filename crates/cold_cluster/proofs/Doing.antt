-- They do what a group does that never falls in a work.
use Rattle.std.proofs.Common.{Bool, ℕ, Option, Some, None, option_map, refl}
use Rattle.cluster_facts.specs.Service.{Plain, IsPlain}
use Rattle.cluster_facts.specs.World.{World}
use Rattle.cluster_events.specs.Lines.{Told}
use Rattle.cluster_events.specs.declared.lines.Standing.{Standing}
use Rattle.cluster_events.specs.Devices.{Device}
use Rattle.cluster_events.specs.Outcomes.{Outcome}
use Rattle.cluster_events.specs.Servers.{State, Servers}
use Rattle.cluster_events.specs.Serving.{IsServing, IsCarried, AreStepped}
use Rattle.std.specs.Prelude.{List}
use Rattle.group_cluster.specs.Seats.{Peers, IsGroup}
use Rattle.group_cluster.specs.Group.{group, mirror_group, ack_group, work_group}
use Rattle.group_cluster.proofs.Also.{Both, carried-also, serving-also, stepped-also}
use Rattle.group_cluster.proofs.Saying.{group-serves}
use Rattle.cold_cluster.specs.Cold.{Alone, IsBeside, IsCold, alone_by, calm, cold, paired}
use Rattle.cold_cluster.proofs.Beside.{lasts-beside}
use Rattle.cold_cluster.proofs.Under.{Does, SameStep, are-stepped-under, carries-under, serves-under}

abbrev mirrored : Alone → Peers
mirrored peers = peers.mirrored

step-same : (step : Option (Outcome (State Peers))) (up : Bool) (armed beside : Option ℕ) → SameStep mirrored (option_map (alone_by up armed beside) step) step
step-same None up armed beside = tt
step-same (Some outcome) up armed beside = record { state = refl; told = refl }

module _ (shown : State Alone → Standing) (plain : Plain) (is_plain : IsPlain plain) (device : Device) where
  abbrev servers : Servers Peers
  servers = group plain (calm device)

  abbrev besides : State Peers → Type 0
  besides = Both plain servers (IsGroup 2) IsBeside (lasts-beside plain device)

  cold-does : Does mirrored (cold shown plain device) servers
  cold-does = record {
    accept = λ entry state. record { state = refl; told = refl };
    mirror = λ state. step-same (mirror_group (paired state)) _ _ _;
    ack = λ state. step-same (ack_group (paired state)) _ _ _;
    work = λ state. step-same (work_group plain (calm device) (paired state)) _ _ _;
    steps = refl;
  }

  pub cold-serves : IsServing plain (cold shown plain device) IsCold
  cold-serves =
      serves-under mirrored (cold shown plain device) servers cold-does plain besides
      (serving-also plain servers (IsGroup 2) IsBeside (lasts-beside plain device) (group-serves 2 plain (calm device) is_plain))

  pub cold-carries : (R : World → World → List Told → Type 0) → IsCarried plain servers (IsGroup 2) R → IsCarried plain (cold shown plain device) IsCold R
  cold-carries R carried =
      carries-under mirrored (cold shown plain device) servers cold-does plain besides R
      (carried-also plain servers (IsGroup 2) IsBeside (lasts-beside plain device) R carried)

  pub cold-stepped : (R : World → World → List Told → Type 0) → AreStepped plain servers (IsGroup 2) R → AreStepped plain (cold shown plain device) IsCold R
  cold-stepped R stepped =
      are-stepped-under mirrored (cold shown plain device) servers cold-does plain besides R
      (stepped-also plain servers (IsGroup 2) IsBeside (lasts-beside plain device) R stepped)
