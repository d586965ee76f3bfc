use Rattle.std.proofs.Common.{◌≡◌, subst, sym, ◌∙◌, to_z, of_z, w64, rules}
use Rattle.service_core.specs.Beginning.{BeginsAs}
use Rattle.cluster_core.specs.Starting.{world_of}
use Rattle.group_begin.proofs.StartSteps.{begins-as}
use Rattle.cluster_core.proofs.BeginSteps.{starts-world}
use Rattle.cluster_core.proofs.beginning.started.Goals as goal

pub start_both-requires : goal.start_both-requires
start_both-requires c =
    let is : to_z w64 (of_z w64 c.in-Cluster.time) ≡ c.in-Cluster.time = search rules in
    let setup = c.requires.line.0 in
    let begins = begins-as _ _ _ _ _ _ _ _ c.in-Cluster.is c.in_ok-wells-in-Cluster.ensures c.requires.spelled.0 c.requires.spelled.1 setup c.requires.line.1 c.requires.line.2 in
    record {
      one = (setup, subst (λ time. BeginsAs setup time c.in-Cluster.queue c.in_ok-wells-in-Cluster.wells) (sym is) begins);
      other = c.in_ok-same-in-Cluster.ensures ∙ sym c.in_ok-wells-in-Cluster.ensures;
    }

pub returns-in_ok-active-in-Cluster : goal.returns-in_ok-active-in-Cluster
returns-in_ok-active-in-Cluster c setup places begins =
    let is : to_z w64 (of_z w64 c.in-Cluster.time) ≡ c.in-Cluster.time = search rules in
    let own = begins-as _ _ _ _ _ _ _ _ c.in-Cluster.is c.in_ok-wells-in-Cluster.ensures c.requires.spelled.0 c.requires.spelled.1 setup places begins in
    let made = subst (λ time. c.world_of.result ≡ world_of c.in_ok-active-in-Cluster.active c.in_ok-active-in-Cluster.standby time c.in-Cluster.callbacks) is c.world_of.ensures in
    starts-world _ _ _ _ _ _ _ _ _ _ _ c.in-Cluster.is made setup places begins
    (c.in_ok-active-in-Cluster.ensures setup (subst (λ time. BeginsAs setup time c.in-Cluster.queue c.in_ok-wells-in-Cluster.wells) (sym is) own))
