use Rattle.std.proofs.Common.{◌≡◌, subst, sym, ◌∙◌, to_z, of_z, w64, rules}
use Rattle.service_core.specs.Beginning.{BeginsAs}
use Rattle.command_journal.proofs.BeginSpelled.{begins-as, tells-start}
use Rattle.command_journal.proofs.beginning.opened.Goals as goal

pub start_from-requires : goal.start_from-requires
start_from-requires c =
    let is : to_z w64 (of_z w64 c.in-Cluster.time) ≡ c.in-Cluster.time = search rules in
    let setup = c.requires.line.0 in
    let begins = begins-as _ _ _ _ _ _ _ _ c.in-Cluster.is c.in_ok-wells-in-Cluster.ensures c.requires.spelled.0 c.requires.spelled.1 setup c.requires.line.1 c.requires.line.2 in
    (setup, subst (λ time. BeginsAs setup time c.in-Cluster.queue c.in_ok-wells-in-Cluster.wells) (sym is) begins)

pub returns-in_ok-node-in-Cluster : goal.returns-in_ok-node-in-Cluster
returns-in_ok-node-in-Cluster c setup places begins =
    let is : to_z w64 (of_z w64 c.in-Cluster.time) ≡ c.in-Cluster.time = search rules in
    let own = begins-as _ _ _ _ _ _ _ _ c.in-Cluster.is c.in_ok-wells-in-Cluster.ensures c.requires.spelled.0 c.requires.spelled.1 setup places begins in
    let tells = tells-start _ _ _ _ _ _ _ c.in-Cluster.is setup places begins in
    record {
      starts = c.in_ok-node-in-Cluster.ensures setup (subst (λ time. BeginsAs setup time c.in-Cluster.queue c.in_ok-wells-in-Cluster.wells) (sym is) own);
      start = is ∙ tells.0;
      callbacks = tells.1;
    }
