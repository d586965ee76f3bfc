use Rattle.std.proofs.lemmas.Result.{IfOk-weaker, on_err_weaker}
use Rattle.cluster_rounds.proofs.BrokenClients.{injects-break}
use Rattle.cluster_rounds.proofs.TakenSteps.{injects-so}
use Rattle.cluster_rounds.proofs.injecting.inject.Goals as goal
use Rattle.cluster_rounds.proofs.WildClients.{wild-injects}

pub returns-clause-ok : goal.returns-clause-ok
returns-clause-ok g c =
    IfOk-weaker c.inject.result _ _ (λ done injects. (injects-so g.S.Serving.kit g.met.S.Serving.laws) c.args.bytes.now done c.args.world.now c.inject.new.net c.args.lines.now.items c.inject.new.lines.items injects) c.inject.ensures.ok

pub returns-clause-err : goal.returns-clause-err
returns-clause-err g c =
    on_err_weaker c.inject.result ((injects-break g.S.Serving.kit g.met.S.Serving.laws) c.args.bytes.now c.args.world.now c.inject.new.net) c.inject.ensures.err

pub returns-clause-wild : goal.returns-clause-wild
returns-clause-wild g c =
    IfOk-weaker c.inject.result _ _ (λ done injects. (wild-injects g.S.Serving.kit g.met.S.Serving.laws) c.args.bytes.now done c.args.world.now c.inject.new.net c.args.lines.now.items c.inject.new.lines.items injects) c.inject.ensures.ok
