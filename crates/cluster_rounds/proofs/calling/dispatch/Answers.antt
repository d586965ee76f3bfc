use Rattle.std.proofs.lemmas.Result.{on_ok_weaker, on_err_weaker}
use Rattle.cluster_rounds.proofs.calling.dispatch.Goals as goal
use Rattle.cluster_rounds.proofs.BrokenClients.{dispatch-breaks}
use Rattle.cluster_rounds.proofs.TakenSteps.{dispatches-happen}
use Rattle.cluster_rounds.proofs.WildClients.{wild-dispatches}

pub returns-clause-ok : goal.returns-clause-ok
returns-clause-ok g c =
    on_ok_weaker c.dispatch.result (λ dispatches setup state good shows. (dispatches-happen g.S.Serving.kit g.met.S.Serving.laws) setup c.args.how c.args.client state c.args.world.now c.dispatch.new.agents c.args.lines.now.items c.dispatch.new.lines.items good shows dispatches) c.dispatch.ensures.ok

pub returns-clause-err : goal.returns-clause-err
returns-clause-err g c =
    on_err_weaker c.dispatch.result (λ may. (dispatch-breaks g.S.Serving.kit g.met.S.Serving.laws) c.args.how c.args.client c.args.world.now c.dispatch.new.agents may) c.dispatch.ensures.err

pub returns-clause-wild : goal.returns-clause-wild
returns-clause-wild g c =
    on_ok_weaker c.dispatch.result (λ dispatches. (wild-dispatches g.S.Serving.kit g.met.S.Serving.laws) c.args.how c.args.client c.args.world.now c.dispatch.new.agents c.args.lines.now.items c.dispatch.new.lines.items dispatches) c.dispatch.ensures.ok
