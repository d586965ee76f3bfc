use Rattle.std.proofs.Common.{⊎_elim, None}
use Rattle.std.proofs.lemmas.Result.{IfOk-weaker, on_err_weaker}
use Rattle.cluster_rounds.proofs.WildSteps.{posted-range}
use Rattle.cluster_rounds.proofs.WildClients.{wild-takes}
use Rattle.cluster_rounds.proofs.rounds.take.Goals as goal
use Rattle.cluster_rounds.proofs.BrokenClients.{takes-break}
use Rattle.cluster_rounds.proofs.ChainSteps.{standing-range}
use Rattle.cluster_rounds.proofs.RoundSteps.{take-plays}

pub take-requires : goal.take-requires
take-requires g c =
    ⊎_elim
    (λ has. (standing-range g.S.Serving.kit g.met.S.Serving.laws) has.setup has.state c.args.world.now c.args.message.now has.good has.shows has.so)
    (λ wild. posted-range wild.1.seen c.args.world.now c.args.message.now wild.1.wild.clients wild.1.wild.shows wild.1.so)
    c.requires

pub returns-clause-ok : goal.returns-clause-ok
returns-clause-ok g c =
    IfOk-weaker c.take.result _ _ (λ loud takes. (take-plays g.S.Serving.kit g.met.S.Serving.laws) c.args.message.now c.args.world.now c.take.new.net c.take.new.agents c.args.lines.now.items c.take.new.lines.items loud takes) c.take.ensures.ok

pub returns-clause-err : goal.returns-clause-err
returns-clause-err g c =
    on_err_weaker c.take.result ((takes-break g.S.Serving.kit g.met.S.Serving.laws) 0 c.args.message.now c.args.world.now c.take.new.net c.take.new.agents) c.take.ensures.err

pub returns-clause-wild : goal.returns-clause-wild
returns-clause-wild g c =
    IfOk-weaker c.take.result _ _ (λ loud takes. (wild-takes g.S.Serving.kit g.met.S.Serving.laws) None c.args.message.now c.args.world.now c.take.new.net c.take.new.agents c.args.lines.now.items c.take.new.lines.items loud takes) c.take.ensures.ok
