use Rattle.std.proofs.Common.{Some}
use Rattle.cluster_rounds.proofs.delivering.deliver_to_agent.Goals as goal
use Rattle.cluster_rounds.proofs.BrokenClients.{takes-break}
use Rattle.cluster_rounds.proofs.FetchSteps.{delivers-agent, fits-agent}
use Rattle.cluster_rounds.proofs.WildClients.{wild-takes}

pub take-requires : goal.take-requires
take-requires g c = (fits-agent g.S.Serving.kit g.met.S.Serving.laws) c.args.message.now c.requires.agent c.requires.fits

pub returns-in-Ok-clause-ok : goal.returns-in-Ok-clause-ok
returns-in-Ok-clause-ok g c =
    (delivers-agent g.S.Serving.kit g.met.S.Serving.laws) c.args.place c.args.message.now c.args.world.now c.take.new.net c.take.new.agents c.args.lines.now.items c.take.new.lines.items _ c.requires.agent c.in-Ok.ensures.ok

pub returns-in-Err-clause-err : goal.returns-in-Err-clause-err
returns-in-Err-clause-err g c =
    (takes-break g.S.Serving.kit g.met.S.Serving.laws) c.args.place c.args.message.now c.args.world.now c.take.new.net c.take.new.agents c.in-Err.ensures.err

pub returns-in-Ok-clause-wild : goal.returns-in-Ok-clause-wild
returns-in-Ok-clause-wild g c =
    (wild-takes g.S.Serving.kit g.met.S.Serving.laws) (Some c.args.place) c.args.message.now c.args.world.now c.take.new.net c.take.new.agents c.args.lines.now.items c.take.new.lines.items _ c.in-Ok.ensures.ok
