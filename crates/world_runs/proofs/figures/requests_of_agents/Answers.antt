use Rattle.std.proofs.Common.{refl, arith}
use Rattle.world_runs.proofs.FigureLaws.{again-all, again-next}
use Rattle.world_runs.proofs.figures.requests_of_agents.Goals as goal

pub loop-agent-init : goal.loop-agent-init
loop-agent-init c = λ world shows. refl

pub returns : goal.returns
returns c = λ world shows.
    again-all world c.args.agents.now c.loop-agent.agent-index c.loop-agent.count shows (omega arith) (c.loop-agent.invariant world shows)

pub loop-agent-preserved : goal.loop-agent-preserved
loop-agent-preserved c = λ world shows.
    again-next world c.args.agents.now c.loop-agent.agent-index c.agent-item.result c.loop-agent.count c.in_ok-more.more c.in-Some.sum shows c.loop-agent-test.true c.agent-item.is c.in_ok-more.ensures c.in-Some.ensures.1 (c.loop-agent.invariant world shows)
