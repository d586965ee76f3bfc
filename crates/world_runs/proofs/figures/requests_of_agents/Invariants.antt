use Rattle.std.proofs.Common.{◌≡◌, take}
use Rattle.cluster_facts.specs.World.{World}
use Rattle.cluster_clients.specs.Clients.{ShowsAgents}
use Rattle.world_runs.specs.Figures.{requests_again}
use Rattle.world_runs.proofs.figures.requests_of_agents.Given as goal

abbrev pub invariant-loop-agent : goal.invariant-loop-agent
invariant-loop-agent l =
    (world : World) → ShowsAgents world l.agents → l.count ≡ requests_again world.agents (take l.agent-index world.clients)
