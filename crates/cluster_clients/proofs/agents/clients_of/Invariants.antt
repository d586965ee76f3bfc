use Rattle.std.proofs.Common.{◌≡◌, map, take}
use Rattle.client_agent.specs.Seen.{Seen}
use Rattle.cluster_clients.proofs.agents.clients_of.Given as goal

abbrev pub invariant-loop-agent : goal.invariant-loop-agent
invariant-loop-agent l = l.clients.items ≡ map (λ (one : Seen). one.client) (take l.agent-index l.agents)
