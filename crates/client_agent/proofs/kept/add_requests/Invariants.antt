use Rattle.std.proofs.Common.{◌≡◌, ◌≤◌, ◌++◌, length, take}
use Rattle.cluster_facts.specs.Agents.{requests_of}
use Rattle.client_agent.specs.Inside.{calls_kept}
use Rattle.client_agent.proofs.kept.add_requests.Given as goal

abbrev pub invariant-loop-left : goal.invariant-loop-left
invariant-loop-left l = (l.messages.items ++ requests_of l.client (calls_kept (take l.left l.kept.items)) ≡ l.initial.messages.items ++ requests_of l.client (calls_kept l.kept.items)) × (l.left ≤ length l.kept.items)

abbrev pub decreases-loop-left : goal.decreases-loop-left
decreases-loop-left l = l.left
