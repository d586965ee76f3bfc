use Rattle.std.proofs.Common.{◌≡◌, ◌≤◌, ◌++◌, length, take}
use Rattle.cluster_facts.specs.Agents.{greatest_receipts}
use Rattle.client_agent.specs.Inside.{all_living}
use Rattle.client_agent.proofs.living.add_receipts.Given as goal

abbrev pub invariant-loop-left : goal.invariant-loop-left
invariant-loop-left l = (l.messages.items ++ greatest_receipts l.client (all_living (take l.left l.living.items)) ≡ l.initial.messages.items ++ greatest_receipts l.client (all_living l.living.items)) × (l.left ≤ length l.living.items)

abbrev pub decreases-loop-left : goal.decreases-loop-left
decreases-loop-left l = l.left
