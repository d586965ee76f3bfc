use Rattle.std.specs.Prelude.{unwrap_or}
use Rattle.cluster_clients.proofs.FrontSteps.{Searches}
use Rattle.cluster_clients.proofs.replies.first_with.Given as goal

abbrev pub invariant-loop-next : goal.invariant-loop-next
invariant-loop-next l = Searches l.front l.net l.next

abbrev pub decreases-loop-next : goal.decreases-loop-next
decreases-loop-next l = unwrap_or l.next 0
