use Rattle.std.proofs.Common.{take}
use Rattle.cluster_clients.specs.Posted.{PostsAll}
use Rattle.cluster_clients.proofs.posting.post_all.Given as goal

abbrev pub invariant-loop-message : goal.invariant-loop-message
invariant-loop-message l =
    PostsAll (take l.message-index l.messages) l.initial.net l.net l.initial.lines.items l.lines.items
