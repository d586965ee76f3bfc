use Rattle.std.proofs.Common.{◌≡◌, ◌+◌, ◌≤◌, length}
use Rattle.library_bench.proofs.queues.feed_all.Given as goal

abbrev pub invariant-loop-invocation : goal.invariant-loop-invocation
invariant-loop-invocation g l =
    (l.feeder.queue ≡ l.initial.feeder.queue) × (length l.feeder.list ≤ length l.initial.feeder.list + l.invocation)
