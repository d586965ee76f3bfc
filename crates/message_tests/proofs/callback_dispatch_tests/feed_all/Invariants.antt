use Rattle.std.proofs.Common.{◌≡◌, ◌≤◌, length}
use Rattle.message_tests.proofs.callback_dispatch_tests.feed_all.Given as goal

abbrev pub invariant-loop-before : goal.invariant-loop-before
invariant-loop-before g l = (l.feeder.queue ≡ l.initial.feeder.queue) × (length l.feeder.list ≤ l.before)
