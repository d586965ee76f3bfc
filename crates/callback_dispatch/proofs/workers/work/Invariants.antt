use Rattle.std.proofs.Common.{◌≡◌, ◌-◌, ◌≤◌, ◌++◌, vec_len, vec_capacity}
use Rattle.callback_dispatch.proofs.workers.work.Given as goal

abbrev pub invariant-loop-taker : goal.invariant-loop-taker
invariant-loop-taker g l =
    (l.taker.queue ≡ l.initial.taker.queue) × (l.taker.share ≡ l.initial.taker.share) × (l.taker.known ≡ l.initial.taker.known)
    × (l.taker.list ≡ l.initial.taker.list ++ l.buffer.items) × (l.places ≤ vec_capacity l.buffer)

abbrev pub decreases-loop-taker : goal.decreases-loop-taker
decreases-loop-taker g l = l.places - vec_len l.buffer
