use Rattle.std.proofs.Common.{◌≡◌, ◌+◌, ◌-◌, ◌≤◌, vec_len, vec_capacity, length}
use Rattle.callback_dispatch.specs.Crew.{TookMore}
use Rattle.callback_dispatch.proofs.workers.take_left.Given as goal

abbrev pub invariant-loop-taker : goal.invariant-loop-taker
invariant-loop-taker g l =
    (l.taker.queue ≡ l.initial.taker.queue) × (l.taker.share ≡ l.initial.taker.share) × (l.taker.known ≡ l.initial.taker.known)
    × TookMore l.initial.taker.list l.initial.answer.items l.taker.list l.answer.items × (l.full ≤ vec_capacity l.answer)
    × (vec_len l.answer ≤ l.full) × (vec_len l.answer + length l.initial.taker.list ≡ vec_len l.initial.answer + length l.taker.list)

abbrev pub decreases-loop-taker : goal.decreases-loop-taker
decreases-loop-taker g l = l.full - vec_len l.answer
