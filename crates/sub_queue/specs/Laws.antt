-- Words of public clauses, those of the laws: the queue that goes with what happened.
use Rattle.std.specs.Prelude.{ℕ, List}
use Rattle.sub_queue.specs.Queue.{Queue}
use Rattle.sub_queue.specs.History.{Happening, account_of, queue_for}

-- the queue of a subscription to which all this happened, the newest first
abbrev pub queue_after : (capacity : ℕ) → List Happening → Queue
queue_after capacity past = queue_for capacity (account_of capacity past)
