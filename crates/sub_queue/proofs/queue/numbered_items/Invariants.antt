use Rattle.std.proofs.Common.{◌≤◌, length}
use Rattle.std.specs.Vec.{vec_capacity}
use Rattle.std.specs.Vec.Iter.{into_iter_items, into_iter_len}
use Rattle.sub_queue.proofs.Numbering.{IsNumberedSoFar}
use Rattle.sub_queue.proofs.queue.numbered_items.Given as goal

abbrev pub invariant-loop-content : goal.invariant-loop-content
invariant-loop-content l = (goal.iterator-loop-content).can_next l.content-iterator × (goal.iterator-loop-content).is_finite l.content-iterator × IsNumberedSoFar l.first l.fn.held l.yielded (into_iter_items l.content-iterator) (into_iter_len l.content-iterator) l.number l.items.items × (length l.fn.held ≤ vec_capacity l.items)
