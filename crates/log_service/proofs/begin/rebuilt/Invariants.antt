use Rattle.std.specs.Vec.Iter.{into_iter_items, into_iter_len}
use Rattle.log_service.proofs.BeginLemmas.{AreJoined}
use Rattle.log_service.proofs.begin.rebuilt.Given as goal

abbrev pub invariant-loop-state : goal.invariant-loop-state
invariant-loop-state l = (goal.iterator-loop-state).can_next l.state-iterator × (goal.iterator-loop-state).is_finite l.state-iterator × AreJoined l.fn.states l.openers l.marks l.yielded (into_iter_items l.state-iterator) (into_iter_len l.state-iterator) l.streams.items
