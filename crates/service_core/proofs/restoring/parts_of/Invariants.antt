use Rattle.std.proofs.Common.{◌≡◌, ◌++◌}
use Rattle.std.specs.Vec.Iter.{into_iter_items}
use Rattle.service_core.specs.Restoring.{states_in, openers_in, marks_in}
use Rattle.service_core.proofs.restoring.parts_of.Given as goal

abbrev pub invariant-loop-stream : goal.invariant-loop-stream
invariant-loop-stream l =
    (goal.iterator-loop-stream).can_next l.stream-iterator × (goal.iterator-loop-stream).is_finite l.stream-iterator
    × (l.yielded ++ into_iter_items l.stream-iterator ≡ l.fn.streams)
    × (l.states ≡ states_in l.yielded) × (l.openers ≡ openers_in l.yielded) × (l.marks ≡ marks_in l.yielded)
