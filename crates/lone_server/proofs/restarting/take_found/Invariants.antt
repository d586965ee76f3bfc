use Rattle.std.proofs.Common.{◌≡◌, ◌++◌}
use Rattle.std.specs.Vec.Iter.{into_iter_items}
use Rattle.lone_server.specs.Restarting.{TakesAll}
use Rattle.lone_server.proofs.restarting.take_found.Given as goal

abbrev pub invariant-loop-entry : goal.invariant-loop-entry
invariant-loop-entry l =
    (goal.iterator-loop-entry).can_next l.entry-iterator × (goal.iterator-loop-entry).is_finite l.entry-iterator
    × (l.yielded ++ into_iter_items l.entry-iterator ≡ l.fn.entries)
    × TakesAll l.known l.yielded l.history.entries l.initial.lines.items l.lines.items
