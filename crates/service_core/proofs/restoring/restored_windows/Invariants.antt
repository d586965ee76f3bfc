use Rattle.std.proofs.Common.{◌≡◌, ◌++◌, map}
use Rattle.std.specs.Vec.Iter.{into_iter_items}
use Rattle.service_table.specs.Tables.{kept_window}
use Rattle.service_core.proofs.restoring.restored_windows.Given as goal

abbrev pub invariant-loop-saved : goal.invariant-loop-saved
invariant-loop-saved l =
    (goal.iterator-loop-saved).can_next l.saved-iterator × (goal.iterator-loop-saved).is_finite l.saved-iterator
    × (l.yielded ++ into_iter_items l.saved-iterator ≡ l.fn.windows)
    × (l.callers.items ≡ map kept_window l.yielded)
