use Rattle.std.proofs.Common.{◌≡◌, ◌++◌, map}
use Rattle.std.specs.Vec.Iter.{into_iter_items}
use Rattle.service_table.specs.Tables.{kept_sub_of}
use Rattle.ntf_service.specs.Told.{all_told}
use Rattle.service_core.proofs.restoring.restored_subs.Given as goal

abbrev pub invariant-loop-sub : goal.invariant-loop-sub
invariant-loop-sub l =
    (goal.iterator-loop-sub).can_next l.sub-iterator × (goal.iterator-loop-sub).is_finite l.sub-iterator
    × (l.yielded ++ into_iter_items l.sub-iterator ≡ l.fn.subs)
    × (all_told l.kept.items ≡ map (kept_sub_of l.cap) l.yielded)
