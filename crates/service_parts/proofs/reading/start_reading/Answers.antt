use Rattle.std.proofs.Common.{w64, sym, ◌∙◌}
use Rattle.std.proofs.lemmas.Int.{to_z-of_z}
use Rattle.service_parts.proofs.Lookups.{start-answered, starts-found}
use Rattle.service_parts.proofs.reading.start_reading.Goals as goal

pub returns-then-ne-clause-status : goal.returns-then-ne-clause-status
returns-then-ne-clause-status c =
    start-answered c.args.is_user c.args.client c.args.code c.args.value _ c.args.filters.now c.args.alarms.now.kept c.args.readers.now.items c.as_slice.result.now c.is_none-is_missing.result c.start_at-found.result c.start_status-status.result (to_z-of_z w64 c.args.value c.ranges.value) c.as_slice.ensures.value c.start_at-found.ensures c.is_none-is_missing.ensures c.start_status-status.ensures

pub returns-in_ok-begin_at-clause-readers : goal.returns-in_ok-begin_at-clause-readers
returns-in_ok-begin_at-clause-readers c =
    let fits = c.ranges.value in
    let first = simp to_z-of_z at c.start_at-found.ensures in
    c.in_ok-begin_at.ensures.ok ∙ starts-found c.args.client c.args.filters.now c.args.readers.now.items _ c.in-Some.cursor (sym first ∙ c.in-Some.is)
