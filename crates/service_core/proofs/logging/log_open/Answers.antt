use Rattle.std.proofs.lemmas.Int.{to_z-of_z}
use Rattle.service_core.proofs.logging.log_open.Goals as goal

pub returns-then-is_living-clause-ok : goal.returns-then-is_living-clause-ok
returns-then-is_living-clause-ok c =
    let fits = c.ranges.now in
    simp to_z-of_z at c.open_living.ensures.ok

pub returns-else-is_living-clause-ok : goal.returns-else-is_living-clause-ok
returns-else-is_living-clause-ok c =
    let fits = c.ranges.now in
    simp to_z-of_z at c.open_planned.ensures.ok
