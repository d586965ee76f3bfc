use Rattle.std.proofs.Common.{sym}
use Rattle.log_service.proofs.streams.opening_plan.Goals as goal

pub making_plan-requires-clause-passes : goal.making_plan-requires-clause-passes
making_plan-requires-clause-passes c = c.requires.passes c.in-Some.attrs.now (sym c.in-Some.ensures)
