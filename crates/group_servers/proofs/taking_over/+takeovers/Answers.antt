use Rattle.std.proofs.Common.{sym, ◌∙◌}
use Rattle.group_servers.specs.Tries.Tries.{passes, fails, takes_over}
use Rattle.group_servers.specs.Tries.TriesPartly.{passes_by, fails_first, lacks}
use Rattle.group_servers.proofs.TrySteps.{none-tries, furthered, furthered-err}
use Rattle.group_servers.proofs.taking_over.+takeovers.Goals as goal

pub first_takeover-returns-in-None-clause-tries : goal.first_takeover-returns-in-None-clause-tries
first_takeover-returns-in-None-clause-tries g t c =
    none-tries c.args.fresh c.args.seats.now _ c.in-None.ensures.cases

pub takeover_among-returns-then-not-takes-clause-tries : goal.takeover_among-returns-then-not-takes-clause-tries
takeover_among-returns-then-not-takes-clause-tries g t c =
    furthered _ _ c.first_takeover.result c.further.result c.further.ensures
    (λ found tries. passes c.args.first.now (sym c.takes.ensures ∙ c.if-not-takes.true) tries)
    c.first_takeover.ensures.tries

pub takeover_among-returns-in-Ok-true-clause-tries : goal.takeover_among-returns-in-Ok-true-clause-tries
takeover_among-returns-in-Ok-true-clause-tries g t c =
    takes_over c.args.first.now c.try_one.new.seat (sym c.takes.ensures ∙ c.if-not-takes.false) (rw c.in-Ok-true.field-0-test at c.in-Ok-true.ensures.tries)

pub takeover_among-returns-in-Ok-false-clause-tries : goal.takeover_among-returns-in-Ok-false-clause-tries
takeover_among-returns-in-Ok-false-clause-tries g t c =
    furthered _ _ c.first_takeover-in-Ok-false.result c.further-in-Ok-false.result c.further-in-Ok-false.ensures
    (λ found tries. fails c.args.first.now c.try_one.new.seat (sym c.takes.ensures ∙ c.if-not-takes.false) (rw c.in-Ok-false.field-0-test at c.in-Ok-false.ensures.tries) tries)
    c.first_takeover-in-Ok-false.ensures.tries

pub takeover_among-returns-then-not-takes-clause-lacks : goal.takeover_among-returns-then-not-takes-clause-lacks
takeover_among-returns-then-not-takes-clause-lacks g t c =
    furthered-err _ _ c.first_takeover.result c.further.result c.further.ensures
    (λ part. passes_by c.args.first.now (sym c.takes.ensures ∙ c.if-not-takes.true) part)
    c.first_takeover.ensures.lacks

pub takeover_among-returns-in-Ok-false-clause-lacks : goal.takeover_among-returns-in-Ok-false-clause-lacks
takeover_among-returns-in-Ok-false-clause-lacks g t c =
    furthered-err _ _ c.first_takeover-in-Ok-false.result c.further-in-Ok-false.result c.further-in-Ok-false.ensures
    (λ part. fails_first c.args.first.now c.try_one.new.seat (sym c.takes.ensures ∙ c.if-not-takes.false) (rw c.in-Ok-false.field-0-test at c.in-Ok-false.ensures.tries) part)
    c.first_takeover-in-Ok-false.ensures.lacks

pub takeover_among-returns-in-Err-clause-lacks : goal.takeover_among-returns-in-Err-clause-lacks
takeover_among-returns-in-Err-clause-lacks g t c =
    lacks c.args.first.now (sym c.takes.ensures ∙ c.if-not-takes.false) c.in-Err.ensures.lacks
