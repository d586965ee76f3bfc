use Rattle.std.proofs.Common.{sym, ap, subst, ◌∙◌}
use Rattle.std.proofs.lemmas.Int.{to_z-of_z}
use Rattle.log_history.specs.Changes.{Stored}
use Rattle.log_history.specs.Table.{LogTable}
use Rattle.log_history.specs.Times.{second_of, record_at}
use Rattle.log_service.specs.declared.step.Step.{Step}
use Rattle.service_fit.specs.Fit.{IsAlarmFirst}
use Rattle.ais_values.proofs.Basics.{OnErr-from}
use Rattle.service_core.specs.Acting.{table_of}
use Rattle.service_core.proofs.LogConditions.{call-time, done-ok, done-passes, number-left, planned-fit, planned-first, writing-can}
use Rattle.service_core.proofs.Standing.{alarms_left, write-acted}
use Rattle.service_core.proofs.writing.log_write.Goals as goal
use Rattle.plain_service.proofs.HistoryEvents.{second-bound}

pub plan_write-requires-clause-moment : goal.plan_write-requires-clause-moment
plan_write-requires-clause-moment c =
    let fits = c.ranges.now in simp to_z-of_z (call-time c.args.parts.now.log.table c.args.now c.requires)

pub plan_write-requires-clause-numbers : goal.plan_write-requires-clause-numbers
plan_write-requires-clause-numbers c = number-left c.args.parts.now.log.table c.args.now c.args.name.now c.requires

pub make_planned-requires-clause-can : goal.make_planned-requires-clause-can
make_planned-requires-clause-can c =
    let fits = c.ranges.now in
    let times = c.ranges.time in
    let plans = simp to_z-of_z at c.in_ok-plan.ensures.ok in
    plans.can

pub make_planned-requires-clause-events : goal.make_planned-requires-clause-events
make_planned-requires-clause-events c =
    let fits = c.ranges.now in
    let times = c.ranges.time in
    let plans = simp to_z-of_z at c.in_ok-plan.ensures.ok in
    planned-fit c.args.parts.now.log.table c.args.now (Stored c.args.name.now (record_at c.args.time c.args.header.now c.args.body.now c.args.now) (second_of c.args.now)) _ _ _ c.in_ok-plan.plan c.requires (second-bound c.args.now c.requires.moment) (writing-can (table_of c.args.parts.now) c.args.client c.args.flags c.args.now c.args.time c.args.name.now c.args.header.now c.args.body.now) plans

pub keep_after-requires : goal.keep_after-requires
keep_after-requires c =
    let fits = c.ranges.now in
    let times = c.ranges.time in
    let plans = simp to_z-of_z at c.in_ok-plan.ensures.ok in
    subst (λ (l : LogTable). IsAlarmFirst l.streams) (sym c.in_ok-acted.ensures.now)
    (planned-first c.args.parts.now.log.table c.args.now c.args.name.now (record_at c.args.time c.args.header.now c.args.body.now c.args.now) (second_of c.args.now) _ _ _ c.in_ok-plan.plan c.requires (second-bound c.args.now c.requires.moment) (writing-can (table_of c.args.parts.now) c.args.client c.args.flags c.args.now c.args.time c.args.name.now c.args.header.now c.args.body.now) plans)

pub returns-clause-ok : goal.returns-clause-ok
returns-clause-ok c =
    let fits = c.ranges.now in
    let times = c.ranges.time in
    let plans = simp to_z-of_z at c.in_ok-plan.ensures.ok in
    let acted = c.in_ok-acted.ensures in
    let later = c.make_planned.new.log.table in
    let alarms_are = c.keep_after.ensures ∙ ap (λ (s : Step). alarms_left s.filtered s.status later c.args.parts.now.alarms.kept) c.step-step.ensures in
    λ seq invocation. write-acted (table_of c.args.parts.now) c.args.client seq invocation c.args.flags c.args.now c.args.time c.args.name.now c.args.header.now c.args.body.now c.in_ok-plan.plan later c.keep_after.new.alarms.kept c.in_ok-acted.acted plans acted.now alarms_are acted.told acted.deeds

pub returns-in_err-acted-clause-memory : goal.returns-in_err-acted-clause-memory
returns-in_err-acted-clause-memory c =
    let fits = c.ranges.now in
    let times = c.ranges.time in
    let plans = simp to_z-of_z at c.in_ok-plan.ensures.ok in
    OnErr-from c.from_residual-in_err-acted.result (λ invocation. done-ok c.args.parts.now.log.table (Stored c.args.name.now (record_at c.args.time c.args.header.now c.args.body.now c.args.now) (second_of c.args.now)) _ _ _ c.in_ok-plan.plan plans c.in_err-acted.ensures.memory)

pub returns-in_err-acted-clause-passes : goal.returns-in_err-acted-clause-passes
returns-in_err-acted-clause-passes c =
    let fits = c.ranges.now in
    let times = c.ranges.time in
    let plans = simp to_z-of_z at c.in_ok-plan.ensures.ok in
    OnErr-from c.from_residual-in_err-acted.result (done-passes c.args.parts.now.log.table (Stored c.args.name.now (record_at c.args.time c.args.header.now c.args.body.now c.args.now) (second_of c.args.now)) _ _ _ c.in_ok-plan.plan plans c.in_err-acted.ensures.memory)
