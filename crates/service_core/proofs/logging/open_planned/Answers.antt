use Rattle.std.proofs.Common.{◌+◌, false, refl, ap, sym, subst, ◌∙◌}
use Rattle.log_history.specs.Table.{LogTable}
use Rattle.log_service.specs.Opening.{mark_in}
use Rattle.log_service.specs.Planning.{CanCommit, planned}
use Rattle.std.specs.Prelude.{Some}
use Rattle.std.proofs.lemmas.Int.{to_z-of_z}
use Rattle.std.specs.Option.{option_copied}
use Rattle.calls.specs.declared.call.Call.TheVariants.{LogOpen}
use Rattle.log_history.specs.Changes.{Opened}
use Rattle.log_history.specs.KeptAnswers.{making_in}
use Rattle.log_history.specs.Times.{second_of}
use Rattle.service_fit.proofs.OkCalls.{opening-can}
use Rattle.ais_values.proofs.Basics.{OnErr-from}
use Rattle.service_core.specs.Acting.{table_of}
use Rattle.service_core.proofs.ActLaws.{log-acted}
use Rattle.service_core.proofs.LogConditions.{call-time, done-ok, planned-fit}
use Rattle.service_core.proofs.logging.open_planned.Goals as goal
use Rattle.plain_service.proofs.HistoryEvents.{second-bound}

pub plan_open_stream-requires : goal.plan_open_stream-requires
plan_open_stream-requires c = let fits = c.ranges.now in simp to_z-of_z (call-time c.args.parts.now.log.table c.args.now c.requires.log)

pub make_planned-requires-clause-can : goal.make_planned-requires-clause-can
make_planned-requires-clause-can c =
    let fits = c.ranges.now in
    let plans = simp to_z-of_z at c.in_ok-plan.ensures.ok in
    subst (λ (t : LogTable). CanCommit t c.in_ok-plan.plan) (sym c.in_ok-plan.ensures.table) plans.can

pub make_planned-requires-clause-events : goal.make_planned-requires-clause-events
make_planned-requires-clause-events c =
    let fits = c.ranges.now in
    let plans = simp to_z-of_z at c.in_ok-plan.ensures.ok in
    planned-fit c.args.parts.now.log.table c.args.now (Opened c.args.client c.args.name.now (making_in c.args.parts.now.log.table.streams c.args.name.now (option_copied c.args.create)) (second_of c.args.now) (c.args.parts.now.number + 1)) _ false (Some (mark_in c.args.parts.now.log.table.streams c.args.name.now (option_copied c.args.create) (c.args.parts.now.number + 1))) c.in_ok-plan.plan c.requires.log (second-bound c.args.now c.requires.log.moment) (λ e passes. opening-can c.args.parts.now.log.table c.args.client (second_of c.args.now) (c.args.parts.now.number + 1) c.args.name.now (option_copied c.args.create) e) plans

pub returns-clause-ok : goal.returns-clause-ok
returns-clause-ok c =
    let fits = c.ranges.now in
    let plans = simp to_z-of_z at c.in_ok-plan.ensures.ok in
    let acted = c.in_ok-acted.ensures in
    λ seq. log-acted (table_of c.args.parts.now) c.args.client seq c.args.now (LogOpen c.args.name.now (option_copied c.args.create)) (Some (mark_in c.args.parts.now.log.table.streams c.args.name.now (option_copied c.args.create) (c.args.parts.now.number + 1))) (Opened c.args.client c.args.name.now (making_in c.args.parts.now.log.table.streams c.args.name.now (option_copied c.args.create)) (second_of c.args.now) (c.args.parts.now.number + 1)) c.in_ok-plan.plan c.make_planned.new.log.table c.in_ok-acted.acted tt refl refl plans (acted.now ∙ ap (planned c.in_ok-plan.plan) c.in_ok-plan.ensures.table) acted.told acted.deeds

pub returns-in_err-acted-clause-memory : goal.returns-in_err-acted-clause-memory
returns-in_err-acted-clause-memory c =
    let fits = c.ranges.now in
    let plans = simp to_z-of_z at c.in_ok-plan.ensures.ok in
    let log = c.args.parts.now.log.table in
    let create = option_copied c.args.create in
    let number = c.args.parts.now.number + 1 in
    OnErr-from c.from_residual-in_err-acted.result (done-ok log (Opened c.args.client c.args.name.now (making_in log.streams c.args.name.now create) (second_of c.args.now) number) _ false (Some (mark_in log.streams c.args.name.now create number)) c.in_ok-plan.plan plans c.in_err-acted.ensures.memory)
