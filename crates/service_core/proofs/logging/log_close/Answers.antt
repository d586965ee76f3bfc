use Rattle.std.proofs.Common.{false, refl}
use Rattle.std.specs.Prelude.{None}
use Rattle.std.proofs.lemmas.Int.{to_z-of_z}
use Rattle.calls.specs.declared.call.Call.TheVariants.{LogClose}
use Rattle.log_history.specs.Changes.{Closed}
use Rattle.log_history.specs.Times.{second_of}
use Rattle.ais_values.proofs.Basics.{OnErr-from}
use Rattle.service_core.specs.Acting.{table_of}
use Rattle.service_core.proofs.ActLaws.{log-acted}
use Rattle.service_core.proofs.LogConditions.{call-time, done-ok, planned-fit}
use Rattle.service_core.proofs.logging.log_close.Goals as goal
use Rattle.plain_service.proofs.HistoryEvents.{second-bound}

pub plan_close-requires : goal.plan_close-requires
plan_close-requires c = let fits = c.ranges.now in simp to_z-of_z (call-time c.args.parts.now.log.table c.args.now c.requires)

pub make_planned-requires-clause-can : goal.make_planned-requires-clause-can
make_planned-requires-clause-can c =
    let fits = c.ranges.now in
    let plans = simp to_z-of_z at c.in_ok-plan.ensures.ok in
    plans.can

pub make_planned-requires-clause-events : goal.make_planned-requires-clause-events
make_planned-requires-clause-events c =
    let fits = c.ranges.now in
    let plans = simp to_z-of_z at c.in_ok-plan.ensures.ok in
    planned-fit c.args.parts.now.log.table c.args.now (Closed c.args.client c.args.name.now (second_of c.args.now)) _ false None c.in_ok-plan.plan c.requires (second-bound c.args.now c.requires.moment) (λ e passes. tt) plans

pub returns-clause-ok : goal.returns-clause-ok
returns-clause-ok c =
    let fits = c.ranges.now in
    let plans = simp to_z-of_z at c.in_ok-plan.ensures.ok in
    let acted = c.in_ok-acted.ensures in
    λ seq. log-acted (table_of c.args.parts.now) c.args.client seq c.args.now (LogClose c.args.name.now) None (Closed c.args.client c.args.name.now (second_of c.args.now)) c.in_ok-plan.plan c.make_planned.new.log.table c.in_ok-acted.acted tt refl refl plans acted.now acted.told acted.deeds

pub returns-in_err-acted-clause-memory : goal.returns-in_err-acted-clause-memory
returns-in_err-acted-clause-memory c =
    let fits = c.ranges.now in
    let plans = simp to_z-of_z at c.in_ok-plan.ensures.ok in
    OnErr-from c.from_residual-in_err-acted.result (done-ok c.args.parts.now.log.table (Closed c.args.client c.args.name.now (second_of c.args.now)) _ false None c.in_ok-plan.plan plans c.in_err-acted.ensures.memory)
