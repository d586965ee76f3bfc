use Rattle.std.proofs.Common.{◌+◌, false, refl}
use Rattle.std.specs.Prelude.{Some}
use Rattle.stream_config.specs.declared.mark.Mark.{Mark}
use Rattle.calls.specs.declared.call.Call.TheVariants.{LogFilter}
use Rattle.log_history.specs.Changes.{Filtered}
use Rattle.service_fit.proofs.CallLaws.{fit-by}
use Rattle.ais_values.proofs.Basics.{OnErr-from}
use Rattle.service_core.specs.Acting.{table_of}
use Rattle.service_core.proofs.ActLaws.{log-acted}
use Rattle.service_core.proofs.LogConditions.{done-ok}
use Rattle.service_core.proofs.logging.log_filter.Goals as goal

pub make_planned-requires-clause-can : goal.make_planned-requires-clause-can
make_planned-requires-clause-can c =
    let plans = c.in_ok-plan.ensures.ok in
    plans.can

pub make_planned-requires-clause-events : goal.make_planned-requires-clause-events
make_planned-requires-clause-events c =
    let plans = c.in_ok-plan.ensures.ok in
    fit-by c.in_ok-plan.plan.step.status (Filtered c.args.client c.args.name.now c.args.mask (c.args.parts.now.number + 1)) c.args.parts.now.log.table c.in_ok-plan.plan.step.events (λ e. (plans.ok e).done) (λ n. (plans.refused n).done) (λ e. tt)

pub returns-clause-ok : goal.returns-clause-ok
returns-clause-ok c =
    let acted = c.in_ok-acted.ensures in
    let number = c.args.parts.now.number + 1 in
    let mark : Mark = record { since = number; mask = c.args.mask } in
    λ seq now. log-acted (table_of c.args.parts.now) c.args.client seq now (LogFilter c.args.name.now c.args.mask) (Some mark) (Filtered c.args.client c.args.name.now c.args.mask number) c.in_ok-plan.plan c.make_planned.new.log.table c.in_ok-acted.acted tt refl refl c.in_ok-plan.ensures.ok acted.now acted.told acted.deeds

pub returns-in_err-acted-clause-memory : goal.returns-in_err-acted-clause-memory
returns-in_err-acted-clause-memory c =
    let number = c.args.parts.now.number + 1 in
    let mark : Mark = record { since = number; mask = c.args.mask } in
    OnErr-from c.from_residual-in_err-acted.result (λ now. done-ok c.args.parts.now.log.table (Filtered c.args.client c.args.name.now c.args.mask number) _ false (Some mark) c.in_ok-plan.plan c.in_ok-plan.ensures.ok c.in_err-acted.ensures.memory)
