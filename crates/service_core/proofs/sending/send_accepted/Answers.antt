use Rattle.std.proofs.Common.{◌≡◌, false, ap, ◌∙◌, arith}
use Rattle.std.specs.Prelude.{None}
use Rattle.std.proofs.lemmas.Int.{to_z-of_z}
use Rattle.ais_values.specs.declared.status.Status.TheVariants as status
use Rattle.log_history.specs.Changes.{Stored}
use Rattle.log_history.specs.KeptAnswers.{is_filled, store_status}
use Rattle.log_history.specs.Table.{table_after, events_of}
use Rattle.log_history.specs.Times.{second_of}
use Rattle.log_service.specs.State.{stream_of_kind}
use Rattle.plain_service.specs.Alarms.{stream_for}
use Rattle.service_fit.proofs.AlarmsFit.{can-add}
use Rattle.service_fit.proofs.LogFit.{inside}
use Rattle.service_core.specs.Acting.{table_of}
use Rattle.service_core.specs.Sending.{sent_with, stored_of}
use Rattle.service_core.proofs.LogConditions.{number-left, planned-fit, planned-first, first-now}
use Rattle.service_core.proofs.SendActs.{room-left, done-sent}
use Rattle.service_core.proofs.sending.send_accepted.Goals as goal
use Rattle.plain_service.proofs.HistoryEvents.{second-bound}

pub plan_store-planned-requires-clause-numbers : goal.plan_store-planned-requires-clause-numbers
plan_store-planned-requires-clause-numbers c = number-left c.args.parts.now.log.table c.args.now _ c.requires.log

pub send_stored-requires-clause-can : goal.send_stored-requires-clause-can
send_stored-requires-clause-can c =
    let fits = c.ranges.now in
    let plans = simp to_z-of_z at c.in_ok-plan.ensures.ok in
    plans.can

pub send_stored-requires-clause-events : goal.send_stored-requires-clause-events
send_stored-requires-clause-events c =
    let fits = c.ranges.now in
    let log = c.args.parts.now.log.table in
    let plans = simp to_z-of_z at c.in_ok-plan.ensures.ok in
    planned-fit log c.args.now (Stored (stream_of_kind c.kind_of_sent.result) c.in_ok-rec.rec (second_of c.args.now)) _ false None c.in_ok-plan.plan c.requires.log (second-bound c.args.now c.requires.log.moment) (λ e passes. room-left (is_filled log.streams _ _) e) plans

pub send_stored-requires-clause-first : goal.send_stored-requires-clause-first
send_stored-requires-clause-first c =
    first-now c.args.parts.now.log.table c.args.now c.requires.log

pub send_stored-requires-clause-stands : goal.send_stored-requires-clause-stands
send_stored-requires-clause-stands c =
    let fits = c.ranges.now in
    let log = c.args.parts.now.log.table in
    let plans = simp to_z-of_z at c.in_ok-plan.ensures.ok in
    planned-first log c.args.now (stream_of_kind c.kind_of_sent.result) c.in_ok-rec.rec (second_of c.args.now) _ false None c.in_ok-plan.plan c.requires.log (second-bound c.args.now c.requires.log.moment) (λ e passes. room-left (is_filled log.streams _ _) e) plans

pub send_stored-requires-clause-add : goal.send_stored-requires-clause-add
send_stored-requires-clause-add c =
    let parts = c.args.parts.now in
    let few = c.requires.log.few in
    let id = c.requires.id in
    λ alarm. can-add parts.log.table.last c.requires.log.number parts.ntf.table.last_id parts.log.table.streams c.args.sent.now parts.alarms.kept (omega (arith, few)) alarm (omega (arith, id)) (inside c.requires.log.number parts.log.table c.requires.log.fit).each c.requires.alarms

pub returns-clause-ok : goal.returns-clause-ok
returns-clause-ok c =
    let fits = c.ranges.now in
    let parts = c.args.parts.now in
    let log = parts.log.table in
    let stream = c.kind_of_sent.ensures.stream in
    let plans = simp to_z-of_z at c.in_ok-plan.ensures.ok in
    let written = simp to_z-of_z at c.in_ok-rec.ensures in
    let acted = c.in_ok-acted.ensures in
    let plan = c.in_ok-plan.plan in
    let rec = c.in_ok-rec.rec in
    let answered = plans.answer ∙ ap (λ s. store_status log s rec) stream ∙ ap (store_status log (stream_for c.args.sent.now.body)) written in
    let room : plan.step.status ≡ status.Ok = answered ∙ c.requires.room in
    let second = second_of c.args.now in
    let made = (plans.ok room).now ∙ ap (λ s. table_after (Stored s rec second) log) stream ∙ ap (λ r. table_after (stored_of c.args.now r c.args.sent.now) log) written in
    let happened = (plans.ok room).done ∙ ap (λ s. events_of (Stored s rec second) log) stream ∙ ap (λ r. events_of (stored_of c.args.now r c.args.sent.now) log) written in
    done-sent (table_of parts) _ c.args.now c.args.sent.now plan.step.status plan.step.events c.in_ok-acted.acted answered room (acted.ok ∙ ap (λ l. sent_with (table_of parts) l c.args.sent.now) made) acted.reply acted.kept happened acted.deeds
