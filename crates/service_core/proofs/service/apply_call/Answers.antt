use Rattle.std.proofs.Common.{◌<◌, ap, sym, subst, ◌∙◌, w64, arith}
use Rattle.std.specs.Prelude.{Some}
use Rattle.std.proofs.lemmas.Int.{to_z-of_z}
use Rattle.calls.specs.declared.reply.Reply.{Reply}
use Rattle.log_history.specs.Deeds.{deeds_of_all}
use Rattle.service_fit.specs.Conditions.{CanCall}
use Rattle.plain_service.specs.Fitness.{IsFit}
use Rattle.client_set.specs.Rising.{IsRising}
use Rattle.service_table.specs.Tables.{saved_table, window_before}
use Rattle.service_table.specs.Steps.{window_for, answered}
use Rattle.service_fit.proofs.WindowsFit.{next-few}
use Rattle.service_fit.proofs.CallLaws.{call-can-come}
use Rattle.service_fit.proofs.FitSteps.{fit-call}
use Rattle.service_fit.proofs.ValueFit.{table-of}
use Rattle.service_core.specs.Acting.{table_of, HasActed}
use Rattle.service_core.specs.Inside.{kept_table}
use Rattle.service_core.proofs.AppliedLaws.{acted-now, same-reply, same-events}
use Rattle.service_core.proofs.CapacityLaws.{changed-capacity}
use Rattle.service_core.proofs.ValueLaws.{windows-rise}
use Rattle.service_core.proofs.service.apply_call.Goals as goal

pub room_for-requires : goal.room_for-requires
room_for-requires c = windows-rise (kept_table c.args.kept.now) c.requires.fit

pub act-requires-clause-can : goal.act-requires-clause-can
act-requires-clause-can c =
    let parts = c.args.kept.now.parts in
    let can = call-can-come (kept_table c.args.kept.now) c.args.client c.args.seq c.args.now (table-of (kept_table c.args.kept.now) c.requires.queues c.requires.fit) c.requires.few c.requires.moment c.requires.next in
    let can_act : CanCall (table_of parts) c.args.client c.args.seq c.args.now = record { log = can.log; sending = can.sending; key = can.key; alarms = can.alarms } in
    subst (λ moment. CanCall (table_of parts) c.args.client c.args.seq moment) (sym (to_z-of_z w64 c.args.now c.ranges.now)) can_act

pub answer_call-requires-clause-order : goal.answer_call-requires-clause-order
answer_call-requires-clause-order c =
    subst (IsRising window_before) (sym c.room_for.ensures.callers) (windows-rise (kept_table c.args.kept.now) c.requires.fit)

pub answer_call-requires-clause-next : goal.answer_call-requires-clause-next
answer_call-requires-clause-next c =
    let kept = c.args.kept.now in
    let few = c.requires.few in
    let next = next-few c.args.client kept.parts.number kept.callers.items (table-of (kept_table kept) c.requires.queues c.requires.fit).windows.each in
    subst (λ callers. (window_for c.args.client callers).next < 4294967295) (sym c.room_for.ensures.callers) (omega (arith, few, next))

pub returns-in-Ok-clause-ok : goal.returns-in-Ok-clause-ok
returns-in-Ok-clause-ok c =
    let kept = c.args.kept.now in
    let acted = c.in-Ok.acted in
    let has : HasActed (table_of kept.parts) c.args.client c.args.seq c.args.now c.args.call.now (table_of c.act.new.parts) acted =
    subst (λ moment. HasActed (table_of kept.parts) c.args.client c.args.seq moment c.args.call.now (table_of c.act.new.parts) acted) (to_z-of_z w64 c.args.now c.ranges.now) c.in-Ok.ensures.ok in
    let given = c.answer_call.ensures ∙ ap (answered c.args.client acted.told.kept) c.room_for.ensures.callers in
    record {
      now = acted-now kept.parts c.act.new.parts kept.callers.items _ c.args.client c.args.seq c.args.now c.args.call.now acted has given;
      reply = ap (λ (r : Reply). Some r) (has.told.reply ∙ sym (same-reply kept.callers.items (table_of kept.parts) c.args.client c.args.now c.args.call.now));
      deeds = has.deeds ∙ ap deeds_of_all (sym (same-events kept.callers.items (table_of kept.parts) c.args.client c.args.now c.args.call.now));
    }

pub returns-in-Ok-clause-capacity : goal.returns-in-Ok-clause-capacity
returns-in-Ok-clause-capacity c =
    let parts = c.args.kept.now.parts in
    changed-capacity (table_of parts) (table_of c.act.new.parts) c.args.client c.args.seq _ c.args.call.now c.in-Ok.ensures.ok.now

pub returns-in-Ok-clause-fit : goal.returns-in-Ok-clause-fit
returns-in-Ok-clause-fit c =
    let kept = c.args.kept.now in
    let acted = c.in-Ok.acted in
    let has : HasActed (table_of kept.parts) c.args.client c.args.seq c.args.now c.args.call.now (table_of c.act.new.parts) acted =
    subst (λ moment. HasActed (table_of kept.parts) c.args.client c.args.seq moment c.args.call.now (table_of c.act.new.parts) acted) (to_z-of_z w64 c.args.now c.ranges.now) c.in-Ok.ensures.ok in
    let given = c.answer_call.ensures ∙ ap (answered c.args.client acted.told.kept) c.room_for.ensures.callers in
    let now = acted-now kept.parts c.act.new.parts kept.callers.items c.answer_call.new.callers.items c.args.client c.args.seq c.args.now c.args.call.now acted has given in
    subst (λ table. IsFit (saved_table table)) (sym now)
    (fit-call (kept_table kept) c.args.client c.args.seq c.args.now c.args.call.now
    (record { table = record { queues = c.requires.queues; fit = c.requires.fit; few = c.requires.few }; caller = c.requires.caller; moment = c.requires.moment; next = c.requires.next }))
