-- What a call came to, by what each part answered.
use Rattle.std.proofs.Common.{◌≡◌, ◌≢◌, ℕ, Bool, false, List, [], ◌∷◌, ◌++◌, refl, ap, sym, ◌∙◌, append_assoc}
use Rattle.std.specs.Prelude.{Option, Some, ℤ}
use Rattle.std.specs.Option.{option_map_or}
use Rattle.std.proofs.lemmas.List.{append-nil}
use Rattle.ais_values.specs.declared.status.Status.{Status}
use Rattle.ais_values.specs.declared.status.Status.TheVariants as status
use Rattle.stream_config.specs.declared.event.StreamEvent.{StreamEvent}
use Rattle.stream_config.specs.declared.mark.Mark.{Mark}
use Rattle.stream_layout.specs.Deeds.{deeds_of}
use Rattle.calls.specs.declared.call.Call.{Call}
use Rattle.calls.specs.declared.reply.Reply.{Reply}
use Rattle.log_history.specs.Changes.{LogChange}
use Rattle.log_history.specs.Deeds.{deeds_of_all}
use Rattle.log_history.specs.Table.{LogTable, events_of}
use Rattle.log_service.specs.Planning.{Plans, planned}
use Rattle.log_service.specs.State.{Made, Left, Tells}
use Rattle.log_service.specs.declared.step.Step.{Step}
use Rattle.log_service.specs.declared.plan.LogPlan.{LogPlan}
use Rattle.plain_service.specs.Changing.{if_ok}
use Rattle.plain_service.specs.Replies.{reply_by}
use Rattle.service_table.specs.Tables.{ServiceTable}
use Rattle.service_table.specs.Answering.{status_in, told_in}
use Rattle.service_table.specs.Steps.{log_change_in, logged, changed}
use Rattle.service_fit.specs.Conditions.{with_log}
use Rattle.service_fit.proofs.CallLaws.{logged-by, events-by, IsLogOnly, log-only}
use Rattle.service_parts.specs.Telling.{IsTold}
use Rattle.service_core.specs.declared.parts.Acted.{Acted}
use Rattle.service_core.specs.Acting.{marked_by, HasActed}

-- the reply of a status, by what is told where it is ok
told-same : (answered : Status) (one other : Reply) → (answered ≡ status.Ok → one ≡ other) → reply_by answered one ≡ reply_by answered other
told-same status.Ok one other same = same refl
told-same _ one other same = refl

-- what a step tells is what is said of it
told-stepped : (answered : Status) (filtered : Bool) (mark : Option Mark) (step : Step) → step.status ≡ answered → Tells filtered mark step → reply_by step.status (marked_by step.filtered step.mark) ≡ reply_by answered (marked_by filtered mark)
told-stepped answered filtered mark step same tells =
    let told = λ (e : step.status ≡ status.Ok). ap (λ f. marked_by f step.mark) (tells.ok e).0 ∙ ap (marked_by filtered) (tells.ok e).1 in
    told-same step.status (marked_by step.filtered step.mark) (marked_by filtered mark) told
    ∙ ap (λ s. reply_by s (marked_by filtered mark)) same

pub told-planned : (kept : LogTable) (answered : Status) (filtered : Bool) (mark : Option Mark) (change : LogChange) (plan : LogPlan) → Plans kept answered filtered mark change plan → reply_by plan.step.status (marked_by plan.step.filtered plan.step.mark) ≡ reply_by answered (marked_by filtered mark)
told-planned kept answered filtered mark change plan plans = told-stepped answered filtered mark plan.step plans.answer plans.told

-- **a call of the log that changes nothing else, by its step**
pub log-stepped : (kept : ServiceTable) (client seq : ℕ) (moment : ℤ) (call : Call) (mark : Option Mark) (change : LogChange) (step : Step) (later : LogTable) (acted : Acted) → IsLogOnly call → log_change_in kept client moment call ≡ Some change → told_in kept client call ≡ marked_by false mark → step.status ≡ status_in kept client moment call → Tells false mark step → (step.status ≡ status.Ok → Made change kept.log later step.events) → (step.status ≢ status.Ok → Left kept.log later step.events) → IsTold step.status (marked_by step.filtered step.mark) acted.told → acted.deeds ≡ deeds_of_all step.events → HasActed kept client seq moment call (with_log kept later) acted
log-stepped kept client seq moment call mark change step later acted alone is tells same says made left told has =
    let answered = step.status in
    let log_is : later ≡ logged (if_ok answered (log_change_in kept client moment call)) kept.log =
    logged-by answered change kept.log later (λ e. (made e).now) (λ n. (left n).now) ∙ ap (λ c. logged (if_ok answered c) kept.log) (sym is) in
    let events_are : step.events ≡ option_map_or (λ c. events_of c kept.log) (if_ok answered (log_change_in kept client moment call)) [] =
    events-by answered change kept.log step.events (λ e. (made e).done) (λ n. (left n).done) ∙ ap (λ c. option_map_or (λ x. events_of x kept.log) (if_ok answered c) []) (sym is) in
    let plain = told-stepped (status_in kept client moment call) false mark step same says ∙ ap (reply_by (status_in kept client moment call)) (sym tells) in
    record {
      now = ap (with_log kept) log_is ∙ log-only kept client seq moment call answered alone ∙ ap (changed kept client seq moment call) same;
      told = record { reply = told.reply ∙ plain; kept = told.kept ∙ plain };
      deeds = has ∙ ap deeds_of_all events_are ∙ ap (λ s. deeds_of_all (option_map_or (λ x. events_of x kept.log) (if_ok s (log_change_in kept client moment call)) [])) same;
    }

-- **a planned one**
pub log-acted : (kept : ServiceTable) (client seq : ℕ) (moment : ℤ) (call : Call) (mark : Option Mark) (change : LogChange) (plan : LogPlan) (later : LogTable) (acted : Acted) → IsLogOnly call → log_change_in kept client moment call ≡ Some change → told_in kept client call ≡ marked_by false mark → Plans kept.log (status_in kept client moment call) false mark change plan → later ≡ planned plan kept.log → IsTold plan.step.status (marked_by plan.step.filtered plan.step.mark) acted.told → acted.deeds ≡ deeds_of_all plan.step.events → HasActed kept client seq moment call (with_log kept later) acted
log-acted kept client seq moment call mark change plan later acted alone is tells plans now told has =
    log-stepped kept client seq moment call mark change plan.step later acted alone is tells plans.answer plans.told
    (λ e. record { now = now ∙ (plans.ok e).now; done = (plans.ok e).done })
    (λ n. record { now = now ∙ (plans.refused n).now; done = (plans.refused n).done }) told has

-- the deeds of more and more events
pub deeds-more : (events : List StreamEvent) (event : StreamEvent) → deeds_of_all (events ++ event ∷ []) ≡ deeds_of_all events ++ deeds_of event
deeds-more [] event = append-nil (deeds_of event)
deeds-more (first ∷ events) event =
    ap (λ rest. deeds_of first ++ rest) (deeds-more events event) ∙ sym (append_assoc (deeds_of first) (deeds_of_all events) (deeds_of event))
