-- What calls of the log ask, by what is kept.
use Rattle.std.proofs.Common.{◌≡◌, ◌≢◌, ℕ, ◌+◌, ◌≤◌, Bool, true, false, cond, List, [], refl, sym, ◌∙◌, subst}
use Rattle.std.specs.Prelude.{ℤ, Option, Some, None, is_some}
use Rattle.std.specs.List.{AllByRecursion}
use Rattle.std.specs.Option.{option_map_or}
use Rattle.ais_values.specs.declared.status.Status.{Status}
use Rattle.ais_values.specs.declared.status.Status.TheVariants as status
use Rattle.stream_config.specs.declared.attrs.StreamAttrs.{StreamAttrs}
use Rattle.stream_config.specs.declared.attrs.StreamName.{StreamName}
use Rattle.stream_layout.specs.Carrying.{IsFitEvent}
use Rattle.stream_config.specs.declared.mark.Mark.{Mark}
use Rattle.record_print.specs.declared.record.Header.{Header}
use Rattle.record_print.specs.declared.record.LogRecord.{LogRecord}
use Rattle.calls.specs.declared.call.Call.TheVariants.{LogWrite}
use Rattle.log_history.specs.Changes.{LogChange, Opened, Stored}
use Rattle.log_history.specs.KeptAnswers.{is_filled, kept_mark, kept_stream, making_in, write_status}
use Rattle.log_history.specs.Marks.{is_filtered}
use Rattle.log_history.specs.Stamps.{second_in}
use Rattle.log_history.specs.Table.{LogTable, OpenStream, events_of, table_after}
use Rattle.log_history.specs.Times.{second_of, record_at}
use Rattle.log_service.specs.State.{IsCallTime, HasNumberLeft}
use Rattle.log_service.specs.Planning.{Plans, planned}
use Rattle.log_service.specs.declared.plan.LogPlan.{LogPlan}
use Rattle.service_fit.specs.Fit.{IsAlarmFirst, IsFitLog}
use Rattle.service_fit.specs.Conditions.{CanCallLog}
use Rattle.service_fit.proofs.LogFit.{inside, alarm-first}
use Rattle.service_fit.proofs.LogSteps.{CanChange, fit-log}
use Rattle.service_fit.proofs.OkCalls.{CanOption, call-can}
use Rattle.service_table.specs.Tables.{ServiceTable}
use Rattle.service_fit.proofs.CallLaws.{last-bound, numbers-left, change-fit, fit-by}

pub call-time : (kept : LogTable) (now : ℤ) → CanCallLog kept now → IsCallTime kept now
call-time kept now can = record { last = last-bound kept now can; from = can.moment.from; to = can.moment.to }

pub number-left : (kept : LogTable) (now : ℤ) (stream : StreamName) → CanCallLog kept now → HasNumberLeft kept stream
number-left kept now stream can = numbers-left kept now stream can

-- what holds where a call is ok, and where it is refused
pub by-answer : {X : Type 0} (answered : Status) → (answered ≡ status.Ok → X) → (answered ≢ status.Ok → X) → X
by-answer status.Ok ok refused = ok refl
by-answer _ ok refused = refused (λ e. cc)

-- where the stream lives, an open does nothing to streams
pub joins-nothing : (kept : LogTable) (client : ℕ) (name : StreamName) (create : Option StreamAttrs) (second number : ℕ) → is_some (kept_stream kept.streams name) ≡ true → events_of (Opened client name (making_in kept.streams name create) second number) kept ≡ []
joins-nothing kept client name create second number lives = by (kept_stream kept.streams name) lives where
  by : (found : Option OpenStream) → is_some found ≡ true → events_of (Opened client name (option_map_or (λ (_ : OpenStream). None) found create) second number) kept ≡ []
  by (Some stream) lives = refl
  by None lives = cc

-- where something is done to streams the call is ok, and its record is not filtered
pub done-ok : (kept : LogTable) (change : LogChange) (answered : Status) (filtered : Bool) (mark : Option Mark) (plan : LogPlan) → Plans kept answered filtered mark change plan → plan.step.events ≢ [] → answered ≡ status.Ok
done-ok kept change answered filtered mark plan plans some =
    by-answer plan.step.status (λ e. sym plans.answer ∙ e) (λ n. absurd (some (plans.refused n).done))

pub done-passes : (kept : LogTable) (change : LogChange) (answered : Status) (filtered : Bool) (mark : Option Mark) (plan : LogPlan) → Plans kept answered filtered mark change plan → plan.step.events ≢ [] → filtered ≡ false
done-passes kept change answered false mark plan plans some = refl
done-passes kept change answered true mark plan plans some =
    absurd (some (by-answer plan.step.status (λ e. (plans.ok e).done) (λ n. (plans.refused n).done)))

-- what was planned can happen
pub planned-fit : (kept : LogTable) (now : ℤ) (change : LogChange) (answered : Status) (filtered : Bool) (mark : Option Mark) (plan : LogPlan) → CanCallLog kept now → second_in change ≤ 9000000000 → (answered ≡ status.Ok → filtered ≡ false → CanChange kept change) → Plans kept answered filtered mark change plan → AllByRecursion IsFitEvent plan.step.events
planned-fit kept now change answered false mark plan can early may plans =
    fit-by plan.step.status change kept plan.step.events (λ e. (plans.ok e).done) (λ n. (plans.refused n).done) (λ e. change-fit kept now change can early (may (sym plans.answer ∙ e) refl))
planned-fit kept now change answered true mark plan can early may plans =
    let none : plan.step.events ≡ [] = by-answer plan.step.status (λ e. (plans.ok e).done) (λ n. (plans.refused n).done) in
    subst (AllByRecursion IsFitEvent) (sym none) tt

-- a record that is written, and not filtered, fits its stream
pub writing-can : (kept : ServiceTable) (client flags : ℕ) (now time : ℤ) (stream : StreamName) (header : Header) (body : List ℕ) → write_status kept.log client stream flags time header body now ≡ status.Ok → is_filtered (kept_mark kept.log.streams stream).mask header ≡ false → is_filled kept.log.streams stream (record_at time header body now) ≡ false
writing-can kept client flags now time stream header body ok passes =
    subst (λ filtered. CanOption kept.log (cond filtered None (Some (Stored stream (record_at time header body now) (second_of now))))) passes
    (call-can kept client now (LogWrite stream 0 flags time header body) ok)

-- the alarm stream stands first after a record was stored, or was not

first-after : (number : ℕ) (kept later : LogTable) (stream : StreamName) (rec : LogRecord) (second : ℕ) (answered : Status) → IsFitLog number kept → second ≤ 9000000000 → (answered ≡ status.Ok → is_filled kept.streams stream rec ≡ false) → (answered ≡ status.Ok → later ≡ table_after (Stored stream rec second) kept) → (answered ≢ status.Ok → later ≡ kept) → IsAlarmFirst later.streams
first-after number kept later stream rec second status.Ok fit early room made left =
    let change = Stored stream rec second in
    subst (λ (l : LogTable). IsAlarmFirst l.streams) (sym (made refl))
    (alarm-first (number + 1) (table_after change kept) (fit-log number kept (inside number kept fit) change early (room refl) tt tt))
first-after number kept later stream rec second _ fit early room made left =
    let same : later ≡ kept = left (λ e. cc) in
    subst (λ (l : LogTable). IsAlarmFirst l.streams) (sym same) (alarm-first number kept (inside number kept fit))

pub planned-first : (kept : LogTable) (now : ℤ) (stream : StreamName) (rec : LogRecord) (second : ℕ) (answered : Status) (filtered : Bool) (mark : Option Mark) (plan : LogPlan) → CanCallLog kept now → second ≤ 9000000000 → (answered ≡ status.Ok → filtered ≡ false → is_filled kept.streams stream rec ≡ false) → Plans kept answered filtered mark (Stored stream rec second) plan → IsAlarmFirst (planned plan kept).streams
planned-first kept now stream rec second answered false mark plan can early room plans =
    first-after can.number kept (planned plan kept) stream rec second plan.step.status can.fit early (λ e. room (sym plans.answer ∙ e) refl) (λ e. (plans.ok e).now) (λ n. (plans.refused n).now)
planned-first kept now stream rec second answered true mark plan can early room plans =
    let same : planned plan kept ≡ kept = by-answer plan.step.status (λ e. (plans.ok e).now) (λ n. (plans.refused n).now) in
    subst (λ (l : LogTable). IsAlarmFirst l.streams) (sym same) (alarm-first can.number kept (inside can.number kept can.fit))

-- the alarm stream stands first
pub first-now : (kept : LogTable) (now : ℤ) → CanCallLog kept now → IsAlarmFirst kept.streams
first-now kept now can = alarm-first can.number kept (inside can.number kept can.fit)
