-- The alarm stream tells which alarms stand; and what a write came to.
use Rattle.std.proofs.Common.{◌≡◌, ◌≢◌, ℕ, Bool, true, false, cond, List, [], ◌∷◌, refl, ap, sym, ◌∙◌, subst}
use Rattle.std.specs.Prelude.{ℤ, Option, Some, None, option_map, slice_get}
use Rattle.std.specs.Option.{option_map_or}
use Rattle.ais_values.specs.declared.status.Status.{Status}
use Rattle.ais_values.specs.declared.status.Status.TheVariants as status
use Rattle.stream_config.specs.declared.attrs.StreamName.{StreamName}
use Rattle.stream_config.specs.declared.attrs.StreamName.TheVariants as name
use Rattle.stream_config.specs.declared.state.StreamState.{StreamState}
use Rattle.stream_config.specs.Attributes.{IsSized}
use Rattle.stream_config.specs.Equality.{same_name}
use Rattle.stream_config.specs.Fit.{first_standing}
use Rattle.stream_config.specs.declared.event.StreamEvent.{StreamEvent}
use Rattle.record_print.specs.declared.record.Header.{Header}
use Rattle.record_print.specs.declared.record.LogRecord.{LogRecord}
use Rattle.alarm_view.specs.declared.alarm.KeptAlarm.{KeptAlarm}
use Rattle.alarm_view.specs.Alarms.{from_record}
use Rattle.calls.specs.declared.call.Call.TheVariants.{LogWrite}
use Rattle.log_history.specs.Changes.{LogChange, Stored}
use Rattle.log_history.specs.Deeds.{deeds_of_all}
use Rattle.log_history.specs.Times.{second_of, record_at}
use Rattle.log_history.specs.Table.{OpenStream, LogTable, events_of}
use Rattle.log_history.specs.KeptAnswers.{kept_stream, kept_mark}
use Rattle.log_history.specs.Marks.{is_filtered}
use Rattle.log_service.specs.State.{Came, Left}
use Rattle.log_service.specs.Planning.{Plans, planned}
use Rattle.log_service.specs.declared.plan.LogPlan.{LogPlan}
use Rattle.plain_service.specs.Changing.{if_ok}
use Rattle.service_table.specs.Tables.{ServiceTable}
use Rattle.service_table.specs.Answering.{status_in}
use Rattle.service_table.specs.Steps.{log_change_in, logged, alarms_after, standing_from, where_ok, changed}
use Rattle.service_fit.specs.Fit.{IsAlarmFirst}
use Rattle.service_parts.specs.Telling.{IsTold}
use Rattle.service_core.specs.declared.parts.Acted.{Acted}
use Rattle.service_core.specs.Acting.{marked_by, HasActed}
use Rattle.service_core.proofs.ActLaws.{told-planned}

-- the first stream is the alarm stream

pub first-sized : (kept : List OpenStream) (state : StreamState) → IsAlarmFirst kept → Some state ≡ option_map (λ (s : OpenStream). s.state) (slice_get kept 0) → IsSized state.attrs
first-sized [] state first is = absurd first
first-sized (s ∷ streams) state first is =
    let e : state ≡ s.state = cc in
    subst (λ (st : StreamState). IsSized st.attrs) (sym e) first.1.sizes

pub first-stands : (kept : List OpenStream) (state : StreamState) → IsAlarmFirst kept → Some state ≡ option_map (λ (s : OpenStream). s.state) (slice_get kept 0) → first_standing state ≡ standing_from kept
first-stands [] state first is = absurd first
first-stands (s ∷ streams) state first is =
    let e : state ≡ s.state = cc in
    let named : same_name s.state.name name.Alarm ≡ true = ap (λ n. same_name n name.Alarm) first.0 in
    ap first_standing e
    ∙ sym (ap (λ b. option_map_or (λ (one : OpenStream). first_standing one.state) (cond b (Some s) (kept_stream streams name.Alarm)) 0) named)

pub some-first : (kept : List OpenStream) → IsAlarmFirst kept → None ≡ option_map (λ (s : OpenStream). s.state) (slice_get kept 0) → ⊥
some-first [] first is = first
some-first (s ∷ streams) first is = cc

-- a write

abbrev pub with_log_alarms : ServiceTable → LogTable → List KeptAlarm → ServiceTable
with_log_alarms kept log alarms = record {
  number = kept.number;
  log = log;
  ntf = kept.ntf;
  alarms = alarms;
  readers = kept.readers;
  windows = kept.windows;
}

-- what a write leaves of the alarms, by whether its record was filtered and by its answer
abbrev pub alarms_left : (filtered : Bool) → Status → LogTable → List KeptAlarm → List KeptAlarm
alarms_left filtered answered later alarms =
    cond filtered alarms (where_ok answered (from_record (standing_from later.streams) alarms) alarms)

-- what a write of this answer makes that changes the log so
abbrev wrote : ServiceTable → Status → Option LogChange → ServiceTable
wrote kept answered change =
    let later = logged (if_ok answered change) kept.log in
    with_log_alarms kept later (alarms_after (if_ok answered change) None later.streams kept.alarms)

-- a filtered write changes nothing
abbrev pub unless : (filtered : Bool) → LogChange → Option LogChange
unless filtered change = cond filtered None (Some change)

write-changed : (kept : ServiceTable) (client seq invocation flags : ℕ) (moment time : ℤ) (stream : StreamName) (header : Header) (body : List ℕ) (answered : Status) → let call = LogWrite stream invocation flags time header body in wrote kept answered (log_change_in kept client moment call) ≡ changed kept client seq moment call answered
write-changed kept client seq invocation flags moment time stream header body status.Ok = refl
write-changed kept client seq invocation flags moment time stream header body _ = refl

write-left : (kept : ServiceTable) (stream : StreamName) (rec : LogRecord) (second : ℕ) (filtered told : Bool) (answered : Status) (later : LogTable) (events : List StreamEvent) → (answered ≡ status.Ok → Came filtered (Stored stream rec second) kept.log later events) → (answered ≢ status.Ok → Left kept.log later events) → (answered ≡ status.Ok → told ≡ filtered) → (answered ≢ status.Ok → told ≡ false) → with_log_alarms kept later (alarms_left told answered later kept.alarms) ≡ wrote kept answered (unless filtered (Stored stream rec second))
write-left kept stream rec second true told status.Ok later events came left same none =
    ap (λ b. with_log_alarms kept later (alarms_left b status.Ok later kept.alarms)) (same refl)
    ∙ ap (λ (l : LogTable). with_log_alarms kept l kept.alarms) (came refl).now
write-left kept stream rec second false told status.Ok later events came left same none =
    ap (λ b. with_log_alarms kept later (alarms_left b status.Ok later kept.alarms)) (same refl)
    ∙ ap (λ (l : LogTable). with_log_alarms kept l (from_record (standing_from l.streams) kept.alarms)) (came refl).now
write-left kept stream rec second filtered told _ later events came left same none =
    ap (λ b. with_log_alarms kept later (cond b kept.alarms kept.alarms)) (none (λ e. cc))
    ∙ ap (λ (l : LogTable). with_log_alarms kept l kept.alarms) (left (λ e. cc)).now

write-events : (kept later : LogTable) (change : LogChange) (filtered : Bool) (answered : Status) (events : List StreamEvent) → (answered ≡ status.Ok → Came filtered change kept later events) → (answered ≢ status.Ok → Left kept later events) → events ≡ option_map_or (λ c. events_of c kept) (if_ok answered (unless filtered change)) []
write-events kept later change true status.Ok events came left = (came refl).done
write-events kept later change false status.Ok events came left = (came refl).done
write-events kept later change filtered _ events came left = (left (λ e. cc)).done

pub write-acted : (kept : ServiceTable) (client seq invocation flags : ℕ) (moment time : ℤ) (stream : StreamName) (header : Header) (body : List ℕ) (plan : LogPlan) (later : LogTable) (alarms : List KeptAlarm) (acted : Acted) → let call = LogWrite stream invocation flags time header body in let mark = kept_mark kept.log.streams stream in Plans kept.log (status_in kept client moment call) (is_filtered mark.mask header) (Some mark) (Stored stream (record_at time header body moment) (second_of moment)) plan → later ≡ planned plan kept.log → alarms ≡ alarms_left plan.step.filtered plan.step.status later kept.alarms → IsTold plan.step.status (marked_by plan.step.filtered plan.step.mark) acted.told → acted.deeds ≡ deeds_of_all plan.step.events → HasActed kept client seq moment call (with_log_alarms kept later alarms) acted
write-acted kept client seq invocation flags moment time stream header body plan later alarms acted plans now alarms_are told has =
    let call = LogWrite stream invocation flags time header body in
    let mark = kept_mark kept.log.streams stream in
    let filtered = is_filtered mark.mask header in
    let change = Stored stream (record_at time header body moment) (second_of moment) in
    let done = plan.step.status in
    let events_are = write-events kept.log (planned plan kept.log) change filtered done plan.step.events plans.ok plans.refused in
    let plain = told-planned kept.log (status_in kept client moment call) filtered (Some mark) change plan plans in
    record {
      now = ap (with_log_alarms kept later) alarms_are
          ∙ ap (λ (l : LogTable). with_log_alarms kept l (alarms_left plan.step.filtered done l kept.alarms)) now
          ∙ write-left kept stream (record_at time header body moment) (second_of moment) filtered plan.step.filtered done (planned plan kept.log) plan.step.events plans.ok plans.refused (λ e. (plans.told.ok e).0) (λ n. (plans.told.refused n).0)
          ∙ write-changed kept client seq invocation flags moment time stream header body done
          ∙ ap (changed kept client seq moment call) plans.answer;
      told = record { reply = told.reply ∙ plain; kept = told.kept ∙ plain };
      deeds = has ∙ ap deeds_of_all events_are ∙ ap (λ s. deeds_of_all (option_map_or (λ x. events_of x kept.log) (if_ok s (unless filtered change)) [])) plans.answer;
    }
