-- What a send came to.
use Rattle.std.proofs.Common.{◌≡◌, ◌≢◌, ℕ, ◌+◌, ◌^◌, ◌≤◌, true, false, Bool, not, ◌&&◌, cond, List, [], ◌∷◌, ◌++◌, refl, ap, sym, ◌∙◌, subst, w64}
use Rattle.std.specs.Prelude.{ℤ, pos, ◌≤ℤ◌, unsigned_abs, Some}
use mir.Val.{SFits}
use Rattle.std.specs.Int.{is_negative}
use Rattle.std.proofs.lemmas.Bool.{and_parts}
use Rattle.ais_values.specs.TimeTests.{is_time}
use Rattle.ais_values.specs.declared.status.Status.{Status}
use Rattle.ais_values.specs.declared.status.Status.TheVariants as status
use Rattle.ntf_types.specs.declared.notification.Notification.{Notification}
use Rattle.ntf_types.specs.SoundTests.{is_sound}
use Rattle.stream_config.specs.declared.attrs.StreamName.TheVariants as name
use Rattle.stream_config.specs.declared.event.StreamEvent.{StreamEvent}
use Rattle.client_set.specs.Members.{has}
use Rattle.alarm_view.specs.declared.alarm.KeptAlarm.{KeptAlarm}
use Rattle.alarm_view.specs.Alarms.{kept_alarm, from_record}
use Rattle.calls.specs.declared.call.Call.TheVariants.{NtfSend}
use Rattle.calls.specs.declared.reply.Reply.TheVariants.{Done, Sent}
use Rattle.format_expr.specs.declared.token.Moment.TheVariants.{Record, Event}
use Rattle.record_print.specs.Lengths.{IsTimed, HasNotifiedParts}
use Rattle.log_history.specs.Deeds.{deeds_of_all}
use Rattle.log_history.specs.KeptAnswers.{is_filled}
use Rattle.log_history.specs.Times.{filled_time}
use Rattle.log_history.specs.Table.{OpenStream, LogTable, table_after, events_of}
use Rattle.ntf_history.specs.Changes.{NtfChange as ntf}
use Rattle.ntf_history.specs.Rows.{answer, send_by}
use Rattle.ntf_history.specs.StoredAlarms.{is_alarm}
use Rattle.ntf_history.specs.Tables.{after_send}
use Rattle.plain_service.specs.Alarms.{stream_for, record_for, accepted_as}
use Rattle.plain_service.specs.Replies.{reply_by}
use Rattle.service_table.specs.Tables.{ServiceTable}
use Rattle.service_table.specs.Answering.{accepted_in, status_in}
use Rattle.service_table.specs.Steps.{taken_in, standing_from, alarms_with, where_ok, changed}
use Rattle.service_fit.specs.Fit.{IsAlarmFirst, alarm_count}
use Rattle.service_fit.proofs.LogSteps.{count-is}
use Rattle.service_parts.specs.Telling.{IsTold}
use Rattle.service_core.specs.declared.parts.Acted.{Acted}
use Rattle.service_core.specs.Acting.{HasActed}
use Rattle.service_core.specs.Sending.{stored_of, sent_in, sent_events, sent_status, HasSent}
use Rattle.log_service.proofs.WriteLemmas.{filled-time, filled-low, time-low, not-negative}

-- times of a record that is stored

time-of : (notification : Notification) → is_sound notification ≡ true → is_time notification.event_time ≡ true
unfolding is_sound
time-of notification sound = (and_parts _ _ (and_parts _ _ sound).1).0

pub filled-event : (notification : Notification) (now : ℤ) → pos 0 ≤ℤ now → is_sound notification ≡ true → is_negative (filled_time notification.event_time now) ≡ false
filled-event notification now from sound = filled-time notification.event_time now from (time-of notification sound)

-- the record of a notification that is sent has its names and its text

sent-timed : (id : ℕ) (now : ℤ) (notification : Notification) → unsigned_abs now ≤ 2 ^ 63 → unsigned_abs notification.event_time ≤ 2 ^ 63 → IsTimed (record_for now (accepted_as id now notification))
sent-timed id now notification low event Record shown is = let e : unsigned_abs now ≡ shown = cc in subst (λ n. n ≤ 2 ^ 63) e low
sent-timed id now notification low event Event shown is =
    let e : unsigned_abs (filled_time notification.event_time now) ≡ shown = cc in subst (λ n. n ≤ 2 ^ 63) e (filled-low notification.event_time now event low)

pub sent-parts : (id : ℕ) (now : ℤ) (notification : Notification) → SFits w64 now → pos 0 ≤ℤ now → unsigned_abs notification.event_time ≤ 2 ^ 63 → is_sound notification ≡ true → HasNotifiedParts notification.object notification.notifier notification.text (record_for now (accepted_as id now notification))
sent-parts id now notification fits from event sound = record {
  names = (refl, refl);
  body_is = refl;
  printable = ap (λ b. not b && not (is_negative (filled_time notification.event_time now))) (not-negative now from) ∙ ap not (filled-event notification now from sound);
  timed = sent-timed id now notification (time-low now fits) event;
}

-- the number of the record of an alarm

pub same-number : (streams : List OpenStream) (notification : Notification) (alarms : List KeptAlarm) → IsAlarmFirst streams → alarms_with (Some (ntf.Sent notification (alarm_count streams))) alarms ≡ alarms_with (Some (ntf.Sent notification (taken_in streams (stream_for notification.body)))) alarms
same-number streams notification alarms first = by_case (is_alarm notification.body) where
  by_case : (alarm : Bool) → cond alarm (alarms ++ kept_alarm (alarm_count streams) notification ∷ []) alarms ≡ cond alarm (alarms ++ kept_alarm (taken_in streams (cond alarm name.Alarm name.Notification)) notification ∷ []) alarms
  by_case true = ap (λ n. alarms ++ kept_alarm n notification ∷ []) (sym (count-is streams first))
  by_case false = refl

-- by the status of a send

send-ok-changed : (kept : ServiceTable) (client seq : ℕ) (moment : ℤ) (notification : Notification) → IsAlarmFirst kept.log.streams → let sent = accepted_in kept.ntf moment notification in sent_in kept moment (record_for moment sent) sent ≡ changed kept client seq moment (NtfSend notification) status.Ok
send-ok-changed kept client seq moment notification first =
    let sent = accepted_in kept.ntf moment notification in
    let log : LogTable = table_after (stored_of moment (record_for moment sent) sent) kept.log in
    let build = λ (alarms : List KeptAlarm). let whole : ServiceTable = record { number = kept.number; log = log; ntf = after_send sent kept.ntf; alarms = from_record (standing_from log.streams) alarms; readers = kept.readers; windows = kept.windows } in whole in
    ap build (same-number kept.log.streams sent kept.alarms first)

send-changed : (kept : ServiceTable) (client seq : ℕ) (moment : ℤ) (notification : Notification) (answered : Status) → IsAlarmFirst kept.log.streams → let sent = accepted_in kept.ntf moment notification in where_ok answered (sent_in kept moment (record_for moment sent) sent) kept ≡ changed kept client seq moment (NtfSend notification) answered
send-changed kept client seq moment notification status.Ok first = send-ok-changed kept client seq moment notification first
send-changed kept client seq moment notification _ first = refl

-- **a send of a sound notification by a user**
pub sent-answer : (kept : ServiceTable) (client : ℕ) (moment : ℤ) (notification : Notification) → has client kept.ntf.users ≡ true → is_sound notification ≡ true → sent_status kept.log moment (accepted_in kept.ntf moment notification) ≡ status_in kept client moment (NtfSend notification)
sent-answer kept client moment notification using sound =
    let full = is_filled kept.log.streams (stream_for notification.body) (record_for moment (accepted_in kept.ntf moment notification)) in
    sym (ap (λ b. answer (send_by b (is_sound notification) full)) using ∙ ap (λ b. answer (send_by true b full)) sound)

pub sent-acted : (kept later : ServiceTable) (client seq : ℕ) (moment : ℤ) (notification : Notification) (acted : Acted) → IsAlarmFirst kept.log.streams → has client kept.ntf.users ≡ true → is_sound notification ≡ true → HasSent kept moment (accepted_in kept.ntf moment notification) later acted → HasActed kept client seq moment (NtfSend notification) later acted
sent-acted kept later client seq moment notification acted first using sound sent =
    let accepted = accepted_in kept.ntf moment notification in
    let same = sent-answer kept client moment notification using sound in
    let plain = ap (λ s. reply_by s (Sent (kept.ntf.last_id + 1))) same in
    record {
      now = sent.now ∙ send-changed kept client seq moment notification (sent_status kept.log moment accepted) first ∙ ap (changed kept client seq moment (NtfSend notification)) same;
      told = record { reply = sent.told.reply ∙ plain; kept = sent.told.kept ∙ plain };
      deeds = sent.deeds ∙ ap (λ s. deeds_of_all (sent_events s (stored_of moment (record_for moment accepted) accepted) kept.log)) same;
    }

-- a send that is refused

refused-reply : (answered : Status) (id : ℕ) → answered ≢ status.Ok → reply_by answered Done ≡ reply_by answered (Sent id)
refused-reply status.Ok id refused = absurd (refused refl)
refused-reply _ id refused = refl

refused-events : (kept : ServiceTable) (moment : ℤ) (notification : Notification) (answered : Status) → answered ≢ status.Ok → let nothing : List StreamEvent = [] in sent_events answered (stored_of moment (record_for moment notification) notification) kept.log ≡ nothing
refused-events kept moment notification status.Ok refused = absurd (refused refl)
refused-events kept moment notification _ refused = refl

where-not : (answered : Status) (after before : ServiceTable) → answered ≢ status.Ok → before ≡ where_ok answered after before
where-not status.Ok after before refused = absurd (refused refl)
where-not _ after before refused = refl

pub refused-sent : (kept : ServiceTable) (moment : ℤ) (notification : Notification) (answered : Status) (acted : Acted) → answered ≡ sent_status kept.log moment notification → answered ≢ status.Ok → IsTold answered Done acted.told → acted.deeds ≡ [] → HasSent kept moment notification kept acted
refused-sent kept moment notification answered acted same refused told none =
    let plain = refused-reply answered (kept.ntf.last_id + 1) refused ∙ ap (λ s. reply_by s (Sent (kept.ntf.last_id + 1))) same in
    let sent = sent_in kept moment (record_for moment notification) notification in
    record {
      now = where-not answered sent kept refused ∙ ap (λ s. where_ok s sent kept) same;
      told = record { reply = told.reply ∙ plain; kept = told.kept ∙ plain };
      deeds = none ∙ ap deeds_of_all (sym (refused-events kept moment notification answered refused)) ∙ ap (λ s. deeds_of_all (sent_events s (stored_of moment (record_for moment notification) notification) kept.log)) same;
    }

pub done-sent : (kept later : ServiceTable) (moment : ℤ) (notification : Notification) (answered : Status) (events : List StreamEvent) (acted : Acted) → answered ≡ sent_status kept.log moment notification → answered ≡ status.Ok → later ≡ sent_in kept moment (record_for moment notification) notification → acted.told.reply ≡ Sent (kept.ntf.last_id + 1) → acted.told.kept ≡ Sent (kept.ntf.last_id + 1) → events ≡ events_of (stored_of moment (record_for moment notification) notification) kept.log → acted.deeds ≡ deeds_of_all events → HasSent kept moment notification later acted
done-sent kept later moment notification answered events acted same ok is reply twice happened deeds =
    let ok_is = sym ok ∙ same in
    let told = λ (s : Status). reply_by s (Sent (kept.ntf.last_id + 1)) in
    let change = stored_of moment (record_for moment notification) notification in
    record {
      now = is ∙ ap (λ s. where_ok s (sent_in kept moment (record_for moment notification) notification) kept) ok_is;
      told = record { reply = reply ∙ ap told ok_is; kept = twice ∙ ap told ok_is };
      deeds = deeds ∙ ap deeds_of_all happened ∙ ap (λ s. deeds_of_all (sent_events s change kept.log)) ok_is;
    }

-- a stream that is ok to store in has room
pub room-left : (full : Bool) → answer ((full, status.NoSpace) ∷ []) ≡ status.Ok → full ≡ false
room-left true ok = cc
room-left false ok = refl
