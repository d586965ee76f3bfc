-- The stored alarms of a fit value stay fit.
use Rattle.std.proofs.Common.{◌≡◌, ℕ, ◌+◌, ◌<◌, ◌≤◌, nat_le, Bool, true, false, cond, List, [], ◌∷◌, ◌++◌, refl, ap, sym, ◌∙◌, subst, arith}
use Rattle.std.specs.Prelude.{Some, None, ℤ}
use Rattle.std.specs.Option.{option_map_or}
use Rattle.std.specs.List.{AllByRecursion}
use Rattle.std.proofs.lemmas.Bool.{leb-true}
use Rattle.stream_config.specs.declared.attrs.StreamName.{StreamName}
use Rattle.stream_config.specs.declared.attrs.StreamName.TheVariants as name
use Rattle.stream_config.specs.Equality.{same_name}
use Rattle.stream_config.specs.Fit.{first_standing}
use Rattle.stream_config.specs.Stamps.{stamp_after}
use Rattle.record_print.specs.declared.record.LogRecord.{LogRecord}
use Rattle.log_history.specs.Names.{is_application}
use Rattle.log_history.specs.Changes.{LogChange, Began, Opened, Stored, Filtered, Closed, Ended}
use Rattle.log_history.specs.Firsts.{change_first}
use Rattle.log_history.specs.Times.{second_of}
use Rattle.log_history.specs.KeptAnswers.{kept_stream}
use Rattle.log_history.specs.Table.{OpenStream, LogTable, is_named, with_opener, with_mark, without_opener, kept_streams, closed_streams, left_streams, opened_stream, table_after}
use Rattle.ntf_types.specs.declared.notification.Notification.{Notification}
use Rattle.ntf_types.specs.SoundTests.{is_sound}
use Rattle.ntf_types.proofs.SoundLaws.{is_sound-decides}
use Rattle.alarm_view.specs.declared.alarm.KeptAlarm.{KeptAlarm}
use Rattle.alarm_view.specs.Alarms.{kept_alarm, AreInOrder, IsAboveAll, CanAdd, from_record}
use Rattle.alarm_view.proofs.Keeping.{AreInOrder-added, AreInOrder-from_record}
use Rattle.ntf_history.specs.Changes.NtfChange.{Sent}
use Rattle.ntf_history.specs.StoredAlarms.{is_alarm}
use Rattle.ntf_history.proofs.AlarmLaws.{is_alarm-is}
use Rattle.plain_service.specs.Setups.{IsMoment}
use Rattle.plain_service.specs.Alarms.{stream_for, record_for}
use Rattle.plain_service.specs.Fitness.{IsStanding}
use Rattle.plain_service.proofs.ListLaws.{each-weaker, each-push, each-filter}
use Rattle.service_table.specs.Tables.{ServiceTable}
use Rattle.service_table.specs.Answering.{accepted_in}
use Rattle.service_table.specs.Steps.{taken_in, standing_from, alarms_with}
use Rattle.service_fit.proofs.SentLaws.{IsAccepted, accepted}
use Rattle.service_fit.specs.Fit.{IsFitState, IsAlarmFirst, alarm_count, WasStored}
use Rattle.service_fit.proofs.LogFit.{StandInOrder}
use Rattle.service_fit.proofs.LogSteps.{order-changed, order-left, stays, count-stored, count-is, count-more}

-- the record of this number stands in the alarm stream, which is the first
abbrev pub IsStandingIn : List OpenStream → (number : ℕ) → Type 0
IsStandingIn [] number = ⊥
IsStandingIn (stream ∷ streams) number = IsStanding stream.state number

pub record IsFitAlarmIn (streams : List OpenStream) (last_id : ℕ) (alarm : KeptAlarm) : Type 0 where
  pub stands : IsStandingIn streams alarm.number
  pub given : alarm.notification.id ≤ last_id
  pub accepted : IsAccepted alarm.notification

-- the stored alarms of a fit value
pub record AreFitAlarms (streams : List OpenStream) (last_id : ℕ) (alarms : List KeptAlarm) : Type 0 where
  pub order : AreInOrder alarms
  pub each : AllByRecursion (IsFitAlarmIn streams last_id) alarms

-- those of which the record was stored and the id was given, whether the record stands or not
abbrev IsKnown : (taken last_id : ℕ) → KeptAlarm → Type 0
IsKnown taken last_id alarm = WasStored taken last_id alarm × IsAccepted alarm.notification

below : (streams : List OpenStream) (number : ℕ) → IsStandingIn streams number → number < alarm_count streams
below [] number stands = absurd stands
below (stream ∷ streams) number stands = stands.below

known : (streams : List OpenStream) (last_id taken later : ℕ) → alarm_count streams ≤ taken → last_id ≤ later → (alarm : KeptAlarm) → IsFitAlarmIn streams last_id alarm → IsKnown taken later alarm
known streams last_id taken later counts ids alarm is =
    (record { stored = omega (arith, below streams alarm.number is.stands, counts); given = omega (arith, is.given, ids) }, is.accepted)

-- **each was stored**
pub were-stored : (streams : List OpenStream) (last_id : ℕ) (alarms : List KeptAlarm) → AreFitAlarms streams last_id alarms → AllByRecursion (WasStored (alarm_count streams) last_id) alarms
were-stored streams last_id alarms fit =
    each-weaker (IsFitAlarmIn streams last_id) (WasStored (alarm_count streams) last_id)
    (λ alarm is. (known streams last_id (alarm_count streams) last_id (omega arith) (omega arith) alarm is).0) alarms fit.each

-- an alarm that is sent

above-all : (number id last : ℕ) (alarms : List KeptAlarm) → last < id → AllByRecursion (WasStored number last) alarms → IsAboveAll number id alarms
above-all number id last [] next each = tt
above-all number id last (alarm ∷ alarms) next each =
    (each.0.stored, omega (arith, each.0.given, next), above-all number id last alarms next each.1)

count-few : (last number : ℕ) (streams : List OpenStream) → AllByRecursion (IsFitState last number) streams → alarm_count streams ≤ number
count-few last number [] each = omega arith
count-few last number (stream ∷ streams) each = each.0.taken

-- **it can be added**
pub can-add : (last number last_id : ℕ) (streams : List OpenStream) (notification : Notification) (alarms : List KeptAlarm) → number ≤ 4000000000 → is_alarm notification.body ≡ true → last_id < notification.id → AllByRecursion (IsFitState last number) streams → AllByRecursion (WasStored (alarm_count streams) last_id) alarms → CanAdd (alarm_count streams) notification alarms
can-add last number last_id streams notification alarms few alarm next streams_are each = record {
  alarm = is_alarm-is notification.body alarm;
  bound = omega (arith, few, count-few last number streams streams_are);
  above = above-all (alarm_count streams) notification.id last_id alarms next each;
}

-- changes by which no record is stored

standing-changed : (other : StreamName) (change : OpenStream → OpenStream) → ((s : OpenStream) → (change s).state ≡ s.state) → (streams : List OpenStream) (number : ℕ) → IsStandingIn streams number → IsStandingIn (change_first (is_named other) change streams) number
standing-changed other change keeps [] number stands = stands
standing-changed other change keeps (s ∷ streams) number stands = by_case (is_named other s) where
  by_case : (named : Bool) → IsStandingIn (cond named (change s ∷ streams) (s ∷ change_first (is_named other) change streams)) number
  by_case true = subst (λ state. IsStanding state number) (sym (keeps s)) stands
  by_case false = stands

standing-pushed : (streams : List OpenStream) (s : OpenStream) (number : ℕ) → IsStandingIn streams number → IsStandingIn (streams ++ s ∷ []) number
standing-pushed [] s number stands = absurd stands
standing-pushed (one ∷ streams) s number stands = stands

standing-left : (client : ℕ) (streams : List OpenStream) (number : ℕ) → IsStandingIn streams number → IsStandingIn (left_streams client streams) number
standing-left client [] number stands = stands
standing-left client (s ∷ streams) number stands = stands

standing-kept : (streams : List OpenStream) (number : ℕ) → StandInOrder streams → IsStandingIn streams number → IsStandingIn (kept_streams streams) number
standing-kept [] number order stands = absurd order
standing-kept (one ∷ []) number order stands = absurd order
standing-kept (one ∷ two ∷ []) number order stands = absurd order
standing-kept (one ∷ two ∷ three ∷ others) number order stands =
    subst (λ streams. IsStandingIn streams number) (sym (stays one (two ∷ three ∷ others) (ap is_application order.0))) stands

abbrev pub StoresNone : LogChange → Type 0
StoresNone (Stored stream rec second) = ⊥
StoresNone _ = Unit {0}

stands-after : (kept : LogTable) (change : LogChange) → StandInOrder kept.streams → StoresNone change → (number : ℕ) → IsStandingIn kept.streams number → IsStandingIn (table_after change kept).streams number
stands-after kept (Began client) order none number stands = stands
stands-after kept (Opened client stream None second entry) order none number stands =
    standing-changed stream (with_opener client) (λ _. refl) kept.streams number stands
stands-after kept (Opened client stream (Some attrs) second entry) order none number stands =
    standing-pushed kept.streams (opened_stream client stream attrs (stamp_after kept.last second) entry) number stands
stands-after kept (Stored stream rec second) order none number stands = absurd none
stands-after kept (Filtered client stream mask entry) order none number stands =
    standing-changed stream (with_mark (record { since = entry; mask = mask })) (λ _. refl) kept.streams number stands
stands-after kept (Closed client stream second) order none number stands =
    standing-kept (closed_streams client stream kept.streams) number (order-changed stream (without_opener client) (λ _. refl) kept.streams order)
    (standing-changed stream (without_opener client) (λ _. refl) kept.streams number stands)
stands-after kept (Ended client second) order none number stands =
    standing-kept (left_streams client kept.streams) number (order-left client kept.streams order) (standing-left client kept.streams number stands)

-- **the alarms after such a change**
pub alarms-same : (kept : LogTable) (change : LogChange) (last_id : ℕ) (alarms : List KeptAlarm) → StandInOrder kept.streams → StoresNone change → AreFitAlarms kept.streams last_id alarms → AreFitAlarms (table_after change kept).streams last_id alarms
alarms-same kept change last_id alarms order none fit = record {
  order = fit.order;
  each = each-weaker (IsFitAlarmIn kept.streams last_id) (IsFitAlarmIn (table_after change kept).streams last_id)
      (λ alarm is. record { stands = stands-after kept change order none alarm.number is.stands; given = is.given; accepted = is.accepted }) alarms fit.each;
}

-- once a record is stored those stay whose records stand

stands-from : (streams : List OpenStream) (number : ℕ) → IsAlarmFirst streams → nat_le (standing_from streams) number ≡ true → number < alarm_count streams → IsStandingIn streams number
stands-from [] number first from under = absurd first
stands-from (s ∷ streams) number first from under =
    let named : same_name s.state.name name.Alarm ≡ true = ap (λ n. same_name n name.Alarm) first.0 in
    let start = first_standing s.state in
    let same : standing_from (s ∷ streams) ≡ start =
    ap (λ b. option_map_or (λ (stream : OpenStream). first_standing stream.state) (cond b (Some s) (kept_stream streams name.Alarm)) 0) named in
    record { from = leb-true start number (ap (λ n. nat_le n number) (sym same) ∙ from); below = under }

left-fit : (streams : List OpenStream) (last_id : ℕ) (alarms : List KeptAlarm) → IsAlarmFirst streams → AreInOrder alarms → AllByRecursion (IsKnown (alarm_count streams) last_id) alarms → AreFitAlarms streams last_id (from_record (standing_from streams) alarms)
left-fit streams last_id alarms first order each =
    let test : KeptAlarm → Bool = λ alarm. nat_le (standing_from streams) alarm.number in
    record {
      order = AreInOrder-from_record (standing_from streams) alarms order;
      each = each-weaker (λ alarm. IsKnown (alarm_count streams) last_id alarm × (test alarm ≡ true)) (IsFitAlarmIn streams last_id)
          (λ alarm is. record { stands = stands-from streams alarm.number first is.1 is.0.0.stored; given = is.0.0.given; accepted = is.0.1 }) (from_record (standing_from streams) alarms)
          (each-filter (IsKnown (alarm_count streams) last_id) test alarms each);
    }

-- **the alarms after a record was written**
pub alarms-written : (kept : LogTable) (stream : StreamName) (rec : LogRecord) (second last_id : ℕ) (alarms : List KeptAlarm) → let later = (table_after (Stored stream rec second) kept).streams in IsAlarmFirst later → AreFitAlarms kept.streams last_id alarms → AreFitAlarms later last_id (from_record (standing_from later) alarms)
alarms-written kept stream rec second last_id alarms first fit =
    let later = (table_after (Stored stream rec second) kept).streams in
    left-fit later last_id alarms first fit.order
    (each-weaker (IsFitAlarmIn kept.streams last_id) (IsKnown (alarm_count later) last_id)
    (known kept.streams last_id (alarm_count later) last_id (count-more kept.last second rec stream kept.streams) (omega arith)) alarms fit.each)

-- an ok send

module _ (kept : ServiceTable) (now : ℤ) (notification : Notification) where
  abbrev sent : Notification
  sent = accepted_in kept.ntf now notification

  abbrev stored : LogChange
  stored = Stored (stream_for notification.body) (record_for now sent) (second_of now)

  abbrev later_streams : List OpenStream
  later_streams = (table_after stored kept.log).streams

  abbrev record_number : ℕ
  record_number = taken_in kept.log.streams (stream_for notification.body)

  alarm-stored : IsAlarmFirst kept.log.streams → is_alarm notification.body ≡ true → (record_number ≡ alarm_count kept.log.streams) × (alarm_count later_streams ≡ alarm_count kept.log.streams + 1)
  alarm-stored first alarm =
      let named : stream_for notification.body ≡ name.Alarm = ap (λ b. cond b name.Alarm name.Notification) alarm in (
        ap (taken_in kept.log.streams) named ∙ count-is kept.log.streams first,
        ap (λ n. alarm_count (table_after (Stored n (record_for now sent) (second_of now)) kept.log).streams) named ∙ count-stored kept.log.last (second_of now) (record_for now sent) kept.log.streams first,
      )

  -- **the alarms after it**
  pub alarms-sent : (number : ℕ) → number ≤ 4000000000 → IsMoment now → is_sound notification ≡ true → IsAlarmFirst kept.log.streams → IsAlarmFirst later_streams → AllByRecursion (IsFitState kept.log.last number) kept.log.streams → AreFitAlarms kept.log.streams kept.ntf.last_id kept.alarms → AreFitAlarms later_streams (kept.ntf.last_id + 1) (from_record (standing_from later_streams) (alarms_with (Some (Sent sent record_number)) kept.alarms))
  alarms-sent number few moment sound first later_first streams fit =
      with-sent (is_alarm notification.body) refl where
        right : IsAccepted sent
        right = accepted (kept.ntf.last_id + 1) now notification moment ((is_sound-decides notification).0 sound)

        before : AllByRecursion (IsKnown (alarm_count later_streams) (kept.ntf.last_id + 1)) kept.alarms
        before =
            each-weaker (IsFitAlarmIn kept.log.streams kept.ntf.last_id) (IsKnown (alarm_count later_streams) (kept.ntf.last_id + 1))
            (known kept.log.streams kept.ntf.last_id (alarm_count later_streams) (kept.ntf.last_id + 1) (count-more kept.log.last (second_of now) (record_for now sent) (stream_for notification.body) kept.log.streams) (omega arith)) kept.alarms fit.each

        with-sent : (alarm : Bool) → is_alarm notification.body ≡ alarm → AreFitAlarms later_streams (kept.ntf.last_id + 1) (from_record (standing_from later_streams) (cond alarm (kept.alarms ++ kept_alarm record_number sent ∷ []) kept.alarms))
        with-sent false is = left-fit later_streams (kept.ntf.last_id + 1) kept.alarms later_first fit.order before
        with-sent true is =
            let counts = alarm-stored first is in
            let can = can-add kept.log.last number kept.ntf.last_id kept.log.streams sent kept.alarms few is (omega arith) streams (were-stored kept.log.streams kept.ntf.last_id kept.alarms fit) in
            let can_here : CanAdd record_number sent kept.alarms = subst (λ n. CanAdd n sent kept.alarms) (sym counts.0) can in
            left-fit later_streams (kept.ntf.last_id + 1) (kept.alarms ++ kept_alarm record_number sent ∷ []) later_first
            (AreInOrder-added record_number sent kept.alarms fit.order can_here)
            (each-push (IsKnown (alarm_count later_streams) (kept.ntf.last_id + 1)) kept.alarms (kept_alarm record_number sent) before
            (record { stored = omega (arith, counts.0, counts.1); given = omega arith }, right))
