-- In a history each change could follow those before it, in both services; and what else holds after every history.
use Rattle.std.proofs.Common.{◌≡◌, ℕ, ◌+◌, ◌<◌, ◌≤◌, ◌==◌, nat_lt, nat_le, Bool, true, false, ◌&&◌, ◌||◌, cond, List, [], ◌∷◌, ◌++◌, length, refl, ap, sym, ◌∙◌, subst, arith}
use Rattle.std.specs.Prelude.{Option, Some, None, option_map, is_some, is_none, ℤ}
use Rattle.std.specs.Option.{option_map_or}
use Rattle.std.specs.List.{list_any, cons_option}
use Rattle.std.proofs.lemmas.Bool.{leb-false}
use Rattle.std.proofs.lemmas.Bool.Decides.{nat_tests}
use Rattle.ais_values.specs.declared.status.Status.{Status}
use Rattle.ais_values.specs.declared.status.Status.TheVariants as status
use Rattle.stream_config.specs.declared.attrs.StreamAttrs.{StreamAttrs}
use Rattle.stream_config.specs.declared.attrs.StreamName.TheVariants as name
use Rattle.stream_config.specs.Attributes.{kind_of}
use Rattle.stream_config.specs.Equality.{same_name}
use Rattle.format_expr.specs.Language.{is_notified}
use Rattle.record_print.specs.Records.{can_write}
use Rattle.ntf_types.specs.SoundTests.{is_sound}
use Rattle.ntf_filters.specs.FitTests.{is_fit}
use Rattle.alarm_view.specs.Alarms.{kept_alarm}
use Rattle.alarm_view.specs.declared.alarm.KeptAlarm.{KeptAlarm}
use Rattle.calls.specs.declared.call.Call.{Call}
use Rattle.calls.specs.declared.call.Call.TheVariants.{LogInit, LogOpen, LogWrite, LogFilter, LogClose, LogFini, NtfInit, NtfSend, NtfSubscribe, NtfUnsubscribe, NtfFini}
use Rattle.calls.specs.declared.entry.Entry.{Entry}
use Rattle.calls.specs.declared.entry.Entry.TheVariants.{Called, Receipted}
use Rattle.log_history.specs.Changes.{LogChange}
use Rattle.log_history.specs.Changes.{LogChange as log}
use Rattle.log_history.specs.Handles.{is_using, is_open}
use Rattle.log_history.specs.Chronicle.{LogSetup, Stream}
use Rattle.log_history.specs.Answers.{living_stream, is_full}
use Rattle.log_history.specs.Legal.{IsLogHistory}
use Rattle.log_history.specs.Marks.{is_filtered, mark_after}
use Rattle.log_history.specs.Times.{second_of, record_at}
use Rattle.log_history.proofs.KeptLaws.{open-living}
use Rattle.ntf_history.specs.Changes.{NtfChange}
use Rattle.ntf_history.specs.Changes as ntf
use Rattle.ntf_history.specs.Subscriptions.{has_id, subs, is_known}
use Rattle.ntf_history.specs.StoredAlarms.{is_alarm, alarms_sent}
use Rattle.ntf_history.specs.Possible.{HaveNumbersBelow, ArePossible}
use Rattle.plain_service.specs.Setups.{Setup, log_setup}
use Rattle.plain_service.specs.Pasts.{Past, counted}
use Rattle.plain_service.specs.Alarms.{accepted_notification, stream_for, record_for, taken_by}
use Rattle.plain_service.specs.Answers.{status_of}
use Rattle.plain_service.specs.Changing.{past_after, past_of}
use Rattle.plain_service.specs.Replies.{calls_of, next_number}
use Rattle.plain_service.specs.Legal.{IsHistory}
use Rattle.plain_service.proofs.WellKnown.{stored_in, stored_in-bound, living-alarm, living-notification, taken-alarm, taken-notification}
use Rattle.plain_service.proofs.OkAnswers.{begin-ok, end-ok, close-ok, write-ok, filter-ok, open-ok, create-ok, send-ok, subscribe-ok}
use Rattle.ais_values.proofs.Basics.{pair_same}

-- a call that is refused changes nothing
pub past_after-by : (P : Past → Type 0) (setup : Setup) (past : Past) (client seq : ℕ) (now : ℤ) (call : Call) (answered : Status) → P (counted past) → (answered ≡ status.Ok → P (past_after setup past client seq now call status.Ok)) → P (past_after setup past client seq now call answered)
past_after-by P setup past client seq now call status.Ok before ok = ok refl
past_after-by P setup past client seq now call _ before ok = before

-- the Log Service

making-none : (living : Option Stream) → option_map_or {T = Stream} {U = Option StreamAttrs} (λ _. None) living None ≡ None
making-none None = refl
making-none (Some stream) = refl

pub some-attrs : (living : Option Stream) → is_none (option_map (λ (stream : Stream). stream.attrs) living) ≡ false → is_some living ≡ true
some-attrs None is = cc
some-attrs (Some stream) is = refl

-- the streams of notifications live
pub lives-for : (setup : LogSetup) (past : List LogChange) (alarm : Bool) → is_some (living_stream setup past (cond alarm name.Alarm name.Notification)) ≡ true
lives-for setup past true = ap is_some (living-alarm setup past)
lives-for setup past false = ap is_some (living-notification setup past)

pub log-follows : (setup : Setup) (past : Past) (client seq : ℕ) (now : ℤ) (call : Call) → IsLogHistory (log_setup setup) past.log → status_of setup past client now call ≡ status.Ok → IsLogHistory (log_setup setup) (past_after setup past client seq now call status.Ok).log
log-follows setup past client seq now LogInit legal ok = (begin-ok (is_using past.log client) ok, legal)
log-follows setup past client seq now (LogOpen stream None) legal ok =
    let told = open-ok (is_using past.log client) (is_none (option_map (λ (s : Stream). s.attrs) (living_stream (log_setup setup) past.log stream))) ok in
    subst (λ making. IsLogHistory (log_setup setup) (log.Opened client stream making (second_of now) (past.number + 1) ∷ past.log))
    (sym (making-none (living_stream (log_setup setup) past.log stream)))
    ((told.0, some-attrs (living_stream (log_setup setup) past.log stream) told.1), legal)
log-follows setup past client seq now (LogOpen stream (Some attrs)) legal ok = by_case (living_stream (log_setup setup) past.log stream) refl where
  by_case : (living : Option Stream) → living_stream (log_setup setup) past.log stream ≡ living → IsLogHistory (log_setup setup) (log.Opened client stream (option_map_or (λ (_ : Stream). None) living (Some attrs)) (second_of now) (past.number + 1) ∷ past.log)
  by_case None none = ((ap is_some none, ok), legal)
  by_case (Some found) is = ((create-ok (is_using past.log client) _ _ _ stream attrs ok, ap is_some is), legal)
log-follows setup past client seq now (LogWrite stream invocation flags time header body) legal ok =
    let told = write-ok (is_using past.log client) (is_open past.log stream client) (nat_lt 1 flags) (can_write (kind_of stream) time header) (is_filtered (mark_after past.log stream).mask header) (is_full (log_setup setup) past.log stream (record_at time header body now)) ok in
    by_case (is_filtered (mark_after past.log stream).mask header) (open-living (log_setup setup) past.log legal stream client told.1) told.3 where
      by_case : (filtered : Bool) → is_some (living_stream (log_setup setup) past.log stream) ≡ true → (filtered ≡ false → is_full (log_setup setup) past.log stream (record_at time header body now) ≡ false) → IsLogHistory (log_setup setup) (cons_option (cond filtered None (Some (log.Stored stream (record_at time header body now) (second_of now)))) past.log)
      by_case true living fits = legal
      by_case false living fits = ((living, fits refl), legal)
log-follows setup past client seq now (LogFilter stream mask) legal ok =
    (((filter-ok (is_using past.log client) (is_open past.log stream client) (is_notified (kind_of stream) || nat_lt 127 mask) ok).0, ok), legal)
log-follows setup past client seq now (LogClose stream) legal ok =
    (close-ok (is_using past.log client) (is_open past.log stream client) ok, legal)
log-follows setup past client seq now LogFini legal ok = (end-ok (is_using past.log client) ok, legal)
log-follows setup past client seq now (NtfSend notification) legal ok =
    let told = send-ok (ntf.is_using past.ntf client) (is_sound notification) (is_full (log_setup setup) past.log (stream_for notification.body) (record_for now (accepted_notification past now notification))) ok in
    ((lives-for (log_setup setup) past.log (is_alarm notification.body), told.2), legal)
log-follows setup past client seq now _ legal ok = legal

-- the Notification Service

pub ntf-follows : (setup : Setup) (past : Past) (client seq : ℕ) (now : ℤ) (call : Call) → ArePossible past.ntf → length past.log < 4294967295 → HaveNumbersBelow (stored_in name.Alarm past.log) (alarms_sent past.ntf) → is_known past.ntf client seq ≡ false → status_of setup past client now call ≡ status.Ok → ArePossible (past_after setup past client seq now call status.Ok).ntf
ntf-follows setup past client seq now NtfInit possible few below new ok = (tt, possible)
ntf-follows setup past client seq now (NtfSend notification) possible few below new ok =
    (record { id = refl; bound = bound (is_alarm notification.body); later = later }, possible) where
      bound : (alarm : Bool) → taken_by (log_setup setup) past.log (cond alarm name.Alarm name.Notification) < 4294967295
      bound true = omega (arith, taken-alarm (log_setup setup) past.log, stored_in-bound name.Alarm past.log, few)
      bound false = omega (arith, taken-notification (log_setup setup) past.log, stored_in-bound name.Notification past.log, few)

      later : is_alarm notification.body ≡ true → HaveNumbersBelow (taken_by (log_setup setup) past.log (stream_for notification.body)) (alarms_sent past.ntf)
      later is =
          subst (λ k. HaveNumbersBelow k (alarms_sent past.ntf))
          (sym (ap (λ alarm. taken_by (log_setup setup) past.log (cond alarm name.Alarm name.Notification)) is ∙ taken-alarm (log_setup setup) past.log))
          below
ntf-follows setup past client seq now (NtfSubscribe id filters) possible few below new ok =
    let told = subscribe-ok (ntf.is_using past.ntf client) (is_fit filters) (list_any (has_id client id) (subs past.ntf)) (nat_le 64 (length (subs past.ntf))) ok in
    (record { user = told.0; new = new; id = told.2; few = leb-false 64 (length (subs past.ntf)) told.3 }, possible)
ntf-follows setup past client seq now (NtfUnsubscribe id) possible few below new ok = (tt, possible)
ntf-follows setup past client seq now NtfFini possible few below new ok = (tt, possible)
ntf-follows setup past client seq now _ possible few below new ok = possible

-- the records of alarms have numbers below the count of records

HaveNumbersBelow-weaker : (number more : ℕ) (alarms : List KeptAlarm) → number ≤ more → HaveNumbersBelow number alarms → HaveNumbersBelow more alarms
HaveNumbersBelow-weaker number more [] le below = tt
HaveNumbersBelow-weaker number more (alarm ∷ alarms) le below =
    (omega (arith, le, below.0), HaveNumbersBelow-weaker number more alarms le below.1)

HaveNumbersBelow-push : (number : ℕ) (alarms : List KeptAlarm) (last : KeptAlarm) → HaveNumbersBelow number alarms → last.number < number → HaveNumbersBelow number (alarms ++ last ∷ [])
HaveNumbersBelow-push number [] last below lt = (lt, tt)
HaveNumbersBelow-push number (alarm ∷ alarms) last below lt = (below.0, HaveNumbersBelow-push number alarms last below.1 lt)

pub alarms-below : (setup : Setup) (past : Past) (client seq : ℕ) (now : ℤ) (call : Call) → HaveNumbersBelow (stored_in name.Alarm past.log) (alarms_sent past.ntf) → HaveNumbersBelow (stored_in name.Alarm (past_after setup past client seq now call status.Ok).log) (alarms_sent (past_after setup past client seq now call status.Ok).ntf)
alarms-below setup past client seq now (LogWrite stream invocation flags time header body) below =
    by_case (is_filtered (mark_after past.log stream).mask header) where
      by_case : (filtered : Bool) → HaveNumbersBelow (stored_in name.Alarm (cons_option (cond filtered None (Some (log.Stored stream (record_at time header body now) (second_of now)))) past.log)) (alarms_sent past.ntf)
      by_case true = below
      by_case false =
          HaveNumbersBelow-weaker (stored_in name.Alarm past.log) (stored_in name.Alarm past.log + cond (same_name name.Alarm stream) 1 0) (alarms_sent past.ntf) (omega arith) below
alarms-below setup past client seq now (NtfSend notification) below = by_case (is_alarm notification.body) where
  stored : ℕ
  stored = stored_in name.Alarm past.log

  by_case : (alarm : Bool) → HaveNumbersBelow (stored_in name.Alarm past.log + cond (same_name name.Alarm (cond alarm name.Alarm name.Notification)) 1 0) (cond alarm (alarms_sent past.ntf ++ kept_alarm (taken_by (log_setup setup) past.log (cond alarm name.Alarm name.Notification)) (accepted_notification past now notification) ∷ []) (alarms_sent past.ntf))
  by_case true =
      HaveNumbersBelow-push (stored_in name.Alarm past.log + 1) (alarms_sent past.ntf) (kept_alarm (taken_by (log_setup setup) past.log name.Alarm) (accepted_notification past now notification))
      (HaveNumbersBelow-weaker (stored_in name.Alarm past.log) (stored_in name.Alarm past.log + 1) (alarms_sent past.ntf) (omega arith) below)
      (omega (arith, taken-alarm (log_setup setup) past.log))
  by_case false = HaveNumbersBelow-weaker (stored_in name.Alarm past.log) (stored_in name.Alarm past.log + 0) (alarms_sent past.ntf) (omega arith) below
alarms-below setup past client seq now _ below = below

-- the keys of a client's subscriptions are numbers of its calls

abbrev pub KeysBelow : List NtfChange → List Entry → Type 0
KeysBelow past entries = (client key : ℕ) → is_known past client key ≡ true → key < next_number client entries

next-number : (client other seq : ℕ) (now : ℤ) (call : Call) (entries : List Entry) → next_number other entries ≤ next_number other (Called client seq now call ∷ entries)
next-number client other seq now call entries = by_case (client == other) where
  by_case : (mine : Bool) → length (calls_of other entries) + 1 ≤ length (cond mine (call ∷ calls_of other entries) (calls_of other entries)) + 1
  by_case true = omega arith
  by_case false = omega arith

next-own : (client seq : ℕ) (now : ℤ) (call : Call) (entries : List Entry) → next_number client (Called client seq now call ∷ entries) ≡ next_number client entries + 1
next-own client seq now call entries =
    let same : (client == client) ≡ true = grind (arith, nat_tests) in
    let e : next_number client (Called client seq now call ∷ entries) ≡ length (call ∷ calls_of client entries) + 1 =
    ap (λ mine. length (cond mine (call ∷ calls_of client entries) (calls_of client entries)) + 1) same in
    omega (arith, e)

keys-called : (setup : Setup) (past : Past) (client seq : ℕ) (now : ℤ) (call : Call) (entries : List Entry) → seq ≡ next_number client entries → KeysBelow past.ntf entries → (other key : ℕ) → is_known (past_after setup past client seq now call status.Ok).ntf other key ≡ true → key < next_number other (Called client seq now call ∷ entries)
keys-called setup past client seq now (NtfSubscribe id filters) entries next before other key known = by_case (client == other && seq == key) refl known where
  by_case : (mine : Bool) → (client == other && seq == key) ≡ mine → (mine || is_known past.ntf other key) ≡ true → key < next_number other (Called client seq now (NtfSubscribe id filters) ∷ entries)
  by_case true is known_now =
      let same = pair_same client seq other key is in
      let own : next_number other (Called client seq now (NtfSubscribe id filters) ∷ entries) ≡ next_number client entries + 1 =
      ap (λ c. next_number c (Called client seq now (NtfSubscribe id filters) ∷ entries)) (sym same.0) ∙ next-own client seq now (NtfSubscribe id filters) entries in
      omega (arith, own, same.1, next)
  by_case false is known_before =
      omega (arith, before other key known_before, next-number client other seq now (NtfSubscribe id filters) entries)
keys-called setup past client seq now call entries next before other key known =
    omega (arith, before other key known, next-number client other seq now call entries)

keys-refused : (past : List NtfChange) (client seq : ℕ) (now : ℤ) (call : Call) (entries : List Entry) → KeysBelow past entries → KeysBelow past (Called client seq now call ∷ entries)
keys-refused past client seq now call entries before other key known =
    omega (arith, before other key known, next-number client other seq now call entries)

-- the number of a client's next call is that of no subscription
unknown : (past : List NtfChange) (entries : List Entry) (client seq : ℕ) → KeysBelow past entries → seq ≡ next_number client entries → is_known past client seq ≡ false
unknown past entries client seq below next = by_case (is_known past client seq) refl where
  by_case : (b : Bool) → is_known past client seq ≡ b → b ≡ false
  by_case true is = absurd (omega (arith, below client seq is, next))
  by_case false is = refl

-- what holds after a history
pub record HasPossible (setup : Setup) (entries : List Entry) (past : Past) : Type 0 where
  pub log : IsLogHistory (log_setup setup) past.log
  pub ntf : ArePossible past.ntf
  pub alarms : HaveNumbersBelow (stored_in name.Alarm past.log) (alarms_sent past.ntf)
  pub keys : KeysBelow past.ntf entries
  pub log_count : length past.log ≤ length entries
  pub ntf_count : length past.ntf ≤ length entries

log-count : (setup : Setup) (past : Past) (client seq : ℕ) (now : ℤ) (call : Call) → length (past_after setup past client seq now call status.Ok).log ≤ length past.log + 1
log-count setup past client seq now LogInit = omega arith
log-count setup past client seq now (LogWrite stream invocation flags time header body) =
    by_case (is_filtered (mark_after past.log stream).mask header) where
      by_case : (filtered : Bool) → length (cons_option (cond filtered None (Some (log.Stored stream (record_at time header body now) (second_of now)))) past.log) ≤ length past.log + 1
      by_case true = omega arith
      by_case false = omega arith
log-count setup past client seq now call = omega arith

ntf-count : (setup : Setup) (past : Past) (client seq : ℕ) (now : ℤ) (call : Call) → length (past_after setup past client seq now call status.Ok).ntf ≤ length past.ntf + 1
ntf-count setup past client seq now LogInit = omega arith
ntf-count setup past client seq now call = omega arith

pub call-possible : (setup : Setup) (entries : List Entry) (past : Past) (client seq : ℕ) (now : ℤ) (call : Call) → HasPossible setup entries past → length entries < 4000000000 → seq ≡ next_number client entries → HasPossible setup (Called client seq now call ∷ entries) (past_after setup past client seq now call (status_of setup past client now call))
call-possible setup entries past client seq now call before few next =
    past_after-by (HasPossible setup (Called client seq now call ∷ entries)) setup past client seq now call (status_of setup past client now call)
    (record {
      log = before.log;
      ntf = before.ntf;
      alarms = before.alarms;
      keys = keys-refused past.ntf client seq now call entries before.keys;
      log_count = omega (arith, before.log_count);
      ntf_count = omega (arith, before.ntf_count);
    })
    (λ ok. record {
      log = log-follows setup past client seq now call before.log ok;
      ntf = ntf-follows setup past client seq now call before.ntf (omega (arith, before.log_count, few)) before.alarms (unknown past.ntf entries client seq before.keys next) ok;
      alarms = alarms-below setup past client seq now call before.alarms;
      keys = keys-called setup past client seq now call entries next before.keys;
      log_count = omega (arith, before.log_count, log-count setup past client seq now call);
      ntf_count = omega (arith, before.ntf_count, ntf-count setup past client seq now call);
    })

-- **in a history each change could follow those before it**
pub possible : (setup : Setup) (entries : List Entry) → IsHistory setup entries → HasPossible setup entries (past_of setup entries)
possible setup [] history = record {
  log = history.streams;
  ntf = tt;
  alarms = tt;
  keys = λ client key known. cc;
  log_count = omega arith;
  ntf_count = omega arith;
}
possible setup (Called client seq now call ∷ entries) history =
    call-possible setup entries (past_of setup entries) client seq now call (possible setup entries history.1) history.0.0.few history.0.1
possible setup (Receipted client key through now ∷ entries) history =
    let before = possible setup entries history.1 in
    record {
      log = before.log;
      ntf = (tt, before.ntf);
      alarms = before.alarms;
      keys = before.keys;
      log_count = omega (arith, before.log_count);
      ntf_count = omega (arith, before.ntf_count);
    }
