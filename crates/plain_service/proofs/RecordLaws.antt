-- The record of each call that was answered as stored stands at its place, with its bytes, while it has one.
use Rattle.std.proofs.Common.{◌≡◌, ℕ, ◌+◌, ◌<◌, ◌≤◌, ◌==◌, Bool, true, false, ◌&&◌, cond, List, [], ◌∷◌, ◌++◌, length, refl, ap, sym, ◌∙◌, subst, arith}
use Rattle.std.specs.Prelude.{Option, Some, None, option_map, ℤ}
use Rattle.std.specs.List.{cons_option}
use Rattle.std.proofs.lemmas.Bool.{and_parts, eqb-true}
use Rattle.std.proofs.lemmas.Bool.Decides.{nat_tests}
use Rattle.ais_values.specs.declared.status.Status.{Status}
use Rattle.ais_values.specs.declared.status.Status.TheVariants as status
use Rattle.calls.specs.declared.call.Call.{Call}
use Rattle.calls.specs.declared.call.Call.TheVariants.{LogWrite, NtfSend}
use Rattle.calls.specs.declared.reply.Reply.TheVariants.{Marked}
use Rattle.calls.specs.declared.reply.Reply.{Reply}
use Rattle.calls.specs.declared.entry.Entry.{Entry}
use Rattle.calls.specs.declared.entry.Entry.TheVariants.{Called, Receipted}
use Rattle.stream_config.specs.declared.mark.Mark.{Mark}
use Rattle.log_history.specs.Changes.{LogChange, Stored}
use Rattle.log_history.specs.Chronicle.{LogSetup, Stream, chronicle}
use Rattle.log_history.specs.Answers.{living_stream}
use Rattle.log_history.specs.Legal.{IsLogHistory}
use Rattle.log_history.specs.Places.{record_in, stream_number}
use Rattle.log_history.specs.Table.{state_of, bytes_in}
use Rattle.log_history.specs.Marks.{is_filtered, mark_after}
use Rattle.log_history.specs.Times.{record_at, second_of}
use Rattle.log_history.proofs.RecordLaws.{record-stands, record-kept, record-stored, record-new, record-apart}
use Rattle.log_history.proofs.StampLaws.{stamp-room}
use Rattle.plain_service.specs.Setups.{Setup, log_setup}
use Rattle.plain_service.specs.Pasts.{Past}
use Rattle.plain_service.specs.Alarms.{accepted_notification, stream_for, record_for}
use Rattle.plain_service.specs.Changing.{log_change, if_ok, past_of}
use Rattle.plain_service.specs.Legal.{IsHistory}
use Rattle.plain_service.specs.Answers.{status_of}
use Rattle.plain_service.specs.Replies.{reply_of, reply_by, ok_reply, calls_of, next_number}
use Rattle.plain_service.specs.Storing.{files_of, log_change_by}
use Rattle.plain_service.specs.Records.{StoredRecord, next_record, record_by, record_of, place_of, IsAt, is_stored}
use Rattle.plain_service.proofs.HistoryEvents.{timely, starts-early}
use Rattle.plain_service.proofs.Possible.{possible}
use Rattle.ais_values.proofs.Basics.{some_of}

-- the last stamp of a history can be shown in names
last-shown : (setup : Setup) (entries : List Entry) → IsHistory setup entries → (chronicle (log_setup setup) (past_of setup entries).log).last ≤ 20000000100
last-shown setup entries history =
    let log = (past_of setup entries).log in
    let count = (possible setup entries history).log_count in
    let room = stamp-room (log_setup setup) log (starts-early setup entries history) (timely setup entries history) in
    let few = count-few entries history in
    omega (arith, room.bound, count, few) where
      count-few : (these : List Entry) → IsHistory setup these → length these ≤ 4000000000
      count-few [] is = omega arith
      count-few (Called client seq now call ∷ these) is = omega (arith, is.0.0.few)
      count-few (Receipted client key through now ∷ these) is = omega (arith, is.0.0.few)

-- a record of a history is one of its log
kept-option : (setup : LogSetup) (log : List LogChange) (change : Option LogChange) (stored : StoredRecord) → record_in setup log stored.stream stored.number ≡ Some stored.bytes → record_in setup (cons_option change log) stored.stream stored.number ≡ Some stored.bytes
kept-option setup log None stored is = is
kept-option setup log (Some change) stored is = record-kept setup log change stored.stream stored.number stored.bytes is

new-option : (setup : LogSetup) (log : List LogChange) (change : Option LogChange) (stored : StoredRecord) → record_by setup log change ≡ Some stored → record_in setup (cons_option change log) stored.stream stored.number ≡ Some stored.bytes
new-option setup log (Some (Stored name rec second)) stored is = by_case (living_stream setup log name) refl is where
  by_case : (living : Option Stream) → living_stream setup log name ≡ living → option_map (next_record (stream_number setup log name) (λ stream. bytes_in (state_of stream) rec)) living ≡ Some stored → record_in setup (Stored name rec second ∷ log) stored.stream stored.number ≡ Some stored.bytes
  by_case None none same = cc
  by_case (Some stream) found same =
      let e : next_record (stream_number setup log name) (λ s. bytes_in (state_of s) rec) stream ≡ stored = cc in
      subst (λ (one : StoredRecord). record_in setup (Stored name rec second ∷ log) one.stream one.number ≡ Some one.bytes) e
      (record-stored setup log name rec second stream found)
new-option setup log _ stored is = cc

-- **the record of a call is one of its stream's, under its number and with its bytes**
pub record-is : (setup : Setup) (entries : List Entry) (client number : ℕ) (stored : StoredRecord) → record_of setup entries client number ≡ Some stored → record_in (log_setup setup) (past_of setup entries).log stored.stream stored.number ≡ Some stored.bytes
unfolding record_of
record-is setup [] client number stored is = cc
record-is setup (Called caller seq now call ∷ entries) client number stored is =
    by_case (caller == client && seq == number) is (record-is setup entries client number stored) where
      change : Option LogChange
      change = log_change_by setup (past_of setup entries) (Called caller seq now call)

      by_case : (b : Bool) → cond b (record_by (log_setup setup) (past_of setup entries).log (log_change_by setup (past_of setup entries) (Called caller seq now call))) (record_of setup entries client number) ≡ Some stored → (record_of setup entries client number ≡ Some stored → record_in (log_setup setup) (past_of setup entries).log stored.stream stored.number ≡ Some stored.bytes) → record_in (log_setup setup) (past_of setup (Called caller seq now call ∷ entries)).log stored.stream stored.number ≡ Some stored.bytes
      by_case true new behind =
          new-option (log_setup setup) (past_of setup entries).log (log_change_by setup (past_of setup entries) (Called caller seq now call)) stored new
      by_case false old behind =
          kept-option (log_setup setup) (past_of setup entries).log (log_change_by setup (past_of setup entries) (Called caller seq now call)) stored (behind old)
record-is setup (Receipted caller key through now ∷ entries) client number stored is = record-is setup entries client number stored is

-- **a record stands at its place, with its bytes**
pub record-at-place : (setup : Setup) (entries : List Entry) (client number : ℕ) (stored : StoredRecord) (place : List ℕ × ℕ) → IsHistory setup entries → record_of setup entries client number ≡ Some stored → place_of setup entries stored ≡ Some place → IsAt stored place (files_of setup entries)
unfolding place_of files_of
record-at-place setup entries client number stored place history is at =
    record-stands (log_setup setup) (past_of setup entries).log stored.stream stored.number stored.bytes place
    (possible setup entries history).log (last-shown setup entries history) (record-is setup entries client number stored is) at

-- records that were answered as stored

-- a call's number is not above the count of its client's calls
number-low : (setup : Setup) (entries : List Entry) (client number : ℕ) (stored : StoredRecord) → IsHistory setup entries → record_of setup entries client number ≡ Some stored → number < next_number client entries
unfolding record_of
number-low setup [] client number stored history is = cc
number-low setup (Called caller seq now call ∷ entries) client number stored history is =
    by_case (caller == client) refl (seq == number) refl is (number-low setup entries client number stored history.1) where
      by_case : (mine : Bool) → (caller == client) ≡ mine → (b : Bool) → (seq == number) ≡ b → cond (mine && b) (record_by (log_setup setup) (past_of setup entries).log (log_change_by setup (past_of setup entries) (Called caller seq now call))) (record_of setup entries client number) ≡ Some stored → (record_of setup entries client number ≡ Some stored → number < next_number client entries) → number < length (cond mine (call ∷ calls_of client entries) (calls_of client entries)) + 1
      by_case true own true is_number new behind =
          let same = eqb-true seq number is_number in
          let caller_is = eqb-true caller client own in
          let next : seq ≡ next_number client entries = history.0.1 ∙ ap (λ c. next_number c entries) caller_is in
          omega (arith, same, next)
      by_case true own false other old behind = let le = behind old in omega (arith, le)
      by_case false foreign b is_number old behind = behind old
number-low setup (Receipted caller key through now ∷ entries) client number stored history is = number-low setup entries client number stored history.1 is

-- **a record stays that of its call**
pub record-stays : (setup : Setup) (entry : Entry) (entries : List Entry) (client number : ℕ) (stored : StoredRecord) → IsHistory setup (entry ∷ entries) → record_of setup entries client number ≡ Some stored → record_of setup (entry ∷ entries) client number ≡ Some stored
unfolding record_of
record-stays setup (Called caller seq now call) entries client number stored history is =
    by_case (caller == client) refl (seq == number) refl where
      by_case : (mine : Bool) → (caller == client) ≡ mine → (b : Bool) → (seq == number) ≡ b → cond (mine && b) (record_by (log_setup setup) (past_of setup entries).log (log_change_by setup (past_of setup entries) (Called caller seq now call))) (record_of setup entries client number) ≡ Some stored
      by_case true own true is_number =
          let same = eqb-true seq number is_number in
          let caller_is = eqb-true caller client own in
          let next : seq ≡ next_number client entries = history.0.1 ∙ ap (λ c. next_number c entries) caller_is in
          let low = number-low setup entries client number stored history.1 is in
          absurd (omega (arith, same, next, low))
      by_case true own false other = is
      by_case false foreign b is_number = is
record-stays setup (Receipted caller key through now) entries client number stored history is = is

-- what a reply says of the status
stored-ok : (answered : Status) (call : Call) (told : Reply) → is_stored call (reply_by answered told) ≡ true → answered ≡ status.Ok
stored-ok status.Ok call told is = refl
stored-ok _ (LogWrite name invocation flags time header body) told is = cc
stored-ok _ (NtfSend notification) told is = cc
stored-ok _ call told is = cc

-- a call that stores makes a record
record-made : (setup : Setup) (past : Past) (client : ℕ) (now : ℤ) (call : Call) → is_stored call (ok_reply setup past client now call) ≡ true → IsLogHistory (log_setup setup) (cons_option (log_change setup past client now call) past.log) → (stored : StoredRecord) × (record_by (log_setup setup) past.log (log_change setup past client now call) ≡ Some stored)
record-made setup past client now (LogWrite name invocation flags time header body) is legal =
    by_case (is_filtered (mark_after past.log name).mask header) (mark_after (cons_option (log_change setup past client now (LogWrite name invocation flags time header body)) past.log) name) is legal where
      by_case : (filtered : Bool) (mark : Mark) → is_stored (LogWrite name invocation flags time header body) (Marked filtered mark) ≡ true → IsLogHistory (log_setup setup) (cons_option (cond filtered None (Some (Stored name (record_at time header body now) (second_of now)))) past.log) → (stored : StoredRecord) × (record_by (log_setup setup) past.log (cond filtered None (Some (Stored name (record_at time header body now) (second_of now)))) ≡ Some stored)
      by_case true mark stored history = cc
      by_case false mark stored history =
          let living = some_of (living_stream (log_setup setup) past.log name) history.0.0 in
          (_, ap (option_map (next_record (stream_number (log_setup setup) past.log name) (λ stream. bytes_in (state_of stream) (record_at time header body now)))) living.1)
record-made setup past client now (NtfSend notification) is legal =
    let name = stream_for notification.body in
    let living = some_of (living_stream (log_setup setup) past.log name) legal.0.0 in
    (_, ap (option_map (next_record (stream_number (log_setup setup) past.log name) (λ stream. bytes_in (state_of stream) (record_for now (accepted_notification past now notification))))) living.1)
record-made setup past client now call is legal = cc

-- **a call that was answered as stored has a record**
pub record-told : (setup : Setup) (client seq : ℕ) (now : ℤ) (call : Call) (entries : List Entry) → IsHistory setup (Called client seq now call ∷ entries) → is_stored call (reply_of setup entries client now call) ≡ true → (stored : StoredRecord) × (record_of setup (Called client seq now call ∷ entries) client seq ≡ Some stored)
unfolding record_of reply_of
record-told setup client seq now call entries history is =
    let past = past_of setup entries in
    let change = log_change setup past client now call in
    let ok = stored-ok (status_of setup past client now call) call (ok_reply setup past client now call) is in
    let legal : IsLogHistory (log_setup setup) (cons_option (if_ok (status_of setup past client now call) change) past.log) = (possible setup (Called client seq now call ∷ entries) history).log in
    let made = record-made setup past client now call
    (subst (λ answered. is_stored call (reply_by answered (ok_reply setup past client now call)) ≡ true) ok is)
    (subst (λ answered. IsLogHistory (log_setup setup) (cons_option (if_ok answered change) past.log)) ok legal) in
    let own : (client == client && seq == seq) ≡ true = grind (arith, nat_tests) in (
      made.0,
      ap (λ b. cond b (record_by (log_setup setup) past.log (if_ok (status_of setup past client now call) change)) (record_of setup entries client seq)) own
          ∙ ap (λ answered. record_by (log_setup setup) past.log (if_ok answered change)) ok ∙ made.1,
    )

-- **and has it in every longer history**
pub record-told_later : (setup : Setup) (later : List Entry) (client seq : ℕ) (now : ℤ) (call : Call) (entries : List Entry) → IsHistory setup (later ++ Called client seq now call ∷ entries) → is_stored call (reply_of setup entries client now call) ≡ true → (stored : StoredRecord) × (record_of setup (later ++ Called client seq now call ∷ entries) client seq ≡ Some stored)
record-told_later setup [] client seq now call entries history is = record-told setup client seq now call entries history is
record-told_later setup (entry ∷ later) client seq now call entries history is =
    let before = record-told_later setup later client seq now call entries history.1 is in
    (before.0, record-stays setup entry (later ++ Called client seq now call ∷ entries) client seq before.0 history before.1)

-- no two calls have one record

new-none : (setup : LogSetup) (log : List LogChange) (change : Option LogChange) (stored : StoredRecord) → record_by setup log change ≡ Some stored → record_in setup log stored.stream stored.number ≡ None
new-none setup log (Some (Stored name rec second)) stored is = by_case (living_stream setup log name) refl is where
  by_case : (living : Option Stream) → living_stream setup log name ≡ living → option_map (next_record (stream_number setup log name) (λ stream. bytes_in (state_of stream) rec)) living ≡ Some stored → record_in setup log stored.stream stored.number ≡ None
  by_case None none same = cc
  by_case (Some stream) found same =
      let e : next_record (stream_number setup log name) (λ s. bytes_in (state_of s) rec) stream ≡ stored = cc in
      subst (λ (one : StoredRecord). record_in setup log one.stream one.number ≡ None) e (record-new setup log name stream found)
new-none setup log _ stored is = cc

-- a record that is stored is none of those before
not-before : (setup : Setup) (entries : List Entry) (change : Option LogChange) (client number : ℕ) (stored before : StoredRecord) → record_by (log_setup setup) (past_of setup entries).log change ≡ Some stored → record_of setup entries client number ≡ Some before → stored.stream ≡ before.stream → stored.number ≡ before.number → ⊥
not-before setup entries change client number stored before new old streams numbers =
    let log = (past_of setup entries).log in
    let none = new-none (log_setup setup) log change stored new in
    let some = record-is setup entries client number before old in
    let same : record_in (log_setup setup) log stored.stream stored.number ≡ record_in (log_setup setup) log before.stream before.number =
    ap (λ s. record_in (log_setup setup) log s stored.number) streams ∙ ap (λ k. record_in (log_setup setup) log before.stream k) numbers in
    let both : None ≡ Some before.bytes = sym none ∙ same ∙ some in cc

-- **no two calls have one record**
pub record-own : (setup : Setup) (entries : List Entry) (client other number second : ℕ) (stored later : StoredRecord) → record_of setup entries client number ≡ Some stored → record_of setup entries other second ≡ Some later → stored.stream ≡ later.stream → stored.number ≡ later.number → (client ≡ other) × (number ≡ second)
unfolding record_of
record-own setup [] client other number second stored later is is' streams numbers = cc
record-own setup (Called caller seq now call ∷ entries) client other number second stored later is is' streams numbers =
    by_case (caller == client && seq == number) refl (caller == other && seq == second) refl is is' (λ one two. record-own setup entries client other number second stored later one two streams numbers) where
      by_case : (b : Bool) → (caller == client && seq == number) ≡ b → (d : Bool) → (caller == other && seq == second) ≡ d → cond b (record_by (log_setup setup) (past_of setup entries).log (log_change_by setup (past_of setup entries) (Called caller seq now call))) (record_of setup entries client number) ≡ Some stored → cond d (record_by (log_setup setup) (past_of setup entries).log (log_change_by setup (past_of setup entries) (Called caller seq now call))) (record_of setup entries other second) ≡ Some later → (record_of setup entries client number ≡ Some stored → record_of setup entries other second ≡ Some later → (client ≡ other) × (number ≡ second)) → (client ≡ other) × (number ≡ second)
      by_case true own true own' one two behind =
          let parts = and_parts (caller == client) (seq == number) own in
          let parts' = and_parts (caller == other) (seq == second) own' in
          (sym (eqb-true caller client parts.0) ∙ eqb-true caller other parts'.0, sym (eqb-true seq number parts.1) ∙ eqb-true seq second parts'.1)
      by_case true own false own' one two behind =
          absurd (not-before setup entries (log_change_by setup (past_of setup entries) (Called caller seq now call)) other second stored later one two streams numbers)
      by_case false own true own' one two behind =
          absurd (not-before setup entries (log_change_by setup (past_of setup entries) (Called caller seq now call)) client number later stored two one (sym streams) (sym numbers))
      by_case false own false own' one two behind = behind one two
record-own setup (Receipted caller key through now ∷ entries) client other number second stored later is is' streams numbers =
    record-own setup entries client other number second stored later is is' streams numbers

-- **no two calls have records at one place**
pub record-alone : (setup : Setup) (entries : List Entry) (client other number second : ℕ) (stored later : StoredRecord) (place : List ℕ × ℕ) → IsHistory setup entries → record_of setup entries client number ≡ Some stored → record_of setup entries other second ≡ Some later → place_of setup entries stored ≡ Some place → place_of setup entries later ≡ Some place → (client ≡ other) × (number ≡ second)
unfolding place_of
record-alone setup entries client other number second stored later place history is is' at at' =
    let same = record-apart (log_setup setup) (past_of setup entries).log stored.stream later.stream stored.number later.number place (possible setup entries history).log (last-shown setup entries history) at at' in
    record-own setup entries client other number second stored later is is' same.0 same.1
