-- The first record of the alarm stream that stands never falls.
use Rattle.std.proofs.Common.{◌≡◌, ℕ, ◌≤◌, List, ◌∷◌, refl, ap, sym, ◌∙◌, subst, arith}
use Rattle.std.specs.Prelude.{Option, Some, None}
use Rattle.std.specs.Option.{option_map_or}
use Rattle.std.specs.List.{cons_option}
use Rattle.stream_config.specs.declared.attrs.StreamName.TheVariants as name
use Rattle.stream_config.specs.Fit.{first_standing as standing_of}
use Rattle.record_print.specs.declared.record.LogRecord.{LogRecord}
use Rattle.calls.specs.declared.entry.Entry.{Entry}
use Rattle.calls.specs.declared.entry.Entry.TheVariants.{Called, Receipted}
use Rattle.stream_layout.proofs.FitSteps as steps
use Rattle.log_history.specs.Changes.{LogChange, Began, Opened, Stored, Filtered, Closed, Ended}
use Rattle.log_history.specs.Chronicle.{Stream, with_record, chronicle}
use Rattle.log_history.specs.Legal.{IsLogHistory}
use Rattle.log_history.specs.Places.{first_of}
use Rattle.log_history.specs.Table.{state_of, bytes_in, due_stamps}
use Rattle.log_history.proofs.FirstLaws.{Each}
use Rattle.log_history.proofs.Reaching.{Passes, reached}
use Rattle.log_history.proofs.SoundStreams.{sound}
use Rattle.log_history.proofs.StepLaws.{state-recorded}
use Rattle.log_history.proofs.StreamLaws.{IsSoundStream}
use Rattle.plain_service.specs.Setups.{Setup, log_setup}
use Rattle.plain_service.specs.Alarms.{first_standing}
use Rattle.plain_service.specs.Answers.{status_of}
use Rattle.plain_service.specs.Changing.{log_change, past_of}
use Rattle.plain_service.specs.Legal.{IsHistory}
use Rattle.plain_service.proofs.WellKnown.{stored_in, well_known, alarm-stored, alarm-beside, living-alarm}
use Rattle.plain_service.proofs.Possible.{past_after-by, possible}

-- it is that of the alarm stream
pub first-alarm : (setup : Setup) (past : List LogChange) → first_standing setup past ≡ first_of (well_known (log_setup setup) past).alarm
first-alarm setup past = ap (λ found. option_map_or first_of found 0) (living-alarm (log_setup setup) past)

first-recorded : (last top second : ℕ) (rec : LogRecord) (stream : Stream) → Passes stream → stream.ended ≡ None → IsSoundStream last stream → first_of stream ≤ first_of (with_record top second rec stream)
first-recorded last top second rec stream passes living is =
    subst (λ after. standing_of (state_of stream) ≤ standing_of after)
    (sym (state-recorded top second rec stream passes.sizes passes.some_rotated living is.count))
    (steps.first-grows (state_of stream) (bytes_in (state_of stream) rec) (due_stamps top second rec (state_of stream)) (is.fit living))

same : (number : ℕ) → number ≤ number
same number = omega arith

-- where it takes no record
pub first-beside : (setup : Setup) (change : LogChange) (past : List LogChange) → stored_in name.Alarm (change ∷ past) ≡ stored_in name.Alarm past → first_standing setup (change ∷ past) ≡ first_standing setup past
first-beside setup change past beside =
    first-alarm setup (change ∷ past) ∙ ap first_of (alarm-beside (log_setup setup) change past beside) ∙ sym (first-alarm setup past)

beside : (setup : Setup) (change : LogChange) (past : List LogChange) → stored_in name.Alarm (change ∷ past) ≡ stored_in name.Alarm past → first_standing setup past ≤ first_standing setup (change ∷ past)
beside setup change past none = let stays = first-beside setup change past none in omega (arith, stays)

-- **one more change removes records, and brings none back**
pub first-grows : (setup : Setup) (change : LogChange) (past : List LogChange) → IsLogHistory (log_setup setup) past → first_standing setup past ≤ first_standing setup (change ∷ past)
first-grows setup (Stored name.Alarm rec second) past legal =
    let own = log_setup setup in
    let well = well_known own past in
    let last = (chronicle own past).last in
    let each = subst (Each (IsSoundStream last)) well.are (sound own past legal) in
    let passing = subst (Each Passes) well.are (reached own past legal).passing in
    let grown = first-recorded last last second rec well.alarm passing.0 well.alarm_is.living each.0 in
    let now = first-alarm setup (Stored name.Alarm rec second ∷ past) ∙ ap first_of (alarm-stored own rec second past) in
    omega (arith, grown, first-alarm setup past, now)
first-grows setup (Stored name.Notification rec second) past legal = beside setup (Stored name.Notification rec second) past (omega arith)
first-grows setup (Stored name.System rec second) past legal = beside setup (Stored name.System rec second) past (omega arith)
first-grows setup (Stored (name.App own) rec second) past legal = beside setup (Stored (name.App own) rec second) past (omega arith)
first-grows setup (Opened client opened making second number) past legal = beside setup (Opened client opened making second number) past refl
first-grows setup (Filtered client name mask number) past legal = beside setup (Filtered client name mask number) past refl
first-grows setup (Began client) past legal = beside setup (Began client) past refl
first-grows setup (Closed client closed second) past legal = beside setup (Closed client closed second) past refl
first-grows setup (Ended client second) past legal = beside setup (Ended client second) past refl

first-option : (setup : Setup) (change : Option LogChange) (past : List LogChange) → IsLogHistory (log_setup setup) past → first_standing setup past ≤ first_standing setup (cons_option change past)
first-option setup None past legal = same (first_standing setup past)
first-option setup (Some change) past legal = first-grows setup change past legal

pub first-later : (setup : Setup) (entry : Entry) (entries : List Entry) → IsHistory setup entries → first_standing setup (past_of setup entries).log ≤ first_standing setup (past_of setup (entry ∷ entries)).log
first-later setup (Called client seq now call) entries history =
    past_after-by (λ after. first_standing setup (past_of setup entries).log ≤ first_standing setup after.log) setup (past_of setup entries) client seq now call (status_of setup (past_of setup entries) client now call)
    (same (first_standing setup (past_of setup entries).log))
    (λ ok. first-option setup (log_change setup (past_of setup entries) client now call) (past_of setup entries).log (possible setup entries history).log)
first-later setup (Receipted client key through now) entries history = same (first_standing setup (past_of setup entries).log)
