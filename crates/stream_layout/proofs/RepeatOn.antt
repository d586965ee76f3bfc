-- The deeds of an event, performed after attempts that broke off, leave what they would have left at once.
use Rattle.std.proofs.Common.{◌≡◌, ◌≢◌, ℕ, ◌≤◌, ℤ, ◌<ℤ◌, true, List, [], ◌∷◌, ◌++◌, length, Some, None, is_some, refl, sym, ap, subst, ◌∙◌, inl, inr}
use Rattle.std.specs.List.{All}
use Rattle.std.specs.FinMap.{get}
use Rattle.std.proofs.lemmas.Bool.{cases_lt, and_parts}
use Rattle.std.proofs.lemmas.List.Elements.{All-head}
use Rattle.disk_model.specs.Disk.{Files, settled_file}
use Rattle.disk_model.specs.DeviceCalls.{DeviceCall, all_applied, CallWrite, CallSync}
use Rattle.stream_config.specs.declared.attrs.StreamAttrs.{StreamAttrs}
use Rattle.stream_config.specs.declared.state.LogFile.{LogFile}
use Rattle.stream_config.specs.declared.state.StreamState.{StreamState}
use Rattle.stream_config.specs.declared.event.Stamps.{Stamps}
use Rattle.stream_config.specs.declared.event.StreamEvent.{StreamEvent}
use Rattle.stream_config.specs.declared.event.StreamEvent.TheVariants.{Made, Stored, Ended}
use Rattle.stream_config.specs.Events.{open_file, file_closed, last_closed, next_offset}
use Rattle.stream_config.specs.Fit.{stamps_of, rises, is_last_open}
use Rattle.stream_layout.specs.declared.deed.Deed.{Deed}
use Rattle.stream_layout.specs.declared.deed.Deed.TheVariants.{Create, Write, Rename}
use Rattle.stream_layout.specs.Names.{log_name, cfg_name}
use Rattle.stream_layout.specs.LogFiles.{log_entries}
use Rattle.stream_layout.specs.Deeds.{calls_of_all, current_file, deeds_of}
use Rattle.stream_layout.specs.Carrying.{IsFitStored, IsFitEvent, AreRecordsOf, Stand}
use Rattle.stream_layout.specs.Inside.{oldest_closed}
use Rattle.stream_layout.specs.Repeating.{AllSettled, Attempted, RepeatSafely}
use Rattle.stream_config.specs.Cfg.{cfg_of}
use Rattle.stream_layout.proofs.CarryLaws.{added}
use Rattle.stream_layout.proofs.CurrentFile.{has_current, unlike, current_file-append, last_closed-append, last_made, behind_front}
use Rattle.stream_layout.proofs.DeedLaws.{some_files, none_goes, oldest_goes, current_stamps}
use Rattle.stream_layout.proofs.EventLaws.{offset_at, stored_stands}
use Rattle.stream_layout.proofs.NameLaws.{created_apart, closed_apart}
use Rattle.stream_layout.proofs.RepeatLaws.{changing, rotating, made_again, ended_again, changed_again, rotated_again}
use Rattle.stream_layout.proofs.WriteAgain.{written_once_more}
use Rattle.ais_values.proofs.Basics.{none_from}

-- the current file is not closed, and the oldest is once the current one is
pub current_open : (files : List LogFile) → is_last_open files ≡ true → (current_file files).closed ≡ None
current_open [] is = cc
current_open (file ∷ []) is = none_from file.closed is
current_open (file ∷ next ∷ files) is = current_open (next ∷ files) (and_parts (is_some file.closed) (is_last_open (next ∷ files)) is).1

pub oldest_shut : (closed : ℤ) (files : List LogFile) → is_last_open files ≡ true → is_some (oldest_closed closed files).closed ≡ true
oldest_shut closed [] is = cc
oldest_shut closed (file ∷ []) is = refl
oldest_shut closed (file ∷ next ∷ files) is = (and_parts (is_some file.closed) (is_last_open (next ∷ files)) is).0

-- the new file is made later than the current one
pub made_later : (files : List LogFile) (stamps : Stamps) → is_last_open files ≡ true → rises (stamps_of (last_closed stamps.closed files ++ open_file stamps.created ∷ [])) ≡ true
    → (current_file files).created <ℤ stamps.created
made_later files stamps is rising =
    let found = has_current files is in
    let shut = file_closed stamps.closed found.current in
    let all = last_made (last_closed stamps.closed files) (open_file stamps.created) rising in
    let split = ap (last_closed stamps.closed) found.whole ∙ last_closed-append stamps.closed found.front found.current in
    let P : LogFile → Type 0 = λ (file : LogFile). file.created <ℤ stamps.created in
    let last = All-head P shut [] (behind_front P found.front (shut ∷ []) (subst (All P) split all)) in
    let same = ap current_file found.whole ∙ current_file-append found.front found.current in
    subst P (sym same) last

-- a record goes to the current file
stored_again : (state : StreamState) (bytes : List ℕ) (records : List (List ℕ)) (files left : Files) (attempts : ℕ) → IsFitStored state bytes None → AreRecordsOf state records
    → Stand (log_entries state.attrs records state.files) files → AllSettled files
    → Attempted (CallWrite (log_name state.attrs (current_file state.files)) (next_offset state) bytes ∷ CallSync (log_name state.attrs (current_file state.files)) ∷ []) attempts files left
    → all_applied (CallWrite (log_name state.attrs (current_file state.files)) (next_offset state) bytes ∷ CallSync (log_name state.attrs (current_file state.files)) ∷ []) left
    ≡ all_applied (CallWrite (log_name state.attrs (current_file state.files)) (next_offset state) bytes ∷ CallSync (log_name state.attrs (current_file state.files)) ∷ []) files
stored_again state bytes records files left attempts fit are stand settled tried =
    let attrs = state.attrs in
    let found = has_current state.files fit.stream.standing.last_open in
    let adds = added state bytes records fit.stream are fit.size found in
    let P : List LogFile → Type 0 = λ fs. Stand (log_entries attrs records fs) files
    → (whole : List ℕ) × (get files (log_name attrs (current_file fs)) ≡ Some (settled_file whole)) × (offset_at attrs (length records) (current_file fs).bytes ≤ length whole) in
    let held = subst P (sym found.whole) (λ stand. stored_stands attrs found.front found.current records bytes state.opened files adds stand) stand in
    let within : next_offset state ≤ length held.0 = subst (λ taken. offset_at attrs taken (current_file state.files).bytes ≤ length held.0) are.count held.2 in
    written_once_more (next_offset state) bytes held.0 within (log_name attrs (current_file state.files)) attempts files left held.1 settled tried

-- the file changes before a record

-- the calls, by what is removed
abbrev calls_for : StreamAttrs → LogFile → Stamps → List ℕ → List Deed → List DeviceCall
calls_for attrs current stamps bytes gone =
    calls_of_all (Rename (log_name attrs current) (log_name attrs (file_closed stamps.closed current))
    ∷ Create (log_name attrs (open_file stamps.created)) ∷ (gone ++ Write (log_name attrs (open_file stamps.created)) 0 bytes ∷ []))

-- **whatever holds of both lists of calls by which a file can change holds of that by which it does**
pub change_calls : (P : List DeviceCall → Type 0) (state : StreamState) (bytes : List ℕ) (stamps : Stamps) → is_last_open state.files ≡ true
    → P (changing (log_name state.attrs (current_file state.files)) (log_name state.attrs (file_closed stamps.closed (current_file state.files))) (log_name state.attrs (open_file stamps.created)) bytes)
    → P (rotating (log_name state.attrs (current_file state.files)) (log_name state.attrs (file_closed stamps.closed (current_file state.files))) (log_name state.attrs (open_file stamps.created)) (log_name state.attrs (oldest_closed stamps.closed state.files)) bytes)
    → P (calls_of_all (deeds_of (Stored state bytes (Some stamps))))
unfolding deeds_of
change_calls P state bytes stamps opened changes rotates =
    let attrs = state.attrs in
    let Q : List Deed → Type 0 = λ gone. P (calls_for attrs (current_file state.files) stamps bytes gone) in
    elim (cases_lt (length state.files) attrs.rotated) [
      | inl few ↦ subst Q (sym (none_goes attrs state.files stamps few)) changes
      | inr full ↦ subst Q (sym (oldest_goes attrs state.files stamps (some_files state.files opened) full)) rotates
    ]

-- the names in them differ
pub record ChangeNames (state : StreamState) (stamps : Stamps) : Type 0 where
  pub from_to : log_name state.attrs (current_file state.files) ≢ log_name state.attrs (file_closed stamps.closed (current_file state.files))
  pub from_new : log_name state.attrs (current_file state.files) ≢ log_name state.attrs (open_file stamps.created)
  pub from_gone : log_name state.attrs (current_file state.files) ≢ log_name state.attrs (oldest_closed stamps.closed state.files)
  pub new_gone : log_name state.attrs (open_file stamps.created) ≢ log_name state.attrs (oldest_closed stamps.closed state.files)
  pub to_new : log_name state.attrs (file_closed stamps.closed (current_file state.files)) ≢ log_name state.attrs (open_file stamps.created)

pub change_names : (state : StreamState) (bytes : List ℕ) (stamps : Stamps) → IsFitStored state bytes (Some stamps)
    → rises (stamps_of (last_closed stamps.closed state.files ++ open_file stamps.created ∷ [])) ≡ true → ChangeNames state stamps
change_names state bytes stamps fit rising =
    let attrs = state.attrs in
    let stands = fit.stream.standing in
    let current = current_file state.files in
    let shut = file_closed stamps.closed current in
    let fresh = open_file stamps.created in
    let oldest = oldest_closed stamps.closed state.files in
    let opened = current_open state.files stands.last_open in
    let closed = oldest_shut stamps.closed state.files stands.last_open in
    let stamp = (current_stamps state.files fit.stream.stamps (some_files state.files stands.last_open)).created in
    record {
      from_to = λ same. closed_apart attrs shut current refl opened (sym same);
      from_new = created_apart attrs current fresh stamp fit.new_stamps.1 (unlike current.created stamps.created (made_later state.files stamps stands.last_open rising));
      from_gone = λ same. closed_apart attrs oldest current closed opened (sym same);
      new_gone = λ same. closed_apart attrs oldest fresh closed refl (sym same);
      to_new = closed_apart attrs shut fresh refl refl;
    }

abbrev DoneAgain : List DeviceCall → ℕ → Files → Files → Type 0
DoneAgain calls attempts files left = AllSettled files → Attempted calls attempts files left → all_applied calls left ≡ all_applied calls files

stamped_again : (state : StreamState) (bytes : List ℕ) (stamps : Stamps) (files left : Files) (attempts : ℕ) → IsFitStored state bytes (Some stamps)
    → rises (stamps_of (last_closed stamps.closed state.files ++ open_file stamps.created ∷ [])) ≡ true
    → DoneAgain (calls_of_all (deeds_of (Stored state bytes (Some stamps)))) attempts files left
stamped_again state bytes stamps files left attempts fit rising =
    let attrs = state.attrs in
    let from = log_name attrs (current_file state.files) in
    let to = log_name attrs (file_closed stamps.closed (current_file state.files)) in
    let fresh = log_name attrs (open_file stamps.created) in
    let names = change_names state bytes stamps fit rising in
    change_calls (λ calls. DoneAgain calls attempts files left) state bytes stamps fit.stream.standing.last_open
    (changed_again from to fresh bytes attempts files left names.from_to names.from_new)
    (rotated_again from to fresh (log_name attrs (oldest_closed stamps.closed state.files)) bytes attempts files left names.from_to names.from_new names.from_gone names.new_gone)

pub repeat_on : (event : StreamEvent) → IsFitEvent event → RepeatSafely event (deeds_of event)
unfolding deeds_of
repeat_on (Made state) fit records files left attempts are stand settled later tried =
    made_again (cfg_name state.attrs) (log_name state.attrs (current_file state.files)) (cfg_of state.name state.attrs) attempts files left settled tried
repeat_on (Stored before bytes None) fit records files left attempts are stand settled later tried =
    stored_again before bytes records files left attempts fit are stand settled tried
repeat_on (Stored before bytes (Some stamps)) fit records files left attempts are stand settled later tried =
    stamped_again before bytes stamps files left attempts fit later settled tried
repeat_on (Ended before closed) fit records files left attempts are stand settled later tried =
    let current = current_file before.files in
    ended_again (log_name before.attrs current) (log_name before.attrs (file_closed closed current)) attempts files left
    (λ same. closed_apart before.attrs (file_closed closed current) current refl (current_open before.files fit.stream.standing.last_open) (sym same)) settled tried
