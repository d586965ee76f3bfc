-- The deeds of what happens to one stream, made again after any attempts, leave what they would have left at once.
use Rattle.std.proofs.Common.{◌≡◌, ℕ, ◌<◌, ◌≤◌, true, ◌&&◌, List, [], ◌∷◌, ◌++◌, length, sym, ap, subst, ◌∙◌}
use Rattle.std.specs.Prelude.{ℤ, pos, int_lt, Some, None}
use Rattle.std.specs.List.{AllByRecursion}
use Rattle.std.specs.FinMap.{get}
use Rattle.std.proofs.lemmas.Bool.{and_parts, lt-ltb}
use Rattle.disk_model.specs.Disk.{Files, settled_file}
use Rattle.stream_config.specs.declared.event.Stamps.{Stamps}
use Rattle.stream_config.specs.declared.event.StreamEvent.TheVariants.{Made, Stored}
use Rattle.stream_config.specs.declared.state.LogFile.{LogFile}
use Rattle.stream_config.specs.declared.state.StreamState.{StreamState}
use Rattle.stream_config.specs.Cfg.{cfg_of}
use Rattle.stream_config.specs.Events.{open_file, file_closed, last_closed, next_offset}
use Rattle.stream_config.specs.Fit.{stamps_of, rises}
use Rattle.stream_layout.specs.Carrying.{IsFitStored, AreRecordsOf, Stand}
use Rattle.stream_layout.specs.Deeds.{calls_of_all, current_file, deeds_of}
use Rattle.stream_layout.specs.Inside.{oldest_closed}
use Rattle.stream_layout.specs.LogFiles.{log_entries}
use Rattle.stream_layout.specs.Names.{log_name, cfg_name}
use Rattle.stream_layout.proofs.CarryLaws.{added}
use Rattle.stream_layout.proofs.CurrentFile.{has_current, stamps-closed}
use Rattle.stream_layout.proofs.EventLaws.{offset_at, stored_stands}
use Rattle.stream_layout.proofs.RepeatOn.{change_calls, change_names}
use Rattle.log_history.specs.Chronicle.{Stream}
use Rattle.log_history.specs.Stamps.{IsStampUpTo}
use Rattle.log_history.specs.Table.{state_of}
use Rattle.log_history.proofs.StreamLaws.{IsSoundStream, fit-stamps, up-to-lt}
use Rattle.plain_service.proofs.ListLaws.{each-weaker}
use Rattle.service_laws.proofs.Attempting.{IsRepeatable}
use Rattle.service_laws.proofs.DoneAgain.{Reaches, made-repeatable, changed-repeatable, rotated-repeatable, written-repeatable}

-- a stream is made
pub made-again : (state : StreamState) (files : Files) → IsRepeatable (calls_of_all (deeds_of (Made state))) files
unfolding deeds_of
made-again state files =
    made-repeatable (cfg_name state.attrs) (log_name state.attrs (current_file state.files)) (cfg_of state.name state.attrs) files

-- a record goes to the current file, which reaches to its place
reaches-current : (state : StreamState) (bytes : List ℕ) (records : List (List ℕ)) (files : Files) → IsFitStored state bytes None → AreRecordsOf state records → Stand (log_entries state.attrs records state.files) files → Reaches (log_name state.attrs (current_file state.files)) (next_offset state) files
reaches-current state bytes records files fit are stand =
    let attrs = state.attrs in
    let found = has_current state.files fit.stream.standing.last_open in
    let adds = added state bytes records fit.stream are fit.size found in
    let P : List LogFile → Type 0 = λ fs. Stand (log_entries attrs records fs) files
    → (whole : List ℕ) × (get files (log_name attrs (current_file fs)) ≡ Some (settled_file whole)) × (offset_at attrs (length records) (current_file fs).bytes ≤ length whole) in
    let held = subst P (sym found.whole) (λ stands. stored_stands attrs found.front found.current records bytes state.opened files adds stands) stand in
    let within : next_offset state ≤ length held.0 = subst (λ taken. offset_at attrs taken (current_file state.files).bytes ≤ length held.0) are.count held.2 in
    (held.0, held.1, within)

pub stored-again : (state : StreamState) (bytes : List ℕ) (records : List (List ℕ)) (files : Files) → IsFitStored state bytes None → AreRecordsOf state records → Stand (log_entries state.attrs records state.files) files → IsRepeatable (calls_of_all (deeds_of (Stored state bytes None))) files
unfolding deeds_of
stored-again state bytes records files fit are stand =
    written-repeatable (log_name state.attrs (current_file state.files)) (next_offset state) bytes files (reaches-current state bytes records files fit are stand)

-- the stamps of the files with the current one closed and a new one behind it

rises-further : (stamps : List ℤ) (closing created : ℤ) → rises stamps ≡ true → AllByRecursion (λ stamp. int_lt stamp closing ≡ true) stamps → int_lt closing created ≡ true → rises (stamps ++ closing ∷ created ∷ []) ≡ true
rises-further [] closing created up below later = both later where
  both : int_lt closing created ≡ true → (int_lt closing created && true) ≡ true
  both is = ap (λ b. b && true) is
rises-further (stamp ∷ []) closing created up below later =
    ap (λ b. b && (int_lt closing created && true)) below.0 ∙ ap (λ b. b && true) later
rises-further (stamp ∷ next ∷ stamps) closing created up below later =
    let parts = and_parts (int_lt stamp next) (rises (next ∷ stamps)) up in
    ap (λ b. b && rises ((next ∷ stamps) ++ closing ∷ created ∷ [])) parts.0 ∙ rises-further (next ∷ stamps) closing created parts.1 below.1 later

pub rises-behind : (last closing created : ℕ) (stream : Stream) → last < closing → closing < created → 1 ≤ stream.attrs.rotated → stream.ended ≡ None → IsSoundStream last stream → rises (stamps_of (last_closed (pos closing) (state_of stream).files ++ open_file (pos created) ∷ [])) ≡ true
rises-behind last closing created stream up further some living sound =
    let files = (state_of stream).files in
    let standing = sound.fit living in
    ap rises (stamps-closed (pos closing) (pos created) files standing.last_open)
    ∙ rises-further (stamps_of files) (pos closing) (pos created) standing.rising
    (each-weaker (IsStampUpTo (pos last)) (λ stamp. int_lt stamp (pos closing) ≡ true) (λ stamp low. up-to-lt last closing stamp up low) (stamps_of files) (fit-stamps last stream some living sound))
    (lt-ltb closing created further)

-- the file changes before a record

pub changed-again : (state : StreamState) (bytes : List ℕ) (stamps : Stamps) (files : Files) → IsFitStored state bytes (Some stamps) → rises (stamps_of (last_closed stamps.closed state.files ++ open_file stamps.created ∷ [])) ≡ true → IsRepeatable (calls_of_all (deeds_of (Stored state bytes (Some stamps)))) files
changed-again state bytes stamps files fit rising =
    let attrs = state.attrs in
    let from = log_name attrs (current_file state.files) in
    let to = log_name attrs (file_closed stamps.closed (current_file state.files)) in
    let fresh = log_name attrs (open_file stamps.created) in
    let apart = change_names state bytes stamps fit rising in
    change_calls (λ calls. IsRepeatable calls files) state bytes stamps fit.stream.standing.last_open
    (changed-repeatable from to fresh bytes files apart.from_to apart.from_new)
    (rotated-repeatable from to fresh (log_name attrs (oldest_closed stamps.closed state.files)) bytes files apart.from_to apart.from_new apart.from_gone apart.new_gone)
