-- The deeds of an event carry its stream's files before it to those after it.
use Rattle.std.proofs.Common.{◌≡◌, ℕ, ◌+◌, ◌-◌, ◌*◌, ◌/◌, ◌≤◌, ℤ, true, not, List, [], ◌∷◌, ◌++◌, length, take, drop, Some, None, refl, sym, ap, subst, ◌∙◌, arith}
use Rattle.std.specs.List.{concat}
use Rattle.std.specs.FinMap.{get}
use Rattle.std.proofs.lemmas.List.{nil_from_length, take_all, drop_all}
use Rattle.disk_model.specs.Disk.{Files, created, written_at, synced, renamed}
use Rattle.disk_model.specs.DeviceCalls.{all_applied}
use Rattle.std.proofs.lemmas.Bool.{and_parts}
use Rattle.stream_config.specs.declared.attrs.FullAction.{FullAction}
use Rattle.stream_config.specs.declared.attrs.FullAction.TheVariants.{Wrap, Halt, Rotate}
use Rattle.stream_config.specs.declared.state.LogFile.{LogFile}
use Rattle.stream_config.specs.declared.state.StreamState.{StreamState}
use Rattle.stream_config.specs.declared.event.Stamps.{Stamps}
use Rattle.stream_config.specs.declared.event.StreamEvent.{StreamEvent}
use Rattle.stream_config.specs.declared.event.StreamEvent.TheVariants.{Made, Stored, Ended}
use Rattle.stream_config.specs.Cfg.{cfg_of}
use Rattle.stream_config.specs.Events.{open_file, file_begun, file_closed, last_with, last_closed, standing, next_offset, files_stored}
use Rattle.stream_config.specs.Fit.{count_standing, is_rotating, changes_file}
use Rattle.stream_config.specs.Sizes.{records_per_file, IsLength, has_room}
use Rattle.stream_layout.specs.declared.deed.Deed.TheVariants.{Write}
use Rattle.stream_layout.specs.Names.{log_name, cfg_name}
use Rattle.stream_layout.specs.LogFiles.{round_of, records_in, bytes_in, log_entries, cfg_entry}
use Rattle.stream_layout.specs.Deeds.{calls_of_all, current_file, removal, change_of_file, deeds_of}
use Rattle.stream_layout.specs.Carrying.{IsFitStream, IsFitMade, IsFitEvent, HaveBytes, AreRecordsOf, Stand, replaced, CarryOn}
use Rattle.stream_layout.proofs.CurrentFile.{HasCurrent, has_current, current_file-append, last_closed-append}
use Rattle.stream_layout.proofs.EntryLaws.{entries_to-nil}
use Rattle.stream_layout.proofs.EventLaws.{IsLaidOut, laid_out, log_entries-last, current_bytes, IsAdded, offset_at, stored_law, ended_law, IsChange, changed, change_law}
use Rattle.stream_layout.proofs.FileLaws.{carry_made}
use Rattle.stream_layout.proofs.NameLaws.{cfg_apart}

-- a stream ends
ended_on : (state : StreamState) (closed : ℤ) (records : List (List ℕ)) (files : Files) → IsFitStream state → length records ≡ state.taken
    → Stand (log_entries state.attrs records state.files) files → (q : List ℕ)
    → get (renamed files (log_name state.attrs (current_file state.files)) (log_name state.attrs (file_closed closed (current_file state.files)))) q
    ≡ replaced (log_entries state.attrs records state.files) (log_entries state.attrs records (last_closed closed state.files)) files q
ended_on state closed records files fit count stand q =
    let attrs = state.attrs in
    let found = has_current state.files fit.standing.last_open in
    let out = subst (λ taken. IsLaidOut attrs found.front found.current taken state.opened) (sym count) (laid_out state fit found) in
    let P : List LogFile → Type 0 = λ fs. Stand (log_entries attrs records fs) files
    → get (renamed files (log_name attrs (current_file fs)) (log_name attrs (file_closed closed (current_file fs)))) q
    ≡ replaced (log_entries attrs records fs) (log_entries attrs records (last_closed closed fs)) files q in
    subst P (sym found.whole) (λ stand. ended_law attrs found.front found.current records state.opened closed files out stand q) stand

-- what is asked of a record that a stream takes
pub added : (state : StreamState) (bytes : List ℕ) (records : List (List ℕ)) → IsFitStream state → AreRecordsOf state records → IsLength state.attrs (length bytes)
    → (found : HasCurrent state.files) → IsAdded state.attrs found.front found.current records bytes state.opened
added state bytes records fit are size found = record {
  out = subst (λ taken. IsLaidOut state.attrs found.front found.current taken state.opened) (sym are.count) (laid_out state fit found);
  sizes = are.sizes;
  size = size;
  full = current_bytes state.attrs records found.front found.current (subst (HaveBytes state.attrs records (length records)) found.whole are.bytes);
}

-- a record goes to the current file
stored_on : (state : StreamState) (bytes : List ℕ) (records : List (List ℕ)) (files : Files) → IsFitStream state → AreRecordsOf state records
    → IsLength state.attrs (length bytes) → Stand (log_entries state.attrs records state.files) files → (q : List ℕ)
    → get (synced (written_at files (log_name state.attrs (current_file state.files)) (next_offset state) bytes) (log_name state.attrs (current_file state.files))) q
    ≡ replaced (log_entries state.attrs records state.files) (log_entries state.attrs (records ++ bytes ∷ []) (files_stored state (length bytes) None)) files q
stored_on state bytes records files fit are size stand q =
    let attrs = state.attrs in
    let found = has_current state.files fit.standing.last_open in
    let adds = added state bytes records fit are size found in
    let Q : ℕ → Type 0 = λ taken.
    get (synced (written_at files (log_name attrs (current_file state.files)) (offset_at attrs taken (current_file state.files).bytes) bytes) (log_name attrs (current_file state.files))) q
    ≡ replaced (log_entries attrs records state.files) (log_entries attrs (records ++ bytes ∷ []) (last_with (offset_at attrs taken (current_file state.files).bytes) (length bytes) state.files)) files q in
    let P : List LogFile → Type 0 = λ fs. Stand (log_entries attrs records fs) files
    → get (synced (written_at files (log_name attrs (current_file fs)) (offset_at attrs (length records) (current_file fs).bytes) bytes) (log_name attrs (current_file fs))) q
    ≡ replaced (log_entries attrs records fs) (log_entries attrs (records ++ bytes ∷ []) (last_with (offset_at attrs (length records) (current_file fs).bytes) (length bytes) fs)) files q in
    subst Q are.count
    (subst P (sym found.whole) (λ stand. stored_law attrs found.front found.current records bytes state.opened files adds stand q) stand)

rotating : (action : FullAction) → is_rotating action ≡ true → action ≡ Rotate
rotating Wrap is = cc
rotating Halt is = cc
rotating Rotate is = refl

-- the file changes before a record
changed_on : (state : StreamState) (bytes : List ℕ) (stamps : Stamps) (records : List (List ℕ)) (files : Files) → IsFitStream state → AreRecordsOf state records
    → changes_file state.attrs (current_file state.files).bytes (length bytes) ≡ true
    → Stand (log_entries state.attrs records state.files) files
    → get files (log_name state.attrs (file_closed stamps.closed (current_file state.files))) ≡ None → (q : List ℕ)
    → get (all_applied (calls_of_all (change_of_file state.attrs state.files (Some stamps) ++ Write (log_name state.attrs (open_file stamps.created)) 0 bytes ∷ [])) files) q
    ≡ replaced (log_entries state.attrs records state.files) (log_entries state.attrs (records ++ bytes ∷ []) (files_stored state (length bytes) (Some stamps))) files q
changed_on state bytes stamps records files fit are changes stand free q =
    let attrs = state.attrs in
    let found = has_current state.files fit.standing.last_open in
    let front = found.front in
    let current = found.current in
    let out = subst (λ taken. IsLaidOut attrs front current taken state.opened) (sym are.count) (laid_out state fit found) in
    let rotates = rotating attrs.action (and_parts (is_rotating attrs.action) (not (has_room attrs (current_file state.files).bytes (length bytes))) changes).0 in
    let P : List LogFile → Type 0 = λ fs. Stand (log_entries attrs records fs) files → get files (log_name attrs (file_closed stamps.closed (current_file fs))) ≡ None
    → get (all_applied (calls_of_all (change_of_file attrs fs (Some stamps) ++ Write (log_name attrs (open_file stamps.created)) 0 bytes ∷ [])) files) q
    ≡ replaced (log_entries attrs records fs)
    (log_entries attrs (records ++ bytes ∷ []) (standing attrs (last_closed stamps.closed fs ++ file_begun stamps.created (length records) (length bytes) ∷ []))) files q in
    subst (λ taken. get (all_applied (calls_of_all (change_of_file attrs state.files (Some stamps) ++ Write (log_name attrs (open_file stamps.created)) 0 bytes ∷ [])) files) q
    ≡ replaced (log_entries attrs records state.files)
    (log_entries attrs (records ++ bytes ∷ []) (standing attrs (last_closed stamps.closed state.files ++ file_begun stamps.created taken (length bytes) ∷ []))) files q)
    are.count
    (subst P (sym found.whole)
    (λ stand free.
    let last = current_file-append front current in
    let shut = last_closed-append stamps.closed front current in
    let change : IsChange attrs front current records state.opened files stamps =
    record { out = out; rotates = rotates; stand = stand; free = ap (λ f. get files (log_name attrs (file_closed stamps.closed f))) (sym last) ∙ free } in
    ap (λ f. get (changed attrs f stamps bytes (removal attrs (last_closed stamps.closed (front ++ current ∷ []) ++ open_file stamps.created ∷ [])) files) q) last
    ∙ ap (λ fs. get (changed attrs current stamps bytes (removal attrs (fs ++ open_file stamps.created ∷ [])) files) q) shut
    ∙ change_law attrs front current records bytes state.opened files stamps q change
    ∙ ap (λ fs. replaced (log_entries attrs records (front ++ current ∷ []))
    (log_entries attrs (records ++ bytes ∷ []) (standing attrs (fs ++ file_begun stamps.created (length records) (length bytes) ∷ []))) files q) (sym shut))
    stand free)

no_round : (n round : ℕ) → round_of n round [] ≡ []
no_round n round = ap (take n) (drop_all (round * n) [] (omega arith)) ∙ take_all n [] (omega arith)

-- a file without records is empty
no_records : (action : FullAction) (n first until : ℕ) → concat (records_in action n first until []) ≡ []
no_records Wrap n first until = ap concat (ap (λ rs. rs ++ drop (length rs) (round_of n (0 / n - 1) [])) (no_round n (0 / n)) ∙ no_round n (0 / n - 1))
no_records Halt n first until = ap (λ rs. concat (take (until - first) rs)) (drop_all first [] (omega arith)) ∙ ap concat (take_all (until - first) [] (omega arith))
no_records Rotate n first until = ap (λ rs. concat (take (until - first) rs)) (drop_all first [] (omega arith)) ∙ ap concat (take_all (until - first) [] (omega arith))

-- one file stands of a stream that has taken no record
one_file : (action : FullAction) (rotated opened : ℕ) → 1 ≤ rotated → opened ≡ 1 → count_standing action rotated opened ≡ 1
one_file Wrap rotated opened kept one = one
one_file Halt rotated opened kept one = one
one_file Rotate rotated opened kept one = omega (arith, kept, one)

-- a stream is made
made_on : (state : StreamState) (records : List (List ℕ)) (files : Files) → IsFitMade state → AreRecordsOf state records → (q : List ℕ)
    → get (created (synced (written_at (created files (cfg_name state.attrs)) (cfg_name state.attrs) 0 (cfg_of state.name state.attrs)) (cfg_name state.attrs)) (log_name state.attrs (current_file state.files))) q
    ≡ replaced [] (cfg_entry state.name state.attrs ∷ log_entries state.attrs records state.files) files q
made_on state records files fit are q =
    let attrs = state.attrs in
    let n = records_per_file attrs in
    let text = cfg_of state.name attrs in
    let none = nil_from_length records (are.count ∙ fit.fresh) in
    let found = has_current state.files fit.stream.standing.last_open in
    let out = laid_out state fit.stream found in
    let low = fit.stream.standing.some in
    let few = fit.stream.standing.few in
    let fresh = fit.fresh in
    let opened : state.opened ≡ 1 = omega (arith, low, few, fresh) in
    let count : length found.front + 1 ≡ 1 = out.count ∙ one_file attrs.action attrs.rotated state.opened out.kept opened in
    let nothing : found.front ≡ [] = nil_from_length found.front (omega (arith, count)) in
    let sole : state.files ≡ found.current ∷ [] = found.whole ∙ ap (λ fs. fs ++ found.current ∷ []) nothing in
    let entries : log_entries attrs records state.files ≡ (log_name attrs (current_file state.files), []) ∷ [] =
    ap (λ rs. log_entries attrs rs state.files) none ∙ ap (log_entries attrs []) sole
    ∙ log_entries-last attrs [] [] found.current
    ∙ ap (λ es. es ++ (log_name attrs found.current, bytes_in attrs found.current.first 0 []) ∷ []) (entries_to-nil attrs [] found.current.first)
    ∙ ap (λ bs. (log_name attrs found.current, bs) ∷ []) (no_records attrs.action n found.current.first 0)
    ∙ ap (λ fs. (log_name attrs (current_file fs), []) ∷ []) (sym sole) in
    carry_made (cfg_name attrs) (log_name attrs (current_file state.files)) text files (λ same. cfg_apart attrs attrs (current_file state.files) (sym same)) q
    ∙ ap (λ es. replaced [] (cfg_entry state.name attrs ∷ es) files q) (sym entries)

-- the deeds of an event carry the files on
pub carry_on : (event : StreamEvent) → IsFitEvent event → CarryOn event (deeds_of event)
unfolding deeds_of
carry_on (Made state) fit records files are stand free q = made_on state records files fit are q
carry_on (Stored before bytes None) fit records files are stand free q =
    stored_on before bytes records files fit.stream are fit.size stand q
carry_on (Stored before bytes (Some stamps)) fit records files are stand free q =
    changed_on before bytes stamps records files fit.stream are (sym fit.changes) stand free q
carry_on (Ended before closed) fit records files are stand free q =
    ended_on before closed records files fit.stream are.count stand q
