-- The deeds of what happens to one stream carry the files of all streams on.
use Rattle.std.proofs.Common.{zero, take, ◌*◌, ◌/◌, ◌≡◌, ℕ, suc, ◌+◌, ◌-◌, ◌≤◌, Bool, true, false, cond, List, [], ◌∷◌, ◌++◌, length, drop, refl, ap, sym, ◌∙◌, subst, arith}
use Rattle.std.specs.Prelude.{Option, Some, None, option_map, is_some, if◌then◌else◌, pos}
use Rattle.std.specs.Option.{option_map_or}
use Rattle.std.specs.FinMap.{get}
use Rattle.std.specs.Str.{bytes_eq}
use Rattle.std.proofs.lemmas.List.Elements.{All-nil}
use Rattle.disk_model.specs.Disk.{Files, settled_file}
use Rattle.disk_model.specs.DeviceCalls.{all_applied}
use Rattle.format_expr.specs.Reading.{pieces_of}
use Rattle.record_print.specs.declared.record.LogRecord.{LogRecord}
use Rattle.record_print.specs.Printing.{printed_record}
use Rattle.stream_config.specs.Cfg.{cfg_of}
use Rattle.stream_config.specs.declared.attrs.StreamAttrs.{StreamAttrs}
use Rattle.stream_config.specs.declared.state.LogFile.{LogFile}
use Rattle.stream_config.specs.declared.event.StreamEvent.{StreamEvent}
use Rattle.stream_config.specs.declared.event.StreamEvent.TheVariants as event
use Rattle.stream_config.specs.Events.{file_closed, last_closed, most_files, standing, state_after}
use Rattle.stream_config.specs.Stamps.{stamp_after}
use Rattle.stream_layout.specs.Names.{log_name, cfg_name}
use Rattle.stream_layout.specs.LogFiles.{round_of, records_in, bytes_in, log_entries, cfg_entry}
use Rattle.stream_layout.specs.Deeds.{calls_of_all, current_file, deeds_of}
use Rattle.stream_layout.specs.Carrying.{IsFitEvent, state_before, AreRecordsOf, entries_before, entries_after, entry_at, IsFree}
use Rattle.stream_layout.proofs.CarryLaws.{carry_on}
use Rattle.log_history.specs.Rounds.{last_of, front_of}
use Rattle.log_history.specs.Chronicle.{Stream, new_stream, files_had, with_record, last_with_record, with_end, stamped_files, last_file}
use Rattle.log_history.specs.Files.{printed_records, records_of, log_entries_of, entries_of}
use Rattle.log_history.specs.Stamps.{stamps_of_all}
use Rattle.log_history.specs.Table.{state_of, new_state, bytes_in as record_bytes_in, is_changing, storing}
use Rattle.stream_config.specs.declared.state.StreamState.{StreamState}
use Rattle.stream_config.specs.declared.attrs.FullAction.{FullAction}
use Rattle.stream_config.specs.declared.attrs.FullAction.TheVariants.{Wrap, Halt, Rotate}
use Rattle.stream_config.specs.Sizes.{IsLength, records_per_file}
use Rattle.std.specs.List.{concat}
use Rattle.log_history.specs.Deeds.{deeds_of_all}
use Rattle.stream_layout.proofs.CurrentFile.{last_closed-append}
use Rattle.log_history.proofs.FileSteps.{standing-push}
use Rattle.log_history.proofs.StreamLaws.{made-is}
use Rattle.log_history.proofs.StepLaws.{HasFull, state-recorded}
use Rattle.log_history.proofs.Reaching.{Passes}
use Rattle.log_history.proofs.TableLaws.{changing-is}
use Rattle.log_history.proofs.OnceLaws.{AreStamps}
use Rattle.log_history.proofs.NamedLaws.{IsNamedBy}
use Rattle.log_history.proofs.FoundLaws.{either_of, found_in, whole, found-around, found-push, absent, IsAlone, Holds}
use Rattle.stream_layout.proofs.DeedLaws.{calls_of_all-append}
use Rattle.disk_model.proofs.Breaking.{all_applied-append}

-- records as they are printed

pub printed-push : (attrs : StreamAttrs) (number : ℕ) (recs : List LogRecord) (rec : LogRecord) → printed_records attrs number (recs ++ rec ∷ []) ≡ printed_records attrs number recs ++ printed_record (pieces_of attrs.expr) (number + length recs) rec attrs.record_size ∷ []
printed-push attrs number [] rec =
    let same : number ≡ number + 0 = omega arith in
    ap (λ n. printed_record (pieces_of attrs.expr) n rec attrs.record_size ∷ []) same
printed-push attrs number (first ∷ recs) rec =
    let same : number + 1 + length recs ≡ number + length (first ∷ recs) = omega arith in
    ap (λ rest. printed_record (pieces_of attrs.expr) number first attrs.record_size ∷ rest)
    (printed-push attrs (number + 1) recs rec
    ∙ ap (λ n. printed_records attrs (number + 1) recs ++ printed_record (pieces_of attrs.expr) n rec attrs.record_size ∷ []) same)

-- what happens to one stream among others

pub record Happens (front behind : List Stream) (stream now : Stream) (happening : StreamEvent) : Type 0 where
  pub fit : IsFitEvent happening
  pub records : AreRecordsOf (state_before happening) (records_of stream)
  pub before : entries_before happening (records_of stream) ≡ log_entries_of stream
  pub after : entries_after happening (records_of stream) ≡ log_entries_of now
  pub place : cfg_entry now.name now.attrs ≡ cfg_entry stream.name stream.attrs
  pub free : (files : Files) → Holds (front ++ stream ∷ behind) files → IsFree happening files
  pub apart : (name bytes : List ℕ) → entry_at (log_entries_of stream) name ≡ Some bytes → IsAlone front behind stream name
  pub apart_now : (name bytes : List ℕ) → entry_at (log_entries_of now) name ≡ Some bytes → IsAlone front behind now name

-- a name that one stream alone can have
pub record IsOnly (front later : Option (List ℕ)) (is_cfg : Bool) : Type 0 where
  before : front ≡ None
  later_none : later ≡ None
  records : is_cfg ≡ false

pub settled-whole : (later front log : Option (List ℕ)) (is_cfg : Bool) (text bytes : List ℕ) → log ≡ Some bytes → IsOnly front later is_cfg → whole later is_cfg text log front ≡ Some bytes
settled-whole later front log is_cfg text bytes is only =
    ap (λ l. whole l is_cfg text log front) only.later_none
    ∙ ap (λ b. whole None b text log front) only.records
    ∙ ap (λ l. whole None false text l front) is

replaced-whole : (later front log new : Option (List ℕ)) (is_cfg : Bool) (text : List ℕ) → ((bytes : List ℕ) → log ≡ Some bytes → IsOnly front later is_cfg) → ((bytes : List ℕ) → new ≡ Some bytes → IsOnly front later is_cfg) → option_map_or (λ bytes. Some (settled_file bytes)) new (if is_some log then None else option_map settled_file (whole later is_cfg text log front)) ≡ option_map settled_file (whole later is_cfg text new front)
replaced-whole later front log (Some bytes) is_cfg text old now =
    ap (option_map settled_file) (sym (settled-whole later front (Some bytes) is_cfg text bytes refl (now bytes refl)))
replaced-whole later front (Some bytes) None is_cfg text old now =
    let only = old bytes refl in
    ap (option_map settled_file)
    (sym (ap (λ l. whole l is_cfg text None front) only.later_none
    ∙ ap (λ b. whole None b text None front) only.records
    ∙ only.before))
replaced-whole later front None None is_cfg text old now = refl

pub only-of : (front behind : List Stream) (stream : Stream) (name : List ℕ) → IsAlone front behind stream name → IsOnly (found_in front name) (found_in behind name) (bytes_eq name (cfg_name stream.attrs))
only-of front behind stream name is = record { before = is.before; later_none = is.later; records = is.records }

-- **the deeds of what happens to one stream make the files of all streams out of those before**
pub carry-amid : (front behind : List Stream) (stream now : Stream) (happening : StreamEvent) (files : Files) → Happens front behind stream now happening → Holds (front ++ stream ∷ behind) files → Holds (front ++ now ∷ behind) (all_applied (calls_of_all (deeds_of happening)) files)
carry-amid front behind stream now happening files happens holds name =
    carry_on happening happens.fit (records_of stream) files happens.records
    (λ other bytes is. stands other bytes (ap (λ entries. entry_at entries other) (sym happens.before) ∙ is)) (happens.free files holds) name
    ∙ ap (λ entries. option_map_or (λ bytes. Some (settled_file bytes)) (entry_at entries name) (if is_some (entry_at (entries_before happening (records_of stream)) name) then None else get files name)) happens.after
    ∙ ap (λ entries. option_map_or (λ bytes. Some (settled_file bytes)) (entry_at (log_entries_of now) name) (if is_some (entry_at entries name) then None else get files name)) happens.before
    ∙ ap (λ found. option_map_or (λ bytes. Some (settled_file bytes)) (entry_at (log_entries_of now) name) (if is_some (entry_at (log_entries_of stream) name) then None else found)) (holds name ∙ ap (option_map settled_file) (found-around front behind stream name))
    ∙ replaced-whole later first log new is_cfg text
    (λ bytes is. only-of front behind stream name (happens.apart name bytes is))
    (λ bytes is. subst (λ n. IsOnly first later (bytes_eq name n)) same_name (only-of front behind now name (happens.apart_now name bytes is)))
    ∙ ap (λ entry. option_map settled_file (either_of (either_of later (cond (bytes_eq name entry.0) (Some entry.1) new)) first)) (sym happens.place)
    ∙ ap (option_map settled_file) (sym (found-around front behind now name)) where
      later : Option (List ℕ)
      later = found_in behind name

      first : Option (List ℕ)
      first = found_in front name

      log : Option (List ℕ)
      log = entry_at (log_entries_of stream) name

      new : Option (List ℕ)
      new = entry_at (log_entries_of now) name

      is_cfg : Bool
      is_cfg = bytes_eq name (cfg_name stream.attrs)

      text : List ℕ
      text = cfg_of stream.name stream.attrs

      same_name : cfg_name now.attrs ≡ cfg_name stream.attrs
      same_name = ap (λ (entry : List ℕ × List ℕ). entry.0) happens.place

      stands : (other bytes : List ℕ) → entry_at (log_entries_of stream) other ≡ Some bytes → get files other ≡ Some (settled_file bytes)
      stands other bytes is =
          holds other
          ∙ ap (option_map settled_file) (found-around front behind stream other
          ∙ settled-whole (found_in behind other) (found_in front other) (entry_at (log_entries_of stream) other) (bytes_eq other (cfg_name stream.attrs)) (cfg_of stream.name stream.attrs) bytes is
          (only-of front behind stream other (happens.apart other bytes is)))

-- a file without records has no bytes
none-made : (attrs : StreamAttrs) → 0 ≡ length (bytes_in attrs 0 0 [])
none-made attrs = by_action attrs.action where
  drop-nothing : (k : ℕ) → (let none : List (List ℕ) = [] in drop k none) ≡ []
  drop-nothing zero = refl
  drop-nothing (suc k) = refl

  take-nothing : (k : ℕ) → (let none : List (List ℕ) = [] in take k none) ≡ []
  take-nothing zero = refl
  take-nothing (suc k) = refl

  round-nothing : (n round : ℕ) → round_of n round [] ≡ []
  round-nothing n round = ap (take n) (drop-nothing (round * n)) ∙ take-nothing n

  by_action : (action : FullAction) → 0 ≡ length (concat (records_in action (records_per_file attrs) 0 0 []))
  by_action Wrap =
      let n = records_per_file attrs in
      sym (ap (λ rs. length (concat (rs ++ drop (length rs) (round_of n (0 / n - 1) [])))) (round-nothing n (0 / n))
      ∙ ap (λ rs. length (concat rs)) (round-nothing n (0 / n - 1)))
  by_action Halt = refl
  by_action Rotate = refl

-- **the deeds by which a stream is made**
pub carry-made : (streams : List Stream) (stream : Stream) (files : Files) → IsFitEvent (event.Made (new_state stream.name stream.attrs stream.current)) → stream ≡ new_stream stream.name stream.attrs stream.current → 1 ≤ stream.attrs.rotated → Holds streams files → Holds (streams ++ stream ∷ []) (all_applied (calls_of_all (deeds_of (event.Made (new_state stream.name stream.attrs stream.current)))) files)
carry-made streams stream files fit is some holds name =
    let state = new_state stream.name stream.attrs stream.current in
    let fresh = new_stream stream.name stream.attrs stream.current in
    let are : AreRecordsOf state [] = record { count = refl; sizes = All-nil (λ (bytes : List ℕ). IsLength stream.attrs (length bytes)); bytes = (none-made stream.attrs, tt) } in
    let entries : entries_of stream ≡ entries_after (event.Made state) [] =
    ap entries_of is
    ∙ ap (λ (those : StreamState). cfg_entry stream.name stream.attrs ∷ log_entries stream.attrs [] those.files) (made-is stream.name stream.attrs stream.current some) in
    carry_on (event.Made state) fit [] files are (λ other bytes found. cc) tt name
    ∙ ap (λ these. option_map_or (λ bytes. Some (settled_file bytes)) (entry_at these name) (get files name)) (sym entries)
    ∙ ap (λ found. option_map_or (λ bytes. Some (settled_file bytes)) (entry_at (entries_of stream) name) found) (holds name)
    ∙ chosen (entry_at (entries_of stream) name) (found_in streams name)
    ∙ ap (option_map settled_file) (sym (found-push streams stream name)) where
      chosen : (one other : Option (List ℕ)) → option_map_or (λ bytes. Some (settled_file bytes)) one (option_map settled_file other) ≡ option_map settled_file (either_of one other)
      chosen None other = refl
      chosen (Some bytes) other = refl

-- a stream that ends

pub entries-ended : (closed : ℕ) (stream : Stream) → stream.ended ≡ None → 1 ≤ stream.attrs.rotated → entries_after (event.Ended (state_of stream) (pos closed)) (records_of stream) ≡ log_entries_of (with_end closed stream)
entries-ended closed stream living some =
    let round = last_of (files_had stream) in
    let fs = stamped_files stream.full (front_of (files_had stream)) in
    let current = last_file stream.current None round in
    let shut = last_file stream.current (Some closed) round in
    let k : ℕ = length fs + 1 - most_files stream.attrs.action stream.attrs.rotated in
    ap (λ (files : List LogFile). log_entries stream.attrs (records_of stream) files)
    (ap (λ (ended : Option ℕ). last_closed (pos closed) (standing stream.attrs (fs ++ last_file stream.current ended round ∷ []))) living
    ∙ ap (last_closed (pos closed)) (standing-push stream.attrs fs current some)
    ∙ last_closed-append (pos closed) (drop k fs) current
    ∙ sym (standing-push stream.attrs fs shut some))

-- a record that is stored

pub records-pushed : (last second : ℕ) (rec : LogRecord) (stream : Stream) → records_of stream ++ record_bytes_in (state_of stream) rec ∷ [] ≡ records_of (with_record last second rec stream)
records-pushed last second rec stream =
    let same : length stream.records + 1 ≡ 1 + length stream.records = omega arith in
    ap (λ n. records_of stream ++ printed_record (pieces_of stream.attrs.expr) n rec stream.attrs.record_size ∷ []) same
    ∙ sym (printed-push stream.attrs 1 stream.records rec)

pub entries-stored : (last second : ℕ) (rec : LogRecord) (stream : Stream) → stream.ended ≡ None → Passes stream → HasFull stream → entries_after (storing last second rec (state_of stream)) (records_of stream) ≡ log_entries_of (with_record last second rec stream)
entries-stored last second rec stream living passes full =
    ap (λ these. log_entries stream.attrs these (state_after (storing last second rec (state_of stream))).files) (records-pushed last second rec stream)
    ∙ ap (λ (files : List LogFile). log_entries stream.attrs (records_of (with_record last second rec stream)) files) (sym (ap (λ state. state.files) (state-recorded last second rec stream passes.sizes passes.some_rotated living full)))

-- the name that a change of file gives the file that it closes does not stand yet
pub free-storing : (streams : List Stream) (last second : ℕ) (rec : LogRecord) (stream : Stream) (files : Files) → last ≤ 20000000100 → last_with_record last second rec stream ≤ 20000000100 → AreStamps last (stamps_of_all streams) → Holds streams files → Passes stream → IsFree (storing last second rec (state_of stream)) files
free-storing streams last second rec stream files low room are holds passes =
    by_case (is_changing (state_of stream) rec) (subst (λ b. cond b (stamp_after (stamp_after last second) second) last ≤ 20000000100) (sym (changing-is rec stream passes)) room) where
      by_case : (due : Bool) → cond due (stamp_after (stamp_after last second) second) last ≤ 20000000100 → IsFree (event.Stored (state_of stream) (record_bytes_in (state_of stream) rec) (cond due (Some (record { closed = pos (stamp_after last second); created = pos (stamp_after (stamp_after last second) second) })) None)) files
      by_case false later = tt
      by_case true later =
          let shut = file_closed (pos (stamp_after last second)) (current_file (state_of stream).files) in
          let name = log_name stream.attrs shut in
          let named : IsNamedBy name (stamp_after last second) = record { attrs = stream.attrs; file = shut; last = refl; is = refl } in
          holds name
          ∙ ap (option_map settled_file) (absent streams last name (stamp_after last second) low are (omega (arith, later)) named
          (λ there. let le = are.upto (stamp_after last second) there in absurd (omega (arith, le))))

-- deeds one after another

pub applied-first : (happening : StreamEvent) (happenings : List StreamEvent) (files : Files) → all_applied (calls_of_all (deeds_of_all (happening ∷ happenings))) files ≡ all_applied (calls_of_all (deeds_of_all happenings)) (all_applied (calls_of_all (deeds_of happening)) files)
applied-first happening happenings files =
    ap (λ calls. all_applied calls files) (calls_of_all-append (deeds_of happening) (deeds_of_all happenings))
    ∙ all_applied-append (calls_of_all (deeds_of happening)) (calls_of_all (deeds_of_all happenings)) files
