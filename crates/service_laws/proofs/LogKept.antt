-- **A record that stands before and after an entry stands at one of its two places while the entry's deeds are attempted.**
use Rattle.std.proofs.Common.{◌≡◌, ◌≢◌, ℕ, ◌+◌, ◌-◌, ◌<◌, ◌≤◌, nat_le, nat_lt, Bool, true, false, cond, ◌⊎◌, inl, inr, List, [], ◌∷◌, ◌++◌, length, drop, get_or, refl, ap, sym, ◌∙◌, subst, arith, length-append, length-drop}
use Rattle.std.specs.Prelude.{Some, None, pos, slice_get, is_some}
use Rattle.std.specs.List.{All, concat}
use Rattle.std.proofs.lemmas.Bool.{and_parts, leb-true, ltb-true}
use Rattle.std.proofs.lemmas.List.{append-nil, length-take}
use Rattle.std.proofs.lemmas.List.Elements.{All-head, All-tail}
use Rattle.std.proofs.lemmas.Option.{get_or_from_slice_get}
use Rattle.client_set.specs.Members.{Stands}
use Rattle.disk_model.specs.Disk.{Files}
use Rattle.record_print.specs.declared.record.LogRecord.{LogRecord}
use Rattle.stream_config.specs.declared.attrs.FullAction.{FullAction}
use Rattle.stream_config.specs.declared.attrs.FullAction.TheVariants.{Wrap, Halt, Rotate}
use Rattle.stream_config.specs.declared.attrs.StreamAttrs.{StreamAttrs}
use Rattle.stream_config.specs.declared.event.StreamEvent.{StreamEvent}
use Rattle.stream_config.specs.declared.event.StreamEvent.TheVariants as event
use Rattle.stream_config.specs.declared.event.Stamps.{Stamps}
use Rattle.stream_config.specs.declared.state.LogFile.{LogFile}
use Rattle.stream_config.specs.Events.{open_file, file_closed, most_files, offset_in, next_offset}
use Rattle.stream_config.specs.Fit.{next_first, first_in}
use Rattle.stream_config.specs.Sizes.{records_per_file, IsLength}
use Rattle.stream_config.specs.Stamps.{stamp_after}
use Rattle.stream_layout.specs.Carrying.{IsFitStream, IsFitStored, IsFitEvent}
use Rattle.stream_layout.specs.Deeds.{calls_of_all, current_file, deeds_of}
use Rattle.stream_layout.specs.Inside.{oldest_closed}
use Rattle.stream_layout.specs.LogFiles.{records_from, records_in}
use Rattle.stream_layout.specs.Names.{log_name, cfg_name}
use Rattle.stream_layout.proofs.CarryLaws.{added}
use Rattle.stream_layout.proofs.CurrentFile.{has_current, current_file-append}
use Rattle.stream_layout.proofs.EventLaws.{IsAdded, alike_all, some_records, wrap_sized}
use Rattle.stream_layout.proofs.NameLaws.{cfg_apart, closed_apart, last_stamp, stamp_bound}
use Rattle.stream_layout.proofs.RepeatOn.{change_calls, change_names}
use Rattle.log_history.specs.AllNames.{names_in, names_of_all}
use Rattle.log_history.specs.Chronicle.{Stream, files_had, with_record, all_files}
use Rattle.log_history.specs.Deeds.{deeds_of_all}
use Rattle.log_history.specs.Files.{records_of}
use Rattle.log_history.specs.Places.{files_now, first_of, offset_of, IsAt}
use Rattle.log_history.specs.Rounds.{last_of, front_of}
use Rattle.log_history.specs.Stamps.{stamps_of_all}
use Rattle.log_history.specs.Table.{state_of, is_changing, storing, bytes_in}
use Rattle.log_history.proofs.BytesLaws.{length-printed, are-records}
use Rattle.log_history.proofs.NamedLaws.{IsNamedBy, stamp-of, named-all, named-same, file-named, Stands-drop}
use Rattle.log_history.proofs.OnceLaws.{AreStamps}
use Rattle.log_history.proofs.Reaching.{Passes}
use Rattle.log_history.proofs.RecordLaws.{named-among}
use Rattle.log_history.proofs.SliceLaws.{stands-behind}
use Rattle.log_history.proofs.StepLaws.{HasFull, record-long, length-is}
use Rattle.log_history.proofs.StreamLaws.{IsSoundStream}
use Rattle.service_laws.proofs.BytesKept.{slots-apart}
use Rattle.service_laws.proofs.ChangesKept.{IsKeptBy, kept-changed, kept-rotated, kept-written}
use Rattle.service_laws.proofs.EventsAgain.{rises-behind}
use Rattle.service_laws.proofs.PlacesMoved.{PlaceIs, Moved, found-low, current-is}

-- the name of a file that stands is old: it tells a stamp that is not behind the last one

pub record IsOld (last : ℕ) (name : List ℕ) : Type 0 where
  pub stamp : ℕ
  pub low : stamp ≤ last
  pub names : IsNamedBy name stamp

pub place-name : (stream : Stream) (number : ℕ) (place : List ℕ × ℕ) → PlaceIs stream number place → Stands place.0 (names_in stream)
place-name stream number place is =
    subst (λ name. Stands name (names_in stream)) (ap (λ (p : List ℕ × ℕ). p.0) is.is)
    (file-named stream.attrs stream.full (front_of (files_had stream)) stream.current stream.ended (last_of (files_had stream)) is.file
    (Stands-drop (length (all_files stream) - most_files stream.attrs.action stream.attrs.rotated) is.file (all_files stream)
    (found-low number (length stream.records) (state_of stream).files is.file is.at).1))

pub old-name : (last : ℕ) (streams : List Stream) (s : ℕ) (stream : Stream) (name : List ℕ) → AreStamps last (stamps_of_all streams) → slice_get streams s ≡ Some stream → Stands name (names_in stream) → IsOld last name
old-name last streams s stream name are is there =
    let found = stamp-of (names_of_all streams) (stamps_of_all streams) name (named-all streams) (named-among streams s stream name is there) in
    record { stamp = found.stamp; low = are.upto found.stamp found.there; names = found.names }

pub not-new : (last : ℕ) (name : List ℕ) (attrs : StreamAttrs) (file : LogFile) (stamp : ℕ) → IsOld last name → last_stamp file ≡ pos stamp → last < stamp → stamp ≤ 20000000100 → name ≢ log_name attrs file
not-new last name attrs file stamp old tells behind low same =
    let low_stamp = old.low in
    let e = named-same name old.stamp stamp (omega (arith, low_stamp, behind, low)) low old.names (record { attrs = attrs; file = file; last = tells; is = same }) in
    absurd (omega (arith, e, low_stamp, behind))

pub not-cfg : (last : ℕ) (name : List ℕ) (attrs : StreamAttrs) → IsOld last name → name ≢ cfg_name attrs
not-cfg last name attrs old same = cfg_apart old.names.attrs attrs old.names.file (sym old.names.is ∙ same)

-- a record of a stream that takes one more, in its current file: the two lie beside each other

-- a file that stands before the last one is closed
shut-or-last : (front : List LogFile) (current file : LogFile) → All (λ (one : LogFile). is_some one.closed ≡ true) front → Stands file (front ++ current ∷ []) → (is_some file.closed ≡ true) ⊎ (file ≡ current)
shut-or-last [] current file shut (inl same) = inr same
shut-or-last [] current file shut (inr none) = absurd none
shut-or-last (first ∷ front) current file shut (inl same) =
    inl (ap (λ (one : LogFile). is_some one.closed) same ∙ All-head (λ (one : LogFile). is_some one.closed ≡ true) first front shut)
shut-or-last (first ∷ front) current file shut (inr later) =
    shut-or-last front current file (All-tail (λ (one : LogFile). is_some one.closed ≡ true) first front shut) later

-- a record ends where those behind it begin, or before
ends-within : (first number : ℕ) (records : List (List ℕ)) → first ≤ number → number < length records → 1 ≤ length (get_or records number [])
    → length (concat (records_from first number records)) + length (get_or records number []) ≤ length (concat (records_from first (length records) records))
ends-within first number records low within some =
    let own = get_or records number [] in
    let at = length (concat (records_from first number records)) in
    let whole = concat (records_from first (length records) records) in
    let here = ap length (stands-behind first number (length records) records low within within) in
    let cut = length-take (length own) (drop at whole) in
    let rest = length-drop at whole in
    omega (arith, here, cut, rest, some)

near-by : (action : FullAction) (n first k taken : ℕ) → first_in action n (taken + 1) first ≤ k → action ≡ Wrap → taken < k + n
near-by Wrap n first k taken low wraps = omega (arith, low)
near-by Halt n first k taken low wraps = cc
near-by Rotate n first k taken low wraps = cc

-- the offsets in one file of a record and of the one that comes
offsets-apart : (action : FullAction) (attrs : StreamAttrs) (front : List LogFile) (current : LogFile) (records : List (List ℕ)) (bytes : List ℕ) (opened k : ℕ) → attrs.action ≡ action → IsAdded attrs front current records bytes opened
    → current.first ≤ k → k < length records → (action ≡ Wrap → length records < k + records_per_file attrs)
    → let at = offset_of action (records_per_file attrs) attrs.record_size current.first k records in
    let next = offset_in action (records_per_file attrs) attrs.record_size (length records) current.bytes in
    (at + length (get_or records k []) ≤ next) ⊎ (next + length bytes ≤ at)
offsets-apart Wrap attrs front current records bytes opened k is adds low within near =
    let n = records_per_file attrs in
    let alike = wrap_sized attrs adds.out.sized is in
    let least = alike.least_record in
    let own : length (get_or records k []) ≡ attrs.record_size = alike_all attrs records (omega (arith, least)) adds.sizes k [] within in
    let new : length bytes ≡ attrs.record_size = adds.size.own (omega (arith, least)) in
    elim (slots-apart n attrs.record_size k (length records) (some_records attrs alike) within (near refl)) [
      | inl front ↦ inl (omega (arith, front, own))
      | inr behind ↦ inr (omega (arith, behind, new))
    ]
offsets-apart Halt attrs front current records bytes opened k is adds low within near =
    let some = (adds.sizes k [] within).some in
    let full = adds.full ∙ ap (λ a. length (concat (records_in a (records_per_file attrs) current.first (length records) records))) is in
    let ends = ends-within current.first k records low within some in
    inl (omega (arith, ends, full))
offsets-apart Rotate attrs front current records bytes opened k is adds low within near =
    let some = (adds.sizes k [] within).some in
    let full = adds.full ∙ ap (λ a. length (concat (records_in a (records_per_file attrs) current.first (length records) records))) is in
    let ends = ends-within current.first k records low within some in
    inl (omega (arith, ends, full))

pub beside-slot : (last second : ℕ) (rec : LogRecord) (stream : Stream) (k : ℕ) (spot after : List ℕ × ℕ) (bytes : List ℕ) → Passes stream → HasFull stream → IsFitStream (state_of stream) → PlaceIs stream k spot → PlaceIs (with_record last second rec stream) k after → slice_get (records_of stream) k ≡ Some bytes → spot.0 ≡ log_name stream.attrs (current_file (state_of stream).files) → (spot.1 + length bytes ≤ next_offset (state_of stream)) ⊎ (next_offset (state_of stream) + length (bytes_in (state_of stream) rec) ≤ spot.1)
beside-slot last second rec stream k spot after bytes passes full fit is later mine named =
    let attrs = stream.attrs in
    let n = records_per_file attrs in
    let records = records_of stream in
    let taken = length stream.records in
    let text = bytes_in (state_of stream) rec in
    let found = has_current (state_of stream).files fit.standing.last_open in
    let size : IsLength attrs (length text) = subst (IsLength attrs) (sym (record-long attrs (taken + 1) rec)) (length-is attrs (taken + 1) rec passes.sizes) in
    let adds = added (state_of stream) text records fit (are-records stream passes full) size found in
    let own = ap length (get_or_from_slice_get records k bytes [] mine) in
    let long = length-printed attrs 1 stream.records in
    let low = found-low k taken (state_of stream).files is.file is.at in
    let same = ap current_file found.whole ∙ current_file-append found.front found.current in
    let within = ltb-true k taken (and_parts (nat_le (first_of stream) k) (nat_lt k taken) is.stands).1 in
    let more = with_record last second rec stream in
    let kept = leb-true (first_of more) k (and_parts (nat_le (first_of more) k) (nat_lt k (length more.records)) later.stands).0 in
    let first_then = next_first (files_now more) (length more.records) in
    let low_then : first_in attrs.action n (taken + 1) first_then ≤ k = subst (λ count. first_in attrs.action n count first_then ≤ k) (length-append stream.records (rec ∷ [])) kept in
    elim (shut-or-last found.front found.current is.file found.shut (subst (Stands is.file) found.whole low.1)) [
      | inl shut ↦
          absurd (closed_apart attrs is.file found.current shut found.unclosed (ap (λ (p : List ℕ × ℕ). p.0) is.is ∙ named ∙ ap (log_name attrs) same))
      | inr current ↦
          let first : is.file.first ≡ found.current.first = ap (λ (f : LogFile). f.first) current in
          let offset : offset_of attrs.action n attrs.record_size found.current.first k records ≡ spot.1 =
          ap (λ f. offset_of attrs.action n attrs.record_size f k records) (sym first) ∙ ap (λ (p : List ℕ × ℕ). p.1) is.is in
          let next : offset_in attrs.action n attrs.record_size (length records) found.current.bytes ≡ next_offset (state_of stream) =
          ap (λ count. offset_in attrs.action n attrs.record_size count found.current.bytes) long ∙ ap (λ (f : LogFile). offset_in attrs.action n attrs.record_size taken f.bytes) (sym same) in
          elim (offsets-apart attrs.action attrs found.front found.current records text (state_of stream).opened k refl adds
          (omega (arith, low.0, first)) (omega (arith, within, long)) (λ wraps. let near = near-by attrs.action n first_then k taken low_then wraps in omega (arith, near, long))) [
            | inl front ↦ inl (omega (arith, front, own, offset, next))
            | inr behind ↦ inr (omega (arith, behind, offset, next))
          ]
    ]

-- a record is stored

module _ (bytes : List ℕ) (spot after : List ℕ × ℕ) (old new : Files) (was : IsAt bytes spot old) (is : IsAt bytes after new) where
  pub kept-nothing : IsKeptBy bytes spot after old new []
  kept-nothing settled left tried done = inr (subst (IsAt bytes after) (sym done) is)

  pub kept-alone : (happening : StreamEvent) → IsKeptBy bytes spot after old new (calls_of_all (deeds_of happening)) → IsKeptBy bytes spot after old new (calls_of_all (deeds_of_all (happening ∷ [])))
  kept-alone happening kept =
      subst (λ deeds. IsKeptBy bytes spot after old new (calls_of_all deeds)) (sym (append-nil (deeds_of happening))) kept

  kept-stamped : (last closing created : ℕ) (stream : Stream) (text : List ℕ) → last < closing → closing < created → created ≤ 20000000100 → Passes stream → IsSoundStream last stream → stream.ended ≡ None → IsFitStored (state_of stream) text (Some (record { closed = pos closing; created = pos created })) → IsOld last spot.0 → (after ≡ spot) ⊎ Moved stream closing spot after → IsKeptBy bytes spot after old new (calls_of_all (deeds_of (event.Stored (state_of stream) text (Some (record { closed = pos closing; created = pos created })))))
  kept-stamped last closing created stream text up further low passes sound living fit older moves =
      let state = state_of stream in
      let attrs = stream.attrs in
      let stamps : Stamps = record { closed = pos closing; created = pos created } in
      let current = current_file state.files in
      let current_is = current-is stream living passes.some_rotated in
      let shut = file_closed (pos closing) current in
      let fresh = open_file (pos created) in
      let apart = change_names state text stamps fit (rises-behind last closing created stream up further passes.some_rotated living sound) in
      let not_to = not-new last spot.0 attrs shut closing older refl up (omega (arith, further, low)) in
      let not_fresh = not-new last spot.0 attrs fresh created older refl (omega (arith, up, further)) low in
      let way : (after ≡ spot) ⊎ ((spot.0 ≡ log_name attrs current) × (after.0 ≡ log_name attrs shut) × (after.1 ≡ spot.1)) = elim moves [
        | inl same ↦ inl same
        | inr moved ↦ inr (
          moved.from ∙ ap (log_name attrs) (sym current_is),
          moved.to ∙ ap (λ (f : LogFile). log_name attrs (file_closed (pos closing) f)) (sym current_is),
          moved.offset,
        )
      ] in
      change_calls (IsKeptBy bytes spot after old new) state text stamps fit.stream.standing.last_open
      (kept-changed bytes spot after old new was is (log_name attrs current) (log_name attrs shut) (log_name attrs fresh) text apart.from_to apart.from_new apart.to_new not_to not_fresh way)
      (kept-rotated bytes spot after old new was is (log_name attrs current) (log_name attrs shut) (log_name attrs fresh) (log_name attrs (oldest_closed (pos closing) state.files)) text apart.from_to apart.from_new apart.from_gone apart.new_gone apart.to_new not_to not_fresh way)

  kept-unstamped : (stream : Stream) (text : List ℕ) → after ≡ spot → (spot.0 ≡ log_name stream.attrs (current_file (state_of stream).files) → (spot.1 + length bytes ≤ next_offset (state_of stream)) ⊎ (next_offset (state_of stream) + length text ≤ spot.1)) → IsKeptBy bytes spot after old new (calls_of_all (deeds_of (event.Stored (state_of stream) text None)))
  unfolding deeds_of
  kept-unstamped stream text same apart_is =
      kept-written bytes spot after old new was is (log_name stream.attrs (current_file (state_of stream).files)) (next_offset (state_of stream)) text same apart_is

  pub kept-storing : (last second : ℕ) (rec : LogRecord) (stream : Stream) → Passes stream → IsSoundStream last stream → stream.ended ≡ None → IsFitEvent (storing last second rec (state_of stream)) → IsOld last spot.0 → (after ≡ spot) ⊎ ((is_changing (state_of stream) rec ≡ true) × Moved stream (stamp_after last second) spot after) → (spot.0 ≡ log_name stream.attrs (current_file (state_of stream).files) → (spot.1 + length bytes ≤ next_offset (state_of stream)) ⊎ (next_offset (state_of stream) + length (bytes_in (state_of stream) rec) ≤ spot.1)) → IsKeptBy bytes spot after old new (calls_of_all (deeds_of (storing last second rec (state_of stream))))
  kept-storing last second rec stream passes sound living fit older moves apart_is = by_case (is_changing (state_of stream) rec) refl fit where
    by_case : (due : Bool) → is_changing (state_of stream) rec ≡ due → IsFitEvent (event.Stored (state_of stream) (bytes_in (state_of stream) rec) (cond due (Some (record { closed = pos (stamp_after last second); created = pos (stamp_after (stamp_after last second) second) })) None)) → IsKeptBy bytes spot after old new (calls_of_all (deeds_of (event.Stored (state_of stream) (bytes_in (state_of stream) rec) (cond due (Some (record { closed = pos (stamp_after last second); created = pos (stamp_after (stamp_after last second) second) })) None))))
    by_case false stays one = elim moves [
      | inl same ↦ kept-unstamped stream (bytes_in (state_of stream) rec) same apart_is
      | inr moved ↦ let e : true ≡ false = sym moved.0 ∙ stays in absurd (cc)
    ]
    by_case true due one =
        let bound = stamp_bound (pos (stamp_after (stamp_after last second) second)) one.new_stamps.1 in
        let way : (after ≡ spot) ⊎ Moved stream (stamp_after last second) spot after = elim moves [ inl same ↦ inl same | inr moved ↦ inr moved.1 ] in
        kept-stamped last (stamp_after last second) (stamp_after (stamp_after last second) second) stream (bytes_in (state_of stream) rec) (omega arith) (omega arith) bound passes sound living one older way
