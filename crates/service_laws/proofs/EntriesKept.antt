-- **A record that stands before and after an entry stands at one of its two places while the entry's deeds are attempted.**
use Rattle.std.proofs.Common.{◌≡◌, ◌≢◌, ℕ, zero, suc, ◌+◌, ◌≤◌, true, ◌⊎◌, inl, inr, List, [], ◌∷◌, length, map, refl, ap, sym, ◌∙◌, subst, arith}
use Rattle.std.specs.Prelude.{ℤ, Option, Some, None, option_map, pos, unsigned_abs, slice_get}
use Rattle.std.specs.Option.{option_map_or}
use Rattle.std.specs.List.{AllByRecursion, cons_option, find}
use Rattle.std.proofs.lemmas.Bool.{and_parts}
use Rattle.client_set.specs.Members.{Stands}
use Rattle.client_set.proofs.MemberLaws.{Stands-append_right}
use Rattle.disk_model.specs.Disk.{Files}
use Rattle.record_print.specs.declared.record.LogRecord.{LogRecord}
use Rattle.stream_config.specs.declared.attrs.StreamName.{StreamName}
use Rattle.stream_config.specs.declared.event.StreamEvent.TheVariants as event
use Rattle.stream_config.specs.declared.state.StreamState.{StreamState}
use Rattle.stream_config.specs.Cfg.{cfg_of}
use Rattle.stream_config.specs.Equality.{same_name}
use Rattle.stream_config.specs.Events.{open_file, file_closed, next_offset}
use Rattle.stream_config.specs.Stamps.{stamp_after}
use Rattle.stream_layout.specs.Carrying.{IsFitEvent}
use Rattle.stream_layout.specs.Deeds.{calls_of_all, current_file, deeds_of}
use Rattle.stream_layout.specs.Names.{log_name, cfg_name}
use Rattle.stream_layout.proofs.NameLaws.{stamp_bound}
use Rattle.calls.specs.declared.entry.Entry.{Entry}
use Rattle.calls.specs.declared.entry.Entry.TheVariants.{Called, Receipted}
use Rattle.log_history.specs.AllNames.{names_of_full, names_in}
use Rattle.log_history.specs.Changes.{LogChange, Began, Opened, Stored, Filtered, Closed, Ended}
use Rattle.log_history.specs.Chronicle.{LogSetup, Stream, new_stream, lives, is_living, is_ending, with_record, with_end, all_ended, chronicle}
use Rattle.log_history.specs.Deeds.{deeds_of_all, deeds_by, made_stream}
use Rattle.log_history.specs.Files.{records_of, disk_files}
use Rattle.log_history.specs.Firsts.{change_first}
use Rattle.log_history.specs.Legal.{IsLogHistory}
use Rattle.log_history.specs.Places.{spot_in_file, place_of, place_in, record_in, IsAt}
use Rattle.log_history.specs.Stamps.{second_in, CanStamp}
use Rattle.log_history.specs.Table.{OpenStream, open_stream, state_of, new_state, table, is_changing, storing, bytes_in, ends_in, events_of}
use Rattle.log_history.proofs.EventLaws.{events-fit}
use Rattle.log_history.proofs.FirstLaws.{Each, Each-find}
use Rattle.log_history.proofs.NamedLaws.{names-once}
use Rattle.log_history.proofs.Reaching.{Passes, reached}
use Rattle.log_history.proofs.SoundStreams.{sound}
use Rattle.log_history.proofs.StampLaws.{AreTimely}
use Rattle.log_history.proofs.StampedLaws.{stamped}
use Rattle.log_history.proofs.StreamLaws.{IsSoundStream, fit-stamps}
use Rattle.log_history.proofs.TableLaws.{living, find-living, closed-streams, left-streams}
use Rattle.plain_service.specs.Setups.{Setup, log_setup}
use Rattle.plain_service.specs.Changing.{past_of}
use Rattle.plain_service.specs.Legal.{IsHistory}
use Rattle.plain_service.specs.Records.{StoredRecord, record_of}
use Rattle.plain_service.specs.Records as records
use Rattle.plain_service.specs.Storing.{files_of, log_change_by}
use Rattle.plain_service.specs.Storing as service
use Rattle.plain_service.proofs.FilesLaws.{files-work}
use Rattle.plain_service.proofs.LivingStreams.{IsLivingStream, living-streams}
use Rattle.plain_service.proofs.HistoryEvents.{timely, can-stamp}
use Rattle.plain_service.proofs.ListLaws.{each-weaker, each-mapped}
use Rattle.plain_service.proofs.Possible.{possible}
use Rattle.plain_service.proofs.RecordLaws.{record-is, record-at-place, record-stays}
use Rattle.cluster_facts.specs.Storage.{Attempts}
use Rattle.service_laws.specs.Disks.{service_disk}
use Rattle.service_laws.proofs.ChangesAgain.{HaveStamps, files-settled, entry-again}
use Rattle.service_laws.proofs.ChangesKept.{IsKeptBy, kept-made}
use Rattle.service_laws.proofs.EndsAgain.{IsLateEnd, late-ends}
use Rattle.service_laws.proofs.EndsKept.{EndMoves, rise-ends, kept-ends}
use Rattle.service_laws.proofs.LogKept.{place-name, old-name, not-new, not-cfg, beside-slot, kept-nothing, kept-alone, kept-storing}
use Rattle.service_laws.proofs.PlacesMoved.{PlaceIs, place-is, Moved, recorded-place, ended-place, current-is, changed-at, same-stream, ended-at}
use Rattle.ais_values.proofs.Basics.{none_from}

-- the stream of a place that is told

record PlaceIn (streams : List Stream) (s k : ℕ) (place : List ℕ × ℕ) : Type 0 where
  stream : Stream
  there : slice_get streams s ≡ Some stream
  is : PlaceIs stream k place

place-stream : (streams : List Stream) (s k : ℕ) (place : List ℕ × ℕ) → option_map_or (λ (one : Stream). place_of one k) (slice_get streams s) None ≡ Some place → PlaceIn streams s k place
place-stream streams s k place is = by_case (slice_get streams s) refl is where
  by_case : (found : Option Stream) → slice_get streams s ≡ found → option_map_or (λ (one : Stream). place_of one k) found None ≡ Some place → PlaceIn streams s k place
  by_case None none same = cc
  by_case (Some one) there same = record { stream = one; there = there; is = place-is one k place same }

same-places : (stream : Stream) (k : ℕ) (spot after : List ℕ × ℕ) → PlaceIs stream k spot → PlaceIs stream k after → after ≡ spot
same-places stream k spot after is later =
    let file : later.file ≡ is.file = cc (later.at, is.at) in
    sym later.is ∙ ap (spot_in_file stream k) file ∙ is.is

-- the name of a current file is one of its stream's
current-named : (stream : Stream) → stream.ended ≡ None → Passes stream → Stands (log_name stream.attrs (current_file (state_of stream).files)) (names_in stream)
current-named stream living passes =
    subst (λ file. Stands (log_name stream.attrs file) (names_in stream)) (sym (current-is stream living passes.some_rotated))
    (Stands-append_right (log_name stream.attrs (open_file (pos stream.current))) (names_of_full stream.attrs stream.full) _ (inl refl))

passes-at : (streams : List Stream) (s : ℕ) (x : Stream) → slice_get streams s ≡ Some x → Each Passes streams → Passes x
passes-at [] s x is each = cc
passes-at (y ∷ streams) zero x is each = let same : y ≡ x = cc in subst Passes same each.0
passes-at (y ∷ streams) (suc s) x is each = passes-at streams s x is each.1

-- a stream is made
kept-making : (bytes : List ℕ) (spot after : List ℕ × ℕ) (old new : Files) → IsAt bytes spot old → IsAt bytes after new → (state : StreamState) → spot.0 ≢ cfg_name state.attrs → spot.0 ≢ log_name state.attrs (current_file state.files) → IsKeptBy bytes spot after old new (calls_of_all (deeds_of (event.Made state)))
unfolding deeds_of
kept-making bytes spot after old new was is state not_cfg not_log =
    kept-made bytes spot after old new was is (cfg_name state.attrs) (log_name state.attrs (current_file state.files)) (cfg_of state.name state.attrs) not_cfg not_log

module _ (setup : LogSetup) (past : List LogChange) (legal : IsLogHistory setup past) (low : (chronicle setup past).last ≤ 20000000100) (s k : ℕ) (bytes : List ℕ) (spot after : List ℕ × ℕ) where
  -- a record is stored in a stream
  kept-stored : (new : Files) (stored : StreamName) (rec : LogRecord) (second : ℕ) (found : Stream) → find (is_living stored) (chronicle setup past).streams ≡ Some found → IsFitEvent (storing (chronicle setup past).last second rec (state_of found)) → record_in setup past s k ≡ Some bytes → PlaceIn (chronicle setup past).streams s k spot → PlaceIn (change_first (is_living stored) (with_record (chronicle setup past).last second rec) (chronicle setup past).streams) s k after → IsAt bytes spot (disk_files setup past) → IsAt bytes after new → IsKeptBy bytes spot after (disk_files setup past) new (calls_of_all (deeds_of (storing (chronicle setup past).last second rec (state_of found))))
  kept-stored new stored rec second found is_found fit record_is place later was is =
      let last = (chronicle setup past).last in
      let streams = (chronicle setup past).streams in
      let x = place.stream in
      let y = later.stream in
      let all = reached setup past legal in
      let own = Each-find Passes (is_living stored) streams found all.passing is_found in
      let sound_is = (Each-find (IsSoundStream last) (is_living stored) streams found (sound setup past legal) is_found).0 in
      let passes = own.0 in
      let alive = none_from found.ended (and_parts (lives found) (same_name found.name stored) own.1).0 in
      let older = old-name last streams s x spot.0 (stamped setup past) place.there (place-name x k spot place.is) in
      let moves : (after ≡ spot) ⊎ ((is_changing (state_of found) rec ≡ true) × Moved found (stamp_after last second) spot after) =
      elim (changed-at (is_living stored) (with_record last second rec) streams s x y place.there later.there) [
        | inl same ↦ inl (same-places x k spot after place.is (subst (λ w. PlaceIs w k after) same later.is))
        | inr both ↦
            let one : x ≡ found = cc in
            let at : PlaceIs found k spot = subst (λ w. PlaceIs w k spot) one place.is in
            let next : PlaceIs (with_record last second rec found) k after = subst (λ w. PlaceIs w k after) (both.0 ∙ ap (with_record last second rec) one) later.is in
            recorded-place last second rec found k spot after alive passes sound_is.count fit.stream at next
      ] in
      let apart_is : spot.0 ≡ log_name found.attrs (current_file (state_of found).files) → (spot.1 + length bytes ≤ next_offset (state_of found)) ⊎ (next_offset (state_of found) + length (bytes_in (state_of found) rec) ≤ spot.1) =
      λ named.
      let two = same-stream (is_living stored) (with_record last second rec) streams s x found spot.0 (names-once setup past low) place.there is_found (place-name x k spot place.is)
      (subst (λ name. Stands name (names_in found)) (sym named) (current-named found alive passes)) in
      let at : PlaceIs found k spot = subst (λ w. PlaceIs w k spot) two.0 place.is in
      let became : y ≡ with_record last second rec found = cc (later.there, two.1) in
      let next : PlaceIs (with_record last second rec found) k after = subst (λ w. PlaceIs w k after) became later.is in
      let mine : slice_get (records_of found) k ≡ Some bytes =
      ap (λ w. slice_get (records_of w) k) (sym two.0) ∙ sym (ap (λ one. option_map_or (λ (w : Stream). slice_get (records_of w) k) one None) place.there) ∙ record_is in
      beside-slot last second rec found k spot after bytes passes sound_is.count fit.stream at next mine named in
      kept-storing bytes spot after (disk_files setup past) new was is last second rec found passes sound_is alive fit older moves apart_is

  -- streams end
  kept-ended : (new : Files) (changes : List LogChange) (second : ℕ) → AllByRecursion IsFitEvent (ends_in (chronicle setup past).last second (map (open_stream changes) (living (chronicle setup past).streams))) → PlaceIn (chronicle setup past).streams s k spot → PlaceIn (all_ended (is_ending changes) (chronicle setup past).last second (chronicle setup past).streams) s k after → IsAt bytes spot (disk_files setup past) → IsAt bytes after new → IsKeptBy bytes spot after (disk_files setup past) new (calls_of_all (deeds_of_all (ends_in (chronicle setup past).last second (map (open_stream changes) (living (chronicle setup past).streams)))))
  kept-ended new changes second fit place later was is =
      let last = (chronicle setup past).last in
      let streams = (chronicle setup past).streams in
      let these = living streams in
      let kept = map (open_stream changes) these in
      let events = ends_in last second kept in
      let x = place.stream in
      let y = later.stream in
      let older = old-name last streams s x spot.0 (stamped setup past) place.there (place-name x k spot place.is) in
      let stamps = each-mapped (HaveStamps last) (open_stream changes) these
      (each-weaker (IsLivingStream last (length past)) (λ stream. HaveStamps last (open_stream changes stream))
      (λ stream one. fit-stamps last stream one.0.0.1.some_rotated (none_from stream.ended one.1) one.0.0.0) these (living-streams setup past legal)) in
      let late = late-ends last last second (omega arith) kept stamps fit in
      let not_new : (before : StreamState) (closed : ℤ) → IsLateEnd last before closed → spot.0 ≢ log_name before.attrs (file_closed closed (current_file before.files)) =
      λ before closed end.
      not-new last spot.0 before.attrs (file_closed closed (current_file before.files)) end.number older end.stamp end.later
      (subst (λ stamp. unsigned_abs stamp ≤ 20000000100) end.stamp (stamp_bound closed end.fit.stamp)) in
      let moves : EndMoves events spot after = elim (ended-at changes last second streams s x y place.there later.there) [
        | inl same ↦ inl (same-places x k spot after place.is (subst (λ w. PlaceIs w k after) same later.is))
        | inr ends ↦
            let next : PlaceIs (with_end ends.0 x) k after = subst (λ w. PlaceIs w k after) ends.1 later.is in
            let passes = passes-at streams s x place.there (reached setup past legal).passing in
            elim (ended-place ends.0 x k spot after passes.some_rotated ends.2 place.is next) [
              | inl same ↦ inl same
              | inr moved ↦
                  let current = current-is x ends.2 passes.some_rotated in
                  inr (
                    state_of x,
                    pos ends.0,
                    ends.3,
                    moved.from ∙ ap (log_name x.attrs) (sym current),
                    moved.to ∙ ap (λ file. log_name x.attrs (file_closed (pos ends.0) file)) (sym current),
                    moved.offset,
                  )
            ]
      ] in
      kept-ends bytes spot after (disk_files setup past) new was is last last events late (rise-ends last second kept) not_new moves

-- **the deeds of one more change**
pub change-kept : (setup : LogSetup) (past : List LogChange) (change : LogChange) → IsLogHistory setup (change ∷ past) → CanStamp setup past (second_in change) → (s k : ℕ) (bytes : List ℕ) (spot after : List ℕ × ℕ) → record_in setup past s k ≡ Some bytes → place_in setup past s k ≡ Some spot → place_in setup (change ∷ past) s k ≡ Some after → IsAt bytes spot (disk_files setup past) → IsAt bytes after (disk_files setup (change ∷ past)) → IsKeptBy bytes spot after (disk_files setup past) (disk_files setup (change ∷ past)) (calls_of_all (deeds_by setup change past))
change-kept setup past (Began client) legal can s k bytes spot after record_is at then was is =
    kept-nothing bytes spot after (disk_files setup past) (disk_files setup (Began client ∷ past)) was is
change-kept setup past (Opened client opened None second number) legal can s k bytes spot after record_is at then was is =
    kept-nothing bytes spot after (disk_files setup past) (disk_files setup (Opened client opened None second number ∷ past)) was is
change-kept setup past (Opened client opened (Some attrs) second number) legal can s k bytes spot after record_is at then was is =
    let last = (chronicle setup past).last in
    let created = stamp_after last second in
    let new = disk_files setup (Opened client opened (Some attrs) second number ∷ past) in
    let place = place-stream (chronicle setup past).streams s k spot at in
    let older = old-name last (chronicle setup past).streams s place.stream spot.0 (stamped setup past) place.there (place-name place.stream k spot place.is) in
    kept-alone bytes spot after (disk_files setup past) new was is (made_stream (new_stream opened attrs created))
    (kept-making bytes spot after (disk_files setup past) new was is (new_state opened attrs created) (not-cfg last spot.0 attrs older)
    (not-new last spot.0 attrs (open_file (pos created)) created older refl (omega arith) (omega (arith, can.last, can.early))))
change-kept setup past (Stored stored rec second) legal can s k bytes spot after record_is at then was is =
    let now = chronicle setup past in
    let low : now.last ≤ 20000000100 = omega (arith, can.last) in
    let new = disk_files setup (Stored stored rec second ∷ past) in
    let fit = events-fit setup past (Stored stored rec second) legal can in
    let found = find-living stored past now.streams in
    let place = place-stream now.streams s k spot at in
    let later = place-stream (chronicle setup (Stored stored rec second ∷ past)).streams s k after then in
    let P : Option OpenStream → Type 0 = λ kept. AllByRecursion IsFitEvent (option_map_or (λ (stream : OpenStream). storing now.last second rec stream.state ∷ []) kept []) in
    let Q : Option OpenStream → Type 0 = λ kept. IsKeptBy bytes spot after (disk_files setup past) new (calls_of_all (deeds_of_all (option_map_or (λ (stream : OpenStream). storing now.last second rec stream.state ∷ []) kept []))) in
    let one : (f : Option Stream) → find (is_living stored) now.streams ≡ f → P (option_map (open_stream past) f) → Q (option_map (open_stream past) f) = elim [
      | None ↦ λ none fits. kept-nothing bytes spot after (disk_files setup past) new was is
      | Some stream ↦ λ is_found fits.
          kept-alone bytes spot after (disk_files setup past) new was is (storing now.last second rec (state_of stream))
          (kept-stored setup past legal.1 low s k bytes spot after new stored rec second stream is_found fits.0 record_is place later was is)
    ] in
    subst Q (sym found) (one (find (is_living stored) now.streams) refl (subst P found fit))
change-kept setup past (Filtered client filtered mask number) legal can s k bytes spot after record_is at then was is =
    kept-nothing bytes spot after (disk_files setup past) (disk_files setup (Filtered client filtered mask number ∷ past)) was is
change-kept setup past (Closed client closed second) legal can s k bytes spot after record_is at then was is =
    let now = chronicle setup past in
    let low : now.last ≤ 20000000100 = omega (arith, can.last) in
    let new = disk_files setup (Closed client closed second ∷ past) in
    let fit = events-fit setup past (Closed client closed second) legal can in
    let same = closed-streams past client closed second now.streams ((reached setup past legal.1).single closed) in
    let place = place-stream now.streams s k spot at in
    let later = place-stream (chronicle setup (Closed client closed second ∷ past)).streams s k after then in
    let P : List OpenStream → Type 0 = λ kept. AllByRecursion IsFitEvent (ends_in now.last second kept) in
    let Q : List OpenStream → Type 0 = λ kept. IsKeptBy bytes spot after (disk_files setup past) new (calls_of_all (deeds_of_all (ends_in now.last second kept))) in
    subst Q same (kept-ended setup past legal.1 low s k bytes spot after new (Closed client closed second ∷ past) second (subst P (sym same) fit) place later was is)
change-kept setup past (Ended client second) legal can s k bytes spot after record_is at then was is =
    let now = chronicle setup past in
    let low : now.last ≤ 20000000100 = omega (arith, can.last) in
    let new = disk_files setup (Ended client second ∷ past) in
    let fit = events-fit setup past (Ended client second) legal can in
    let same = left-streams past client second (living now.streams) in
    let place = place-stream now.streams s k spot at in
    let later = place-stream (chronicle setup (Ended client second ∷ past)).streams s k after then in
    let P : List OpenStream → Type 0 = λ kept. AllByRecursion IsFitEvent (ends_in now.last second kept) in
    let Q : List OpenStream → Type 0 = λ kept. IsKeptBy bytes spot after (disk_files setup past) new (calls_of_all (deeds_of_all (ends_in now.last second kept))) in
    subst Q same (kept-ended setup past legal.1 low s k bytes spot after new (Ended client second ∷ past) second (subst P (sym same) fit) place later was is)

-- entries

option-kept : (setup : LogSetup) (past : List LogChange) (change : Option LogChange) → IsLogHistory setup (cons_option change past) → AreTimely (cons_option change past) → ((second : ℕ) → second ≤ 9000000000 → CanStamp setup past second) → (s k : ℕ) (bytes : List ℕ) (spot after : List ℕ × ℕ) → record_in setup past s k ≡ Some bytes → place_in setup past s k ≡ Some spot → place_in setup (cons_option change past) s k ≡ Some after → IsAt bytes spot (disk_files setup past) → IsAt bytes after (disk_files setup (cons_option change past)) → IsKeptBy bytes spot after (disk_files setup past) (disk_files setup (cons_option change past)) (calls_of_all (deeds_of_all (option_map_or (λ c. events_of c (table setup past)) change [])))
option-kept setup past None legal early can s k bytes spot after record_is at then was is =
    kept-nothing bytes spot after (disk_files setup past) (disk_files setup past) was is
option-kept setup past (Some change) legal early can s k bytes spot after record_is at then was is =
    change-kept setup past change legal (can (second_in change) early.0) s k bytes spot after record_is at then was is

entry-by : (setup : Setup) (entry : Entry) (past : List Entry) → IsHistory setup (entry ∷ past) → (stored : StoredRecord) (spot after : List ℕ × ℕ) → record_in (log_setup setup) (past_of setup past).log stored.stream stored.number ≡ Some stored.bytes → records.place_of setup past stored ≡ Some spot → records.place_of setup (entry ∷ past) stored ≡ Some after → records.IsAt stored spot (files_of setup past) → records.IsAt stored after (files_of setup (entry ∷ past)) → IsKeptBy stored.bytes spot after (files_of setup past) (files_of setup (entry ∷ past)) (calls_of_all (service.deeds_of setup past entry))
unfolding service.deeds_of files_of records.place_of
entry-by setup (Called client seq now call) past history stored spot after record_is at then was is =
    option-kept (log_setup setup) (past_of setup past).log (log_change_by setup (past_of setup past) (Called client seq now call))
    (possible setup (Called client seq now call ∷ past) history).log (timely setup (Called client seq now call ∷ past) history)
    (λ second early. can-stamp setup past second history.1 history.0.0.few early) stored.stream stored.number stored.bytes spot after record_is at then was is
entry-by setup (Receipted client key through now) past history stored spot after record_is at then was is =
    kept-nothing stored.bytes spot after (disk_files (log_setup setup) (past_of setup past).log) (disk_files (log_setup setup) (past_of setup past).log) was is

-- **the records of calls, while the last entry's deeds are attempted**
pub entry-kept : (setup : Setup) (entry : Entry) (past : List Entry) (left : Files) (client number : ℕ) (stored : StoredRecord) (spot after : List ℕ × ℕ) → IsHistory setup (entry ∷ past) → Attempts service_disk (calls_of_all (service.deeds_of setup past entry)) (files_of setup past) left → record_of setup past client number ≡ Some stored → records.place_of setup past stored ≡ Some spot → records.place_of setup (entry ∷ past) stored ≡ Some after → records.IsAt stored spot left ⊎ records.IsAt stored after left
entry-kept setup entry past left client number stored spot after history tried own at then =
    entry-by setup entry past history stored spot after (record-is setup past client number stored own) at then
    (record-at-place setup past client number stored spot history.1 own at)
    (record-at-place setup (entry ∷ past) client number stored after history (record-stays setup entry past client number stored history own) then)
    (files-settled setup past) left tried (entry-again setup entry past history (files-settled setup past) left tried ∙ files-work setup entry past history)
