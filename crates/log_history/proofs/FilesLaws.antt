-- The deeds of a change carry the files of a history on, and those of the start make its first files.
use Rattle.std.proofs.Common.{◌≡◌, ℕ, ◌+◌, ◌≤◌, Bool, true, false, ◌&&◌, cond, List, [], ◌∷◌, ◌++◌, map, refl, sym, ◌∙◌, subst, arith}
use Rattle.std.specs.Prelude.{Option, Some, None, option_map, pos}
use Rattle.std.specs.Option.{option_map_or}
use Rattle.std.specs.List.{find, AllByRecursion}
use Rattle.std.specs.Cmp.Lexicographic.{nat_list_cmp_total}
use Rattle.std.specs.FinMap.{get-empty, same_map}
use Rattle.std.specs.Ordering.{nat_cmp}
use Rattle.std.specs.Cmp.Lexicographic.{slice_cmp}
use Rattle.std.proofs.lemmas.Bool.{and_parts}
use Rattle.disk_model.specs.Disk.{Files, no_files}
use Rattle.disk_model.specs.DeviceCalls.{all_applied}
use Rattle.disk_model.proofs.Shelving.{names_differ}
use Rattle.record_print.specs.declared.record.LogRecord.{LogRecord}
use Rattle.stream_config.specs.declared.attrs.StreamAttrs.{StreamAttrs}
use Rattle.stream_config.specs.declared.attrs.StreamName.{StreamName}
use Rattle.stream_config.specs.declared.attrs.StreamName.TheVariants as name
use Rattle.stream_config.specs.declared.event.StreamEvent.{StreamEvent}
use Rattle.stream_config.specs.declared.event.StreamEvent.TheVariants as event
use Rattle.stream_config.specs.Stamps.{stamp_after}
use Rattle.stream_layout.specs.Deeds.{calls_of_all, deeds_of}
use Rattle.stream_layout.specs.Carrying.{IsFitEvent}
use Rattle.stream_layout.proofs.NameLaws.{stamp_bound}
use Rattle.log_history.specs.Firsts.{change_first}
use Rattle.log_history.specs.Changes.{LogChange, Began, Opened, Stored, Filtered, Closed, Ended}
use Rattle.log_history.specs.Chronicle.{LogSetup, Stream, new_stream, lives, is_living, is_due, is_idle, is_ending, with_record, last_with_record, with_end, all_ended, chronicle}
use Rattle.log_history.specs.Legal.{IsSetup, IsLogHistory}
use Rattle.log_history.specs.Files.{disk_files}
use Rattle.log_history.specs.Stamps.{stamps_of_all, second_in, CanStamp}
use Rattle.log_history.specs.Table.{OpenStream, state_of, open_stream, storing, ends_in}
use Rattle.log_history.specs.Deeds.{deeds_of_all, deeds_by, made_stream, opening_deeds}
use Rattle.log_history.proofs.FirstLaws.{Each, Each-weaker}
use Rattle.log_history.proofs.AnswerLaws.{makes-stream}
use Rattle.log_history.proofs.Reaching.{Passes, reached}
use Rattle.log_history.proofs.TableLaws.{living, find-living, closed-streams, left-streams}
use Rattle.log_history.proofs.EventLaws.{events-fit, fit-making}
use Rattle.log_history.proofs.OnceLaws.{AreStamps, one-new}
use Rattle.log_history.proofs.StampedLaws.{amid, none-amid, one-more, changed, stamps-recorded, new-by-record, stamps_by_record, stamps-ended, stamped}
use Rattle.log_history.proofs.FoundLaws.{alone, Holds, disk-holds}
use Rattle.log_history.proofs.BytesLaws.{are-records}
use Rattle.log_history.proofs.TableLaws.{KeepsFull}
use Rattle.log_history.proofs.StepLaws.{HasFull}
use Rattle.log_history.proofs.StreamLaws.{IsSoundStream}
use Rattle.log_history.proofs.SoundStreams.{Each-both, sound}
use Rattle.log_history.proofs.CarryLaws.{Happens, carry-amid, carry-made, entries-ended, entries-stored, free-storing, applied-first}
use Rattle.ais_values.proofs.Basics.{none_from}

-- what holds of one of some streams
pub Each-amid : {X : Type 0} (P : X → Type 0) (front behind : List X) (x : X) → Each P (front ++ x ∷ behind) → P x
Each-amid P [] behind x each = each.0
Each-amid P (y ∷ front) behind x each = Each-amid P front behind x each.1

-- the attributes of every stream pass, and as many of its files are full as its records ask for
keeping : (setup : LogSetup) (past : List LogChange) → IsLogHistory setup past → Each KeepsFull (chronicle setup past).streams
keeping setup past legal =
    let streams = (chronicle setup past).streams in
    Each-both Passes HasFull streams (reached setup past legal).passing
    (Each-weaker (IsSoundStream (chronicle setup past).last) HasFull (λ stream is. is.count) streams (sound setup past legal))

-- a stream that lives ends
pub ending : (front behind : List Stream) (stream : Stream) (last later : ℕ) → stream.ended ≡ None → KeepsFull stream → later ≤ 20000000100 → last ≤ 20000000100 → AreStamps last (stamps_of_all (front ++ stream ∷ behind)) → AreStamps later (stamps_of_all (front ++ with_end later stream ∷ behind)) → IsFitEvent (event.Ended (state_of stream) (pos later)) → Happens front behind stream (with_end later stream) (event.Ended (state_of stream) (pos later))
ending front behind stream last later living passes low low' are now fit = record {
  fit = fit;
  records = are-records stream passes.0 passes.1;
  before = refl;
  after = entries-ended later stream living passes.0.some_rotated;
  place = refl;
  free = λ files holds. tt;
  apart = alone front behind stream last low' are;
  apart_now = alone front behind (with_end later stream) later low now;
}

-- a record is stored in a stream that lives
pub storing-in : (front behind : List Stream) (stream : Stream) (last second : ℕ) (rec : LogRecord) → stream.ended ≡ None → KeepsFull stream → last_with_record last second rec stream ≤ 20000000100 → last ≤ 20000000100 → AreStamps last (stamps_of_all (front ++ stream ∷ behind)) → IsFitEvent (storing last second rec (state_of stream)) → Happens front behind stream (with_record last second rec stream) (storing last second rec (state_of stream))
storing-in front behind stream last second rec living passes low low' are fit =
    let now = with_record last second rec stream in
    let later = last_with_record last second rec stream in
    let after = changed last later front behind stream now (stamps_by_record (is_due stream rec) last second) (stamps-recorded last second rec stream living) (new-by-record (is_due stream rec) last second) are in
    record {
      fit = fit;
      records = are-records stream passes.0 passes.1;
      before = refl;
      after = entries-stored last second rec stream living passes.0 passes.1;
      place = refl;
      free = λ files holds. free-storing (front ++ stream ∷ behind) last second rec stream files low' low are holds passes.0;
      apart = alone front behind stream last low' are;
      apart_now = alone front behind now later low after;
    }

-- the files after some happenings are those of these streams
abbrev Goal : (these next : List Stream) (happenings : List StreamEvent) (files : Files) → Type 0
Goal these next happenings files = Holds (these ++ next) (all_applied (calls_of_all (deeds_of_all happenings)) files)

-- the same for all streams behind one
abbrev Rest : (past : List LogChange) (second : ℕ) (streams : List Stream) → Type 0
Rest past second streams =
    (last : ℕ) (these : List Stream) (files : Files) → last ≤ 20000000100 → AreStamps last (stamps_of_all (these ++ streams)) → Each KeepsFull streams → AllByRecursion IsFitEvent (ends_in last second (map (open_stream past) (living streams))) → Holds (these ++ streams) files → Goal these (all_ended (is_ending past) last second streams) (ends_in last second (map (open_stream past) (living streams))) files

-- the streams that nobody has open any more end, one after another
ends-carry : (past : List LogChange) (second last : ℕ) (front streams : List Stream) (files : Files) → last ≤ 20000000100 → AreStamps last (stamps_of_all (front ++ streams)) → Each KeepsFull streams → AllByRecursion IsFitEvent (ends_in last second (map (open_stream past) (living streams))) → Holds (front ++ streams) files → Holds (front ++ all_ended (is_ending past) last second streams) (all_applied (calls_of_all (deeds_of_all (ends_in last second (map (open_stream past) (living streams))))) files)
ends-carry past second last front [] files low are passing fit holds = holds
ends-carry past second last front (stream ∷ streams) files low are passing fit holds =
    by_life (λ l these fs. ends-carry past second l these streams fs) (lives stream) refl fit where
      stays : Rest past second streams → AllByRecursion IsFitEvent (ends_in last second (map (open_stream past) (living streams))) → Goal front (stream ∷ all_ended (is_ending past) last second streams) (ends_in last second (map (open_stream past) (living streams))) files
      stays rest others =
          let happenings = ends_in last second (map (open_stream past) (living streams)) in
          subst (λ these. Holds these (all_applied (calls_of_all (deeds_of_all happenings)) files))
          (sym (one-more front (all_ended (is_ending past) last second streams) stream))
          (rest last (front ++ stream ∷ []) files low
          (subst (λ these. AreStamps last (stamps_of_all these)) (one-more front streams stream) are) passing.1 others
          (subst (λ these. Holds these files) (one-more front streams stream) holds))

      ends : Rest past second streams → lives stream ≡ true → IsFitEvent (event.Ended (state_of stream) (pos (stamp_after last second))) → AllByRecursion IsFitEvent (ends_in (stamp_after last second) second (map (open_stream past) (living streams))) → Goal front (with_end (stamp_after last second) stream ∷ all_ended (is_ending past) (stamp_after last second) second streams) (event.Ended (state_of stream) (pos (stamp_after last second)) ∷ ends_in (stamp_after last second) second (map (open_stream past) (living streams))) files
      ends rest is one others =
          let later = stamp_after last second in
          let now = with_end later stream in
          let happening = event.Ended (state_of stream) (pos later) in
          let happenings = ends_in later second (map (open_stream past) (living streams)) in
          let between = all_applied (calls_of_all (deeds_of happening)) files in
          let unended = none_from stream.ended is in
          let low' : later ≤ 20000000100 = stamp_bound (pos later) one.stamp in
          let after = changed last later front streams stream now (later ∷ []) (stamps-ended later stream unended) (one-new last later (omega arith)) are in
          let first : Holds (front ++ now ∷ streams) between =
          carry-amid front streams stream now happening files (ending front streams stream last later unended passing.0 low' low are after one) holds in
          subst (Holds (front ++ now ∷ all_ended (is_ending past) later second streams)) (sym (applied-first happening happenings files))
          (subst (λ these. Holds these (all_applied (calls_of_all (deeds_of_all happenings)) between))
          (sym (one-more front (all_ended (is_ending past) later second streams) now))
          (rest later (front ++ now ∷ []) between low'
          (subst (λ these. AreStamps later (stamps_of_all these)) (one-more front streams now) after) passing.1 others
          (subst (λ these. Holds these between) (one-more front streams now) first)))

      by_idle : Rest past second streams → lives stream ≡ true → (idle : Bool) → AllByRecursion IsFitEvent (cond idle (event.Ended (state_of stream) (pos (stamp_after last second)) ∷ ends_in (stamp_after last second) second (map (open_stream past) (living streams))) (ends_in last second (map (open_stream past) (living streams)))) → Goal front (cond idle (with_end (stamp_after last second) stream ∷ all_ended (is_ending past) (stamp_after last second) second streams) (stream ∷ all_ended (is_ending past) last second streams)) (cond idle (event.Ended (state_of stream) (pos (stamp_after last second)) ∷ ends_in (stamp_after last second) second (map (open_stream past) (living streams))) (ends_in last second (map (open_stream past) (living streams)))) files
      by_idle rest is true both = ends rest is both.0 both.1
      by_idle rest is false both = stays rest both

      by_life : Rest past second streams → (alive : Bool) → lives stream ≡ alive → AllByRecursion IsFitEvent (ends_in last second (map (open_stream past) (cond alive (stream ∷ living streams) (living streams)))) → Goal front (cond (alive && is_idle past stream) (with_end (stamp_after last second) stream ∷ all_ended (is_ending past) (stamp_after last second) second streams) (stream ∷ all_ended (is_ending past) last second streams)) (ends_in last second (map (open_stream past) (cond alive (stream ∷ living streams) (living streams)))) files
      by_life rest true is both = by_idle rest is (is_idle past stream) both
      by_life rest false is both = stays rest both

stored-carry : (name : StreamName) (last second : ℕ) (rec : LogRecord) (past : List LogChange) (streams : List Stream) (found : Option Stream) (files : Files) → find (is_living name) streams ≡ found → option_map_or (last_with_record last second rec) found last ≤ 20000000100 → last ≤ 20000000100 → AreStamps last (stamps_of_all streams) → Each KeepsFull streams → AllByRecursion IsFitEvent (option_map_or (λ (stream : OpenStream). storing last second rec stream.state ∷ []) (option_map (open_stream past) found) []) → Holds streams files → Holds (change_first (is_living name) (with_record last second rec) streams) (all_applied (calls_of_all (deeds_of_all (option_map_or (λ (stream : OpenStream). storing last second rec stream.state ∷ []) (option_map (open_stream past) found) []))) files)
stored-carry name last second rec past streams None files none room low are passing fit holds =
    subst (λ these. Holds these files) (sym (none-amid (is_living name) (with_record last second rec) streams none)) holds
stored-carry name last second rec past streams (Some stream) files found room low are passing fit holds =
    let there = amid (is_living name) streams stream found in
    let happening = storing last second rec (state_of stream) in
    let unended = none_from stream.ended (and_parts (lives stream) _ there.passes).0 in
    let passes = Each-amid KeepsFull there.front there.behind stream (subst (Each KeepsFull) there.whole passing) in
    let now_are = subst (λ these. AreStamps last (stamps_of_all these)) there.whole are in
    subst (λ these. Holds these (all_applied (calls_of_all (deeds_of_all (happening ∷ []))) files)) (sym (there.changed (with_record last second rec)))
    (subst (Holds (there.front ++ with_record last second rec stream ∷ there.behind)) (sym (applied-first happening [] files))
    (carry-amid there.front there.behind stream (with_record last second rec stream) happening files
    (storing-in there.front there.behind stream last second rec unended passes room low now_are fit.0)
    (subst (λ these. Holds these files) there.whole holds)))

made-carry : (streams : List Stream) (opened : StreamName) (attrs : StreamAttrs) (created : ℕ) (files : Files) → IsFitEvent (made_stream (new_stream opened attrs created)) → 1 ≤ attrs.rotated → Holds streams files → Holds (streams ++ new_stream opened attrs created ∷ []) (all_applied (calls_of_all (deeds_of (made_stream (new_stream opened attrs created)))) files)
made-carry streams opened attrs created files fit some holds = carry-made streams (new_stream opened attrs created) files fit refl some holds

room-stored : (rec : LogRecord) (found : Option Stream) (last second : ℕ) → last + 2 ≤ 20000000100 → second + 2 ≤ 20000000100 → option_map_or (last_with_record last second rec) found last ≤ 20000000100
room-stored rec None last second low early = omega (arith, low)
room-stored rec (Some stream) last second low early = by_case (is_due stream rec) where
  by_case : (due : Bool) → cond due (stamp_after (stamp_after last second) second) last ≤ 20000000100
  by_case true = omega (arith, low, early)
  by_case false = omega (arith, low)

-- **the deeds of one more change make the files of a history with it**
pub deeds-carry : (setup : LogSetup) (past : List LogChange) (change : LogChange) (files : Files) → IsLogHistory setup (change ∷ past) → CanStamp setup past (second_in change) → Holds (chronicle setup past).streams files → Holds (chronicle setup (change ∷ past)).streams (all_applied (calls_of_all (deeds_by setup change past)) files)
deeds-carry setup past (Began client) files legal can holds = holds
deeds-carry setup past (Opened client opened None second number) files legal can holds = holds
deeds-carry setup past (Opened client opened (Some attrs) second number) files legal can holds =
    let now = chronicle setup past in
    let created = stamp_after now.last second in
    let passes = (makes-stream setup past client opened attrs legal.0.0 legal.0.1).passes in
    let fit = (events-fit setup past (Opened client opened (Some attrs) second number) legal can).0 in
    subst (Holds (now.streams ++ new_stream opened attrs created ∷ [])) (sym (applied-first (made_stream (new_stream opened attrs created)) [] files))
    (made-carry now.streams opened attrs created files fit passes.some_rotated holds)
deeds-carry setup past (Stored stored rec second) files legal can holds =
    let now = chronicle setup past in
    let fit = events-fit setup past (Stored stored rec second) legal can in
    let found = find-living stored past now.streams in
    let one = find (is_living stored) now.streams in
    let P : Option OpenStream → Type 0 = λ kept. AllByRecursion IsFitEvent (option_map_or (λ (stream : OpenStream). storing now.last second rec stream.state ∷ []) kept []) in
    let Q : Option OpenStream → Type 0 = λ kept. Holds (chronicle setup (Stored stored rec second ∷ past)).streams (all_applied (calls_of_all (deeds_of_all (option_map_or (λ (stream : OpenStream). storing now.last second rec stream.state ∷ []) kept []))) files) in
    subst Q (sym found)
    (stored-carry stored now.last second rec past now.streams one files refl (room-stored rec one now.last second (omega (arith, can.last)) (omega (arith, can.early))) (omega (arith, can.last)) (stamped setup past) (keeping setup past legal.1) (subst P found fit) holds)
deeds-carry setup past (Filtered client filtered mask number) files legal can holds = holds
deeds-carry setup past (Closed client closed second) files legal can holds =
    let now = chronicle setup past in
    let fit = events-fit setup past (Closed client closed second) legal can in
    let before = reached setup past legal.1 in
    let same = closed-streams past client closed second now.streams (before.single closed) in
    let P : List OpenStream → Type 0 = λ kept. AllByRecursion IsFitEvent (ends_in now.last second kept) in
    let Q : List OpenStream → Type 0 = λ kept. Holds (chronicle setup (Closed client closed second ∷ past)).streams (all_applied (calls_of_all (deeds_of_all (ends_in now.last second kept))) files) in
    subst Q same
    (ends-carry (Closed client closed second ∷ past) second now.last [] now.streams files (omega (arith, can.last)) (stamped setup past) (keeping setup past legal.1) (subst P (sym same) fit) holds)
deeds-carry setup past (Ended client second) files legal can holds =
    let now = chronicle setup past in
    let fit = events-fit setup past (Ended client second) legal can in
    let before = reached setup past legal.1 in
    let same = left-streams past client second (living now.streams) in
    let P : List OpenStream → Type 0 = λ kept. AllByRecursion IsFitEvent (ends_in now.last second kept) in
    let Q : List OpenStream → Type 0 = λ kept. Holds (chronicle setup (Ended client second ∷ past)).streams (all_applied (calls_of_all (deeds_of_all (ends_in now.last second kept))) files) in
    subst Q same
    (ends-carry (Ended client second ∷ past) second now.last [] now.streams files (omega (arith, can.last)) (stamped setup past) (keeping setup past legal.1) (subst P (sym same) fit) holds)

-- files of which the same is found are the same
pub held-once : (streams : List Stream) (one other : Files) → Holds streams one → Holds streams other → one ≡ other
held-once streams one other holds holds' =
    same_map nat_list_cmp_total names_differ one other (λ name. holds name ∙ sym (holds' name))

-- **performing the deeds of a change on the files before gives the files after it**
pub change-carries : (setup : LogSetup) (past : List LogChange) (change : LogChange) → IsLogHistory setup (change ∷ past) → CanStamp setup past (second_in change) → all_applied (calls_of_all (deeds_by setup change past)) (disk_files setup past) ≡ disk_files setup (change ∷ past)
change-carries setup past change legal can =
    held-once (chronicle setup (change ∷ past)).streams _ _
    (deeds-carry setup past change (disk_files setup past) legal can (disk-holds setup past))
    (disk-holds setup (change ∷ past))

-- **performing the deeds of the start on no files gives those of the empty history**
pub start-carries : (setup : LogSetup) → IsSetup setup → setup.start ≤ 20000000000 → all_applied (calls_of_all (opening_deeds setup)) no_files ≡ disk_files setup []
start-carries setup passes early =
    let alarm = setup.start in
    let notification = stamp_after alarm setup.start in
    let system = stamp_after notification setup.start in
    let first = new_stream name.Alarm setup.alarm alarm in
    let second = new_stream name.Notification setup.notification notification in
    let third = new_stream name.System setup.system system in
    let one = made_stream first in
    let two = made_stream second in
    let three = made_stream third in
    let after_one = all_applied (calls_of_all (deeds_of one)) no_files in
    let after_two = all_applied (calls_of_all (deeds_of two)) after_one in
    let after_three = all_applied (calls_of_all (deeds_of three)) after_two in
    let steps : all_applied (calls_of_all (opening_deeds setup)) no_files ≡ after_three =
    applied-first one (two ∷ three ∷ []) no_files ∙ applied-first two (three ∷ []) after_one ∙ applied-first three [] after_two in
    let nothing : Holds [] no_files = λ q. get-empty (slice_cmp nat_cmp) q in
    let holds_one = made-carry [] name.Alarm setup.alarm alarm no_files (fit-making name.Alarm setup.alarm alarm (omega (arith, early)) passes.alarm) passes.alarm.some_rotated nothing in
    let holds_two = made-carry (first ∷ []) name.Notification setup.notification notification after_one (fit-making name.Notification setup.notification notification (omega (arith, early)) passes.notification) passes.notification.some_rotated holds_one in
    let holds_three = made-carry (first ∷ second ∷ []) name.System setup.system system after_two (fit-making name.System setup.system system (omega (arith, early)) passes.system) passes.system.some_rotated holds_two in
    steps ∙ held-once (chronicle setup []).streams after_three (disk_files setup []) holds_three (disk-holds setup [])
