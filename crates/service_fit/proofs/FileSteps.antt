-- A living stream stays fit as a record is stored.
use Rattle.std.proofs.Common.{◌≡◌, ℕ, zero, suc, ◌+◌, ◌-◌, ◌<◌, ◌≤◌, Bool, true, false, cond, List, [], ◌∷◌, ◌++◌, length, drop, refl, ap, sym, ◌∙◌, subst, arith, leb→le}
use Rattle.std.specs.Prelude.{Some, None, ℤ, pos, negsuc, int_lt}
use Rattle.std.specs.Option.{option_to_list}
use Rattle.std.specs.List.{AllByRecursion}
use Rattle.std.proofs.lemmas.Int.{ints}
use Rattle.std.proofs.lemmas.Bool.{and_parts, and_from}
use Rattle.ais_values.proofs.Basics.{AllByRecursion-append}
use Rattle.stream_config.specs.declared.attrs.StreamName.{StreamName}
use Rattle.stream_config.specs.declared.mark.Mark.{Mark}
use Rattle.stream_config.specs.declared.event.Stamps.{Stamps}
use Rattle.stream_config.specs.declared.event.StreamEvent.TheVariants.{Stored}
use Rattle.stream_config.specs.declared.state.LogFile.{LogFile}
use Rattle.stream_config.specs.Events.{open_file, file_begun, current_file, last_closed, most_files, next_offset, state_after}
use Rattle.stream_config.specs.Fit.{stamps_of, rises, changes_file}
use Rattle.stream_config.specs.Sizes.{IsLength, has_room}
use Rattle.stream_config.specs.Stamps.{stamp_after}
use Rattle.stream_layout.specs.Repeating.{IsLater}
use Rattle.stream_layout.proofs.CurrentFile.{stamps-closed}
use Rattle.stream_layout.proofs.FitSteps.{CanStore, stamps-with, stamps-begun, fit-none, fit-some}
use Rattle.record_print.specs.declared.record.LogRecord.{LogRecord}
use Rattle.log_history.specs.KeptAnswers.{lacks_room_in}
use Rattle.log_history.specs.Stamps.{IsStampUpTo}
use Rattle.log_history.specs.Table.{OpenStream, bytes_in, length_in, is_changing, due_stamps, last_after_due, with_stored}
use Rattle.log_history.proofs.StepLaws.{record-long, length-is}
use Rattle.log_history.proofs.StreamLaws.{stamp-up-to, up-to-lt, room-left, due-is}
use Rattle.plain_service.specs.Fitness.{IsFitMark}
use Rattle.plain_service.proofs.ListLaws.{each-weaker}
use Rattle.service_fit.specs.Fit.{IsFitState}

-- stamps

pub up-to-later : (last later : ℕ) → last ≤ later → (stamp : ℤ) → IsStampUpTo (pos last) stamp → IsStampUpTo (pos later) stamp
up-to-later last later le (pos n) is = stamp-up-to later n (omega (arith, leb→le n last is.to.le, le))
up-to-later last later le (negsuc n) is = absurd is.from.le

rises-push : (last closed created : ℕ) → last < closed → closed < created → (stamps : List ℤ) → AllByRecursion (IsStampUpTo (pos last)) stamps → rises stamps ≡ true → rises (stamps ++ pos closed ∷ pos created ∷ []) ≡ true
rises-push last closed created one two [] each up = and_from (int_lt (pos closed) (pos created)) true (grind (arith, ints)) refl
rises-push last closed created one two (stamp ∷ []) each up =
    and_from (int_lt stamp (pos closed)) (rises (pos closed ∷ pos created ∷ [])) (up-to-lt last closed stamp one each.0) (rises-push last closed created one two [] tt refl)
rises-push last closed created one two (stamp ∷ next ∷ stamps) each up =
    let split = and_parts (int_lt stamp next) (rises (next ∷ stamps)) up in
    and_from (int_lt stamp next) (rises ((next ∷ stamps) ++ pos closed ∷ pos created ∷ [])) split.0 (rises-push last closed created one two (next ∷ stamps) each.1 split.1)

module _ {X : Type 0} (P : X → Type 0) where
  all-behind : (xs ys : List X) → AllByRecursion P (xs ++ ys) → AllByRecursion P ys
  all-behind [] ys each = each
  all-behind (x ∷ xs) ys each = all-behind xs ys each.1

stamps-drop : (P : ℤ → Type 0) (k : ℕ) (files : List LogFile) → AllByRecursion P (stamps_of files) → AllByRecursion P (stamps_of (drop k files))
stamps-drop P zero files each = each
stamps-drop P (suc k) [] each = each
stamps-drop P (suc k) (file ∷ files) each = stamps-drop P k files (all-behind P (option_to_list file.closed) (stamps_of files) each.1)

-- a mark stays fit as entries are accepted
later-mark : (number : ℕ) (name : StreamName) (mark : Mark) → IsFitMark number name mark → IsFitMark (number + 1) name mark
later-mark number name mark is = record { mask = is.mask; since = omega (arith, is.since); unset = is.unset }

module _ (last second number : ℕ) (rec : LogRecord) (stream : OpenStream) (ready : IsFitState last number stream) (room : lacks_room_in stream.state rec ≡ false) where
  abbrev two : Stamps
  two = record { closed = pos (stamp_after last second); created = pos (stamp_after (stamp_after last second) second) }

  -- the stream takes the record
  pub can-take : CanStore stream.state (bytes_in stream.state rec) (due_stamps last second rec stream.state)
  can-take =
      let attrs = stream.state.attrs in
      let at = (current_file stream.state.files).bytes in
      let long = record-long attrs (stream.state.taken + 1) rec in
      record {
        attributes = ready.attributes;
        standing = ready.files;
        size = subst (IsLength attrs) (sym long) (length-is attrs (stream.state.taken + 1) rec ready.attributes.sizes);
        room = λ halts. ap (has_room attrs at) long ∙ room-left attrs at (length_in stream.state rec) room halts;
        changes = due-is (is_changing stream.state rec) two ∙ ap (changes_file attrs at) (sym long);
      }

  by_due : (due : Bool) → CanStore stream.state (bytes_in stream.state rec) (cond due (Some two) None) → IsFitState (cond due (stamp_after (stamp_after last second) second) last) (number + 1) (record { state = state_after (Stored stream.state (bytes_in stream.state rec) (cond due (Some two) None)); openers = stream.openers; mark = stream.mark })
  by_due false can = record {
    attributes = ready.attributes;
    files = fit-none stream.state (bytes_in stream.state rec) can;
    stamps = subst (AllByRecursion (IsStampUpTo (pos last))) (sym (stamps-with (next_offset stream.state) (length (bytes_in stream.state rec)) stream.state.files)) ready.stamps;
    taken = omega (arith, ready.taken);
    mark = later-mark number stream.state.name stream.mark ready.mark;
  }
  by_due true can =
      let attrs = stream.state.attrs in
      let files = stream.state.files in
      let closed = stamp_after last second in
      let created = stamp_after closed second in
      let shut = last_closed (pos closed) files in
      let fresh = file_begun (pos created) stream.state.taken (length (bytes_in stream.state rec)) in
      let same : stamps_of (shut ++ open_file (pos created) ∷ []) ≡ stamps_of files ++ pos closed ∷ pos created ∷ [] =
      stamps-closed (pos closed) (pos created) files ready.files.last_open in
      let later : IsLater (Stored stream.state (bytes_in stream.state rec) (Some two)) =
      ap rises same ∙ rises-push last closed created (omega arith) (omega arith) (stamps_of files) ready.stamps ready.files.rising in
      let stamped : AllByRecursion (IsStampUpTo (pos created)) (stamps_of (shut ++ fresh ∷ [])) =
      subst (AllByRecursion (IsStampUpTo (pos created))) (sym (stamps-begun (pos created) stream.state.taken (length (bytes_in stream.state rec)) shut ∙ same))
      (AllByRecursion-append (IsStampUpTo (pos created)) (stamps_of files) (pos closed ∷ pos created ∷ [])
      (each-weaker (IsStampUpTo (pos last)) (IsStampUpTo (pos created)) (up-to-later last created (omega arith)) (stamps_of files) ready.stamps)
      (stamp-up-to created closed (omega arith), (stamp-up-to created created (omega arith), tt))) in
      record {
        attributes = ready.attributes;
        files = fit-some stream.state (bytes_in stream.state rec) two can later;
        stamps = stamps-drop (IsStampUpTo (pos created)) (length (shut ++ fresh ∷ []) - most_files attrs.action attrs.rotated) (shut ++ fresh ∷ []) stamped;
        taken = omega (arith, ready.taken);
        mark = later-mark number stream.state.name stream.mark ready.mark;
      }

  -- **a stream with one record more**
  pub fit-stored : IsFitState (last_after_due last second rec stream.state) (number + 1) (with_stored last second rec stream)
  fit-stored = by_due (is_changing stream.state rec) can-take

pub later-stream : (last later number : ℕ) (stream : OpenStream) → last ≤ later → IsFitState last number stream → IsFitState later (number + 1) stream
later-stream last later number stream le ready = record {
  attributes = ready.attributes;
  files = ready.files;
  stamps = each-weaker (IsStampUpTo (pos last)) (IsStampUpTo (pos later)) (up-to-later last later le) (stamps_of stream.state.files) ready.stamps;
  taken = omega (arith, ready.taken);
  mark = later-mark number stream.state.name stream.mark ready.mark;
}
