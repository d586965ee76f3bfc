-- What holds of every stream of a history: its stamps rise, it has as many files as its records ask for, and they are fit.
use Rattle.std.proofs.Common.{◌≡◌, ℕ, zero, suc, ◌+◌, ◌-◌, ◌*◌, ◌/◌, ◌<◌, ◌≤◌, min, Bool, true, false, not, ◌&&◌, cond, List, [], ◌∷◌, ◌++◌, length, drop, map, refl, ap, sym, ◌∙◌, subst, arith, le→leb, leb→le}
use Rattle.std.specs.Prelude.{Option, Some, None, option_map, is_some, pos, int_lt, ⊤, ℤ, negsuc}
use Rattle.std.specs.List.{AllByRecursion}
use Rattle.std.specs.Option.{option_to_list}
use Rattle.std.proofs.lemmas.Bool.{lt-ltb, and_from}
use Rattle.std.proofs.lemmas.List.{length-drop}
use Rattle.std.proofs.lemmas.Int.{ints}
use Rattle.stream_config.specs.declared.attrs.FullAction.{FullAction}
use Rattle.stream_config.specs.declared.attrs.FullAction.TheVariants.{Wrap, Halt, Rotate}
use Rattle.stream_config.specs.declared.attrs.StreamAttrs.{StreamAttrs}
use Rattle.stream_config.specs.declared.attrs.StreamName.{StreamName}
use Rattle.stream_config.specs.declared.state.LogFile.{LogFile}
use Rattle.stream_config.specs.declared.state.StreamState.{StreamState}
use Rattle.stream_config.specs.declared.event.Stamps.{Stamps}
use Rattle.stream_config.specs.Attributes.{kind_of, PassesAttrs}
use Rattle.stream_config.specs.Events.{open_file, file_closed, current_file, last_closed, most_files, standing, state_after}
use Rattle.stream_config.specs.declared.event.StreamEvent.TheVariants as event
use Rattle.stream_config.specs.Fit.{stamps_of, rises, count_standing, count_in, HasFitBytes, changes_file, HasFitFiles}
use Rattle.stream_config.specs.Sizes.{records_per_file, IsLength, has_room}
use Rattle.stream_config.specs.Stamps.{stamp_after}
use Rattle.stream_layout.proofs.CurrentFile.{last_closed-append}
use Rattle.stream_layout.proofs.FitSteps.{CanStore, fit-none, fit-some}
use Rattle.record_print.specs.declared.record.LogRecord.{LogRecord}
use Rattle.log_history.specs.Rounds.{Round, rounds_by, last_of, front_of}
use Rattle.log_history.specs.Chronicle.{Stream, new_stream, length_next, files_had, is_due, with_record, last_with_record, with_end, last_of_ends, stamped_files, last_file}
use Rattle.log_history.specs.Answers.{is_halting, lacks_room}
use Rattle.log_history.specs.Table.{state_of, new_state, bytes_in, length_in, due_stamps}
use Rattle.log_history.specs.Stamps.{IsStampUpTo}
use Rattle.stream_layout.specs.Carrying.{IsStamp}
use Rattle.log_history.proofs.FileSteps.{standing-push, standing-one}
use Rattle.log_history.proofs.StepLaws.{HasFull, record-long, length-is, bytes-standing, state-recorded, full-recorded}

-- stamps of files that were closed, and of the one behind them

abbrev next_created : List (ℕ × ℕ) → ℕ → ℕ
next_created [] current = current
next_created (file ∷ files) current = file.0

-- each file was made before it was closed, and that before the next one was made
abbrev pub RisesTo : List (ℕ × ℕ) → ℕ → Type 0
RisesTo [] current = ⊤
RisesTo (file ∷ files) current = (file.0 < file.1) × (file.1 < next_created files current) × RisesTo files current

next-push : (files : List (ℕ × ℕ)) (current closing created : ℕ) → next_created files current ≡ next_created (files ++ (current, closing) ∷ []) created
next-push [] current closing created = refl
next-push (file ∷ files) current closing created = refl

RisesTo-push : (files : List (ℕ × ℕ)) (current closing created : ℕ) → RisesTo files current → current < closing → closing < created → RisesTo (files ++ (current, closing) ∷ []) created
RisesTo-push [] current closing created rises before after = (before, after, tt)
RisesTo-push (file ∷ files) current closing created rises before after =
    (rises.0, subst (λ next. file.1 < next) (next-push files current closing created) rises.1, RisesTo-push files current closing created rises.2 before after)

RisesTo-drop : (k : ℕ) (files : List (ℕ × ℕ)) (current : ℕ) → RisesTo files current → RisesTo (drop k files) current
RisesTo-drop zero files current rises = rises
RisesTo-drop (suc k) [] current rises = tt
RisesTo-drop (suc k) (file ∷ files) current rises = RisesTo-drop k files current rises.2

-- files by their stamps alone
abbrev closed_file : ℕ × ℕ → LogFile
closed_file stamps = record { created = pos stamps.0; closed = Some (pos stamps.1); first = 0; bytes = 0 }

-- the last of which is open
abbrev files_to : List (ℕ × ℕ) → ℕ → List LogFile
files_to files current = map closed_file files ++ open_file (pos current) ∷ []

int-less : (a b : ℕ) → a < b → int_lt (pos a) (pos b) ≡ true
int-less a b less = lt-ltb a b less

rises-files : (files : List (ℕ × ℕ)) (current : ℕ) → RisesTo files current → rises (stamps_of (files_to files current)) ≡ true
rises-files [] current up = refl
rises-files (file ∷ []) current up =
    and_from (int_lt (pos file.0) (pos file.1)) _ (int-less file.0 file.1 up.0) (and_from (int_lt (pos file.1) (pos current)) true (int-less file.1 current up.1) refl)
rises-files (file ∷ next ∷ files) current up =
    and_from (int_lt (pos file.0) (pos file.1)) _ (int-less file.0 file.1 up.0)
    (and_from (int_lt (pos file.1) (pos next.0)) (rises (stamps_of (files_to (next ∷ files) current))) (int-less file.1 next.0 up.1) (rises-files (next ∷ files) current up.2))

created-below : (last : ℕ) (files : List (ℕ × ℕ)) (current : ℕ) → RisesTo files current → current ≤ last → next_created files current ≤ last
created-below last [] current up le = le
created-below last (file ∷ files) current up le =
    let later = created-below last files current up.2 le in omega (arith, up.0, up.1, later)

pub stamp-up-to : (last stamp : ℕ) → stamp ≤ last → IsStampUpTo (pos last) (pos stamp)
stamp-up-to last stamp le = record { from = record { le = le→leb 0 stamp (omega arith) }; to = record { le = le→leb stamp last le } }

pub up-to-lt : (last next : ℕ) (stamp : ℤ) → last < next → IsStampUpTo (pos last) stamp → int_lt stamp (pos next) ≡ true
up-to-lt last next (pos n) less is =
    let le : n ≤ last = leb→le n last is.to.le in grind (arith, ints)
up-to-lt last next (negsuc n) less is = absurd is.from.le

pub stamp-is : (stamp : ℕ) → stamp ≤ 20000000100 → IsStamp (pos stamp)
stamp-is stamp le = (record { le = le→leb 0 stamp (omega arith) }, record { le = le→leb stamp 20000000100 le })

stamps-up-to : (last : ℕ) (files : List (ℕ × ℕ)) (current : ℕ) → RisesTo files current → current ≤ last → AllByRecursion (IsStampUpTo (pos last)) (stamps_of (files_to files current))
stamps-up-to last [] current up le = (stamp-up-to last current le, tt)
stamps-up-to last (file ∷ files) current up le =
    let later = created-below last files current up.2 le in
    (stamp-up-to last file.0 (omega (arith, up.0, up.1, later)), (stamp-up-to last file.1 (omega (arith, up.1, later)), stamps-up-to last files current up.2 le))

-- the stamps of a stream's files

stamps-had : (full : List (ℕ × ℕ)) (rounds : List Round) (last : LogFile) (current : ℕ) → length rounds ≡ length full → last.created ≡ pos current → last.closed ≡ None
    → stamps_of (stamped_files full rounds ++ last ∷ []) ≡ stamps_of (files_to full current)
stamps-had [] [] last current alike made opened =
    ap (λ (closed : Option ℤ). last.created ∷ option_to_list closed ++ []) opened ∙ ap (λ (created : ℤ). created ∷ []) made
stamps-had [] (round ∷ rounds) last current alike made opened = absurd (omega (arith, alike))
stamps-had (file ∷ full) [] last current alike made opened = absurd (omega (arith, alike))
stamps-had (file ∷ full) (round ∷ rounds) last current alike made opened =
    ap (λ stamps. pos file.0 ∷ pos file.1 ∷ stamps) (stamps-had full rounds last current (omega (arith, alike)) made opened)

drop-had : (k : ℕ) (full : List (ℕ × ℕ)) (rounds : List Round) → drop k (stamped_files full rounds) ≡ stamped_files (drop k full) (drop k rounds)
drop-had zero full rounds = refl
drop-had (suc k) [] rounds = refl
drop-had (suc k) (stamps ∷ full) [] = none (drop k full) where
  none : (full : List (ℕ × ℕ)) → (let files : List LogFile = [] in files) ≡ stamped_files full []
  none [] = refl
  none (stamps ∷ full) = refl
drop-had (suc k) (stamps ∷ full) (round ∷ rounds) = drop-had k full rounds

alike-drop : {X Y : Type 0} (k : ℕ) (xs : List X) (ys : List Y) → length xs ≡ length ys → length (drop k xs) ≡ length (drop k ys)
alike-drop k xs ys alike = let one = length-drop k xs in let other = length-drop k ys in omega (arith, one, other, alike)

-- what holds of a stream of a history, by the last stamp
pub record IsSoundStream (last : ℕ) (stream : Stream) : Type 0 where
  pub rising : RisesTo stream.full stream.current
  pub upto : stream.current ≤ last
  pub count : HasFull stream
  pub fit : stream.ended ≡ None → HasFitFiles (state_of stream)

pub sound-later : (last later : ℕ) (stream : Stream) → last ≤ later → IsSoundStream last stream → IsSoundStream later stream
sound-later last later stream le is =
    record { rising = is.rising; upto = omega (arith, is.upto); count = is.count; fit = is.fit }

pub sound-ended : (last closed : ℕ) (stream : Stream) → IsSoundStream last stream → IsSoundStream last (with_end closed stream)
sound-ended last closed stream is =
    record { rising = is.rising; upto = is.upto; count = is.count; fit = λ living. cc }

-- of a stream those files that stand
standing-split : (stream : Stream) → 1 ≤ stream.attrs.rotated
    → (k : ℕ) × ((state_of stream).files ≡ stamped_files (drop k stream.full) (drop k (front_of (files_had stream))) ++ last_file stream.current stream.ended (last_of (files_had stream)) ∷ [])
standing-split stream some =
    let front = stamped_files stream.full (front_of (files_had stream)) in
    let last = last_file stream.current stream.ended (last_of (files_had stream)) in
    let k = length front + 1 - most_files stream.attrs.action stream.attrs.rotated in
    (k, standing-push stream.attrs front last some ∙ ap (λ files. files ++ last ∷ []) (drop-had k stream.full (front_of (files_had stream))))

-- the stamps of those that stand
standing-stamps : (last : ℕ) (stream : Stream) → 1 ≤ stream.attrs.rotated → stream.ended ≡ None → IsSoundStream last stream
    → (k : ℕ) × (stamps_of (state_of stream).files ≡ stamps_of (files_to (drop k stream.full) stream.current))
standing-stamps last stream some living is =
    let split = standing-split stream some in
    let k = split.0 in (
      k,
      ap stamps_of split.1
          ∙ stamps-had (drop k stream.full) (drop k (front_of (files_had stream))) (last_file stream.current stream.ended (last_of (files_had stream))) stream.current
          (alike-drop k (front_of (files_had stream)) stream.full is.count) refl (ap (option_map pos) living),
    )

pub fit-stamps : (last : ℕ) (stream : Stream) → 1 ≤ stream.attrs.rotated → stream.ended ≡ None → IsSoundStream last stream → AllByRecursion (IsStampUpTo (pos last)) (stamps_of (state_of stream).files)
fit-stamps last stream some living is =
    let stand = standing-stamps last stream some living is in
    subst (AllByRecursion (IsStampUpTo (pos last))) (sym stand.1)
    (stamps-up-to last (drop stand.0 stream.full) stream.current (RisesTo-drop stand.0 stream.full stream.current is.rising) is.upto)

-- a change of file comes behind the files that stand
later-stamps : (last closing created : ℕ) (stream : Stream) → 1 ≤ stream.attrs.rotated → stream.ended ≡ None → IsSoundStream last stream → last < closing → closing < created
    → rises (stamps_of (last_closed (pos closing) (state_of stream).files ++ open_file (pos created) ∷ [])) ≡ true
later-stamps last closing created stream some living is after behind =
    let split = standing-split stream some in
    let k = split.0 in
    let full = drop k stream.full in
    let rounds = drop k (front_of (files_had stream)) in
    let current = last_file stream.current stream.ended (last_of (files_had stream)) in
    let front = stamped_files full rounds in
    let upto = is.upto in
    let files : last_closed (pos closing) (state_of stream).files ++ open_file (pos created) ∷ [] ≡ (front ++ file_closed (pos closing) current ∷ []) ++ open_file (pos created) ∷ [] =
    ap (λ files. last_closed (pos closing) files ++ open_file (pos created) ∷ []) split.1
    ∙ ap (λ files. files ++ open_file (pos created) ∷ []) (last_closed-append (pos closing) front current) in
    let stamps = two-behind full rounds current (open_file (pos created)) stream.current closing created (alike-drop k (front_of (files_had stream)) stream.full is.count) refl refl refl in
    ap rises (ap stamps_of files ∙ stamps)
    ∙ rises-files (full ++ (stream.current, closing) ∷ []) created
    (RisesTo-push full stream.current closing created (RisesTo-drop k stream.full stream.current is.rising) (omega (arith, upto, after)) behind)
  where
    two-behind : (full : List (ℕ × ℕ)) (rounds : List Round) (old new : LogFile) (current closing created : ℕ) → length rounds ≡ length full → old.created ≡ pos current → new.created ≡ pos created → new.closed ≡ None
        → stamps_of ((stamped_files full rounds ++ file_closed (pos closing) old ∷ []) ++ new ∷ []) ≡ stamps_of (files_to (full ++ (current, closing) ∷ []) created)
    two-behind [] [] old new current closing created alike made made' opened =
        ap (λ (closed : Option ℤ). old.created ∷ pos closing ∷ new.created ∷ option_to_list closed ++ []) opened
        ∙ ap (λ (stamp : ℤ). stamp ∷ pos closing ∷ new.created ∷ []) made ∙ ap (λ (stamp : ℤ). pos current ∷ pos closing ∷ stamp ∷ []) made'
    two-behind [] (round ∷ rounds) old new current closing created alike made made' opened = absurd (omega (arith, alike))
    two-behind (file ∷ full) [] old new current closing created alike made made' opened = absurd (omega (arith, alike))
    two-behind (file ∷ full) (round ∷ rounds) old new current closing created alike made made' opened =
        ap (λ stamps. pos file.0 ∷ pos file.1 ∷ stamps) (two-behind full rounds old new current closing created (omega (arith, alike)) made made' opened)

-- a HALT stream whose next record does not lack room has room for it
pub room-left : (attrs : StreamAttrs) (bytes len : ℕ) → lacks_room attrs bytes len ≡ false → attrs.action ≡ Halt → has_room attrs bytes len ≡ true
room-left attrs bytes len room halts = by_room (has_room attrs bytes len) (ap (λ action. is_halting action && not (has_room attrs bytes len)) (sym halts) ∙ room) where
  by_room : (b : Bool) → not b ≡ false → b ≡ true
  by_room true e = refl
  by_room false e = cc

pub due-is : (b : Bool) (stamps : Stamps) → is_some (cond b (Some stamps) None) ≡ b
due-is true stamps = refl
due-is false stamps = refl

-- a record that a stream of a history takes
pub can-store-next : (last second : ℕ) (rec : LogRecord) (stream : Stream) → PassesAttrs (kind_of stream.name) stream.attrs → stream.ended ≡ None → lacks_room stream.attrs (last_of (files_had stream)).bytes (length_next stream rec) ≡ false
    → HasFitFiles (state_of stream) → CanStore (state_of stream) (bytes_in (state_of stream) rec) (due_stamps last second rec (state_of stream))
can-store-next last second rec stream passes living room fit =
    let attrs = stream.attrs in
    let state = state_of stream in
    let bytes = (current_file state.files).bytes in
    let long = record-long attrs (length stream.records + 1) rec in
    let now = bytes-standing stream passes.some_rotated in
    let stamps : Stamps = record { closed = pos (stamp_after last second); created = pos (stamp_after (stamp_after last second) second) } in
    record {
      attributes = passes;
      standing = fit;
      size = subst (IsLength attrs) (sym long) (length-is attrs (length stream.records + 1) rec passes.sizes);
      room = λ halts. ap (has_room attrs bytes) long ∙ ap (λ b. has_room attrs b (length_next stream rec)) now ∙ room-left attrs (last_of (files_had stream)).bytes (length_next stream rec) room halts;
      changes = due-is (changes_file attrs bytes (length_in state rec)) stamps ∙ ap (changes_file attrs bytes) (sym long);
    }

-- the stamps and the count of files once a record is stored
record IsRecorded (last second : ℕ) (full : List (ℕ × ℕ)) (current : ℕ) (due : Bool) : Type 0 where
  rising : RisesTo (cond due (full ++ (current, stamp_after last second) ∷ []) full) (cond due (stamp_after (stamp_after last second) second) current)
  upto : cond due (stamp_after (stamp_after last second) second) current ≤ cond due (stamp_after (stamp_after last second) second) last

recorded : (last second : ℕ) (full : List (ℕ × ℕ)) (current : ℕ) (due : Bool) → RisesTo full current → current ≤ last → IsRecorded last second full current due
recorded last second full current true rising upto = record {
  rising = RisesTo-push full current (stamp_after last second) (stamp_after (stamp_after last second) second) rising (omega arith) (omega arith);
  upto = omega arith;
}
recorded last second full current false rising upto = record { rising = rising; upto = upto }

pub sound-recorded : (last second : ℕ) (rec : LogRecord) (stream : Stream) → PassesAttrs (kind_of stream.name) stream.attrs → stream.ended ≡ None → lacks_room stream.attrs (last_of (files_had stream)).bytes (length_next stream rec) ≡ false
    → IsSoundStream last stream → IsSoundStream (last_with_record last second rec stream) (with_record last second rec stream)
sound-recorded last second rec stream passes living room is =
    let now = recorded last second stream.full stream.current (is_due stream rec) is.rising is.upto in
    record {
      rising = now.rising;
      upto = now.upto;
      count = full-recorded last second rec stream passes.sizes is.count;
      fit = λ _. subst HasFitFiles (sym (state-recorded last second rec stream passes.sizes passes.some_rotated living is.count)) (by_due (changes_file stream.attrs (current_file (state_of stream).files).bytes (length_in (state_of stream) rec)) refl);
    }
  where
    by_due : (due : Bool) → changes_file stream.attrs (current_file (state_of stream).files).bytes (length_in (state_of stream) rec) ≡ due
        → HasFitFiles (state_after (event.Stored (state_of stream) (bytes_in (state_of stream) rec) (due_stamps last second rec (state_of stream))))
    by_due due due_is = by_stamps due (ap (λ b. cond b (Some two) None) due_is) where
      two : Stamps
      two = record { closed = pos (stamp_after last second); created = pos (stamp_after (stamp_after last second) second) }

      can : CanStore (state_of stream) (bytes_in (state_of stream) rec) (due_stamps last second rec (state_of stream))
      can = can-store-next last second rec stream passes living room (is.fit living)

      by_stamps : (due : Bool) → due_stamps last second rec (state_of stream) ≡ cond due (Some two) None
          → HasFitFiles (state_after (event.Stored (state_of stream) (bytes_in (state_of stream) rec) (due_stamps last second rec (state_of stream))))
      by_stamps true stamps_are =
          subst (λ stamps. HasFitFiles (state_after (event.Stored (state_of stream) (bytes_in (state_of stream) rec) stamps))) (sym stamps_are)
          (fit-some (state_of stream) (bytes_in (state_of stream) rec) two (subst (CanStore (state_of stream) (bytes_in (state_of stream) rec)) stamps_are can)
          (later-stamps last (stamp_after last second) (stamp_after (stamp_after last second) second) stream passes.some_rotated living is (omega arith) (omega arith)))
      by_stamps false stamps_are =
          subst (λ stamps. HasFitFiles (state_after (event.Stored (state_of stream) (bytes_in (state_of stream) rec) stamps))) (sym stamps_are)
          (fit-none (state_of stream) (bytes_in (state_of stream) rec) (subst (CanStore (state_of stream) (bytes_in (state_of stream) rec)) stamps_are can))

pub last-grows : (ends : Stream → Bool) (last second : ℕ) (streams : List Stream) → last ≤ last_of_ends ends last second streams
last-grows ends last second [] = omega arith
last-grows ends last second (stream ∷ streams) =
    by_case (ends stream) (last-grows ends (stamp_after last second) second streams) (last-grows ends last second streams) where
      by_case : (b : Bool) → stamp_after last second ≤ last_of_ends ends (stamp_after last second) second streams → last ≤ last_of_ends ends last second streams → last ≤ last_of_ends ends (cond b (stamp_after last second) last) second streams
      by_case true ended stays = omega (arith, ended)
      by_case false ended stays = stays

-- a stream that is new

made-round : (action : FullAction) (n size most : ℕ) → (last_of (rounds_by action n size most []) ≡ record { first = 0; bytes = 0 }) × (length (front_of (rounds_by action n size most [])) ≡ 0)
made-round Wrap n size most = (let none : min 0 n ≡ 0 = omega arith in let nothing : 0 * size ≡ 0 = omega arith in ap round_of_bytes (ap (λ m. m * size) none ∙ nothing), refl) where
  round_of_bytes : ℕ → Round
  round_of_bytes bytes = record { first = 0; bytes = bytes }
made-round Halt n size most = (refl, refl)
made-round Rotate n size most = (refl, refl)

-- what stands of it
pub made-is : (name : StreamName) (attrs : StreamAttrs) (created : ℕ) → 1 ≤ attrs.rotated → state_of (new_stream name attrs created) ≡ new_state name attrs created
made-is name attrs created some =
    let first = made-round attrs.action (records_per_file attrs) attrs.record_size attrs.max_file in
    ap (λ round. state_with (standing attrs (last_file created None round ∷ []))) first.0
    ∙ ap state_with (standing-one attrs (open_file (pos created)) some)
  where
    state_with : List LogFile → StreamState
    state_with files = record { name = name; attrs = attrs; taken = 0; opened = 1; files = files }

zero-count : (action : FullAction) (n : ℕ) → count_in action n (0 - 0) ≡ 0
zero-count Wrap n = omega arith
zero-count Halt n = omega arith
zero-count Rotate n = omega arith

one-file : (action : FullAction) (rotated : ℕ) → 1 ≤ rotated → 1 ≡ count_standing action rotated 1
one-file Wrap rotated some = refl
one-file Halt rotated some = refl
one-file Rotate rotated some = omega arith

pub fit-made : (name : StreamName) (attrs : StreamAttrs) (created : ℕ) → 1 ≤ attrs.rotated → HasFitFiles (new_state name attrs created)
fit-made name attrs created some = record {
  rising = refl;
  last_open = refl;
  some = omega arith;
  one = λ _. refl;
  few = omega arith;
  count = one-file attrs.action attrs.rotated some;
  begins = λ _. refl;
  filled = (
    record {
      order = omega arith;
      some = λ more. absurd (omega (arith, more));
      bytes = subst (λ count. HasFitBytes attrs count 0) (sym (zero-count attrs.action (records_per_file attrs)))
          (record { alike = λ _. (omega arith, omega arith); free = λ _. (omega arith, omega arith, omega arith) });
    },
    tt,
  );
  even = λ rotates alike. record { opened = (let none : 0 ≡ (0 - 1) / records_per_file attrs = omega arith in ap (λ q. q + 1) none); firsts = (omega arith, tt) };
}

pub new-sound : (name : StreamName) (attrs : StreamAttrs) (created last : ℕ) → created ≤ last → 1 ≤ attrs.rotated → IsSoundStream last (new_stream name attrs created)
new-sound name attrs created last le some = record {
  rising = tt;
  upto = le;
  count = (made-round attrs.action (records_per_file attrs) attrs.record_size attrs.max_file).1;
  fit = λ _. subst HasFitFiles (sym (made-is name attrs created some)) (fit-made name attrs created some);
}
