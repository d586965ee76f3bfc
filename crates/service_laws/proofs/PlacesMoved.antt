-- Where a record stands before and after a change: at one place, or in the file that was current and got its other name.
use Rattle.std.proofs.Common.{◌≡◌, ℕ, zero, suc, ◌+◌, ◌-◌, ◌<◌, ◌≤◌, nat_le, nat_lt, Bool, true, false, not, ◌&&◌, cond, ◌⊎◌, inl, inr, List, [], ◌∷◌, ◌++◌, length, drop, map, refl, ap, sym, ◌∙◌, subst, arith, append_assoc}
use Rattle.std.specs.Prelude.{Option, Some, None, option_map, pos, filter, slice_get}
use Rattle.std.specs.List.{concat, find}
use Rattle.std.proofs.lemmas.Bool.{and_parts, leb-true, ltb-true, le-ltb}
use Rattle.client_set.specs.Members.{Stands}
use Rattle.client_set.proofs.MemberLaws.{Stands-append_left, Stands-append_right}
use Rattle.record_print.specs.declared.record.LogRecord.{LogRecord}
use Rattle.stream_config.specs.declared.attrs.FullAction.{FullAction}
use Rattle.stream_config.specs.declared.attrs.FullAction.TheVariants.{Wrap, Halt, Rotate}
use Rattle.stream_config.specs.declared.attrs.StreamAttrs.{StreamAttrs}
use Rattle.stream_config.specs.declared.event.Stamps.{Stamps}
use Rattle.stream_config.specs.declared.event.StreamEvent.TheVariants as event
use Rattle.stream_config.specs.declared.state.LogFile.{LogFile}
use Rattle.stream_config.specs.declared.state.StreamState.{StreamState}
use Rattle.stream_config.specs.Events.{file_begun, file_closed, file_with, last_with, last_closed, most_files, standing, next_offset, files_stored, state_after}
use Rattle.stream_config.specs.Fit.{next_first, first_in, first_standing, is_rotating}
use Rattle.stream_config.specs.Sizes.{records_per_file, has_room}
use Rattle.stream_config.specs.Stamps.{stamp_after}
use Rattle.stream_layout.specs.Carrying.{IsFitStream}
use Rattle.stream_layout.specs.Deeds.{current_file}
use Rattle.stream_layout.specs.Names.{stamped_name, log_name}
use Rattle.stream_layout.proofs.CurrentFile.{HasCurrent, has_current, current_file-append, last_closed-append}
use Rattle.stream_layout.proofs.EntryLaws.{Follow, next_first-append, records_from-full}
use Rattle.stream_layout.proofs.EventLaws.{IsLaidOut, laid_out, last_with-append, shut_follow}
use Rattle.stream_layout.proofs.FitSteps.{rotating-so}
use Rattle.log_history.specs.AllNames.{NoneTwice, names_in, names_of_all}
use Rattle.log_history.specs.Changes.{LogChange}
use Rattle.log_history.specs.Chronicle.{Stream, files_had, lives, is_idle, is_ending, with_record, with_end, all_ended, stamped_files, last_file}
use Rattle.log_history.specs.Files.{records_of}
use Rattle.log_history.specs.Firsts.{change_first}
use Rattle.log_history.specs.Places.{files_now, first_of, is_standing, file_of, offset_of, spot_in_file, place_of}
use Rattle.log_history.specs.Rounds.{last_of, front_of}
use Rattle.log_history.specs.Table.{open_stream, state_of, bytes_in, length_in, is_changing, due_stamps, storing, ends_in}
use Rattle.ais_values.proofs.Basics.{none_from}
use Rattle.log_history.proofs.BytesLaws.{length-printed}
use Rattle.log_history.proofs.CarryLaws.{printed-push}
use Rattle.log_history.proofs.FileSteps.{standing-push}
use Rattle.log_history.proofs.Reaching.{Passes}
use Rattle.log_history.proofs.RecordLaws.{once-behind, named-among}
use Rattle.log_history.proofs.StepLaws.{HasFull, state-recorded}

-- a place that is told, by its file
pub record PlaceIs (stream : Stream) (number : ℕ) (place : List ℕ × ℕ) : Type 0 where
  pub file : LogFile
  pub at : file_of number (length stream.records) (files_now stream) ≡ Some file
  pub is : spot_in_file stream number file ≡ place
  pub stands : is_standing stream number ≡ true

pub place-is : (stream : Stream) (number : ℕ) (place : List ℕ × ℕ) → place_of stream number ≡ Some place → PlaceIs stream number place
place-is stream number place is =
    by_case (is_standing stream number) refl (file_of number (length stream.records) (files_now stream)) refl is where
      by_case : (b : Bool) → is_standing stream number ≡ b → (found : Option LogFile) → file_of number (length stream.records) (files_now stream) ≡ found → cond b (option_map (spot_in_file stream number) found) None ≡ Some place → PlaceIs stream number place
      by_case false none found there same = cc
      by_case true stands None there same = cc
      by_case true stands (Some file) there same = record { file = file; at = there; is = cc; stands = stands }

-- the file was current, and got the name that it has since it was closed
pub record Moved (stream : Stream) (closing : ℕ) (spot after : List ℕ × ℕ) : Type 0 where
  pub from : spot.0 ≡ stamped_name stream.attrs (pos stream.current) None
  pub to : after.0 ≡ stamped_name stream.attrs (pos stream.current) (Some (pos closing))
  pub offset : after.1 ≡ spot.1

pub same-place : (spot after : List ℕ × ℕ) → after.0 ≡ spot.0 → after.1 ≡ spot.1 → after ≡ spot
same-place spot after one two = λ i. (one i, two i)

-- the walk through files to that of a record

-- the file that is found is one of them, and begins with the record or before it
pub found-low : (number until : ℕ) (files : List LogFile) (file : LogFile) → file_of number until files ≡ Some file → (file.first ≤ number) × Stands file files
found-low number until [] file is = cc
found-low number until (first ∷ files) file is =
    by_case (nat_le first.first number && nat_lt number (next_first files until)) refl is (found-low number until files file) where
      by_case : (b : Bool) → (nat_le first.first number && nat_lt number (next_first files until)) ≡ b → cond b (Some first) (file_of number until files) ≡ Some file → (file_of number until files ≡ Some file → (file.first ≤ number) × Stands file files) → (file.first ≤ number) × Stands file (first ∷ files)
      by_case true within same behind =
          let e : first ≡ file = cc in
          subst (λ (f : LogFile). (f.first ≤ number) × Stands f (first ∷ files)) e (leb-true first.first number (and_parts (nat_le first.first number) (nat_lt number (next_first files until)) within).0, inl refl)
      by_case false within same behind = let later = behind same in (later.0, inr later.1)

found-last : (number until : ℕ) (last file : LogFile) → file_of number until (last ∷ []) ≡ Some file → file ≡ last
found-last number until last file is = by_case (nat_le last.first number && nat_lt number until) is where
  by_case : (b : Bool) → cond b (Some last) None ≡ Some file → file ≡ last
  by_case true same = cc
  by_case false none = cc

found-before : (number until : ℕ) (one other file : LogFile) → number < other.first → file_of number until (one ∷ other ∷ []) ≡ Some file → file ≡ one
found-before number until one other file low is = by_case (nat_le one.first number && nat_lt number other.first) is where
  by_case : (b : Bool) → cond b (Some one) (file_of number until (other ∷ [])) ≡ Some file → file ≡ one
  by_case true same = cc
  by_case false behind =
      let le : other.first ≤ number = subst (λ (f : LogFile). f.first ≤ number) (found-last number until other file behind) (found-low number until (other ∷ []) file behind).0 in
      absurd (omega (arith, low, le))

-- through files that differ from the last on, which begins with the same record
last-two : (number until later : ℕ) (front : List LogFile) (a b : LogFile) (more : List LogFile) (f g : LogFile) → a.first ≡ b.first → (file_of number later (b ∷ more) ≡ Some g → g ≡ b)
    → file_of number until (front ++ a ∷ []) ≡ Some f → file_of number later (front ++ b ∷ more) ≡ Some g → (f ≡ g) ⊎ ((f ≡ a) × (g ≡ b))
last-two number until later [] a b more f g same alone is is' = inr (found-last number until a f is, alone is')
last-two number until later (file ∷ front) a b more f g same alone is is' =
    let next : next_first (front ++ a ∷ []) until ≡ next_first (front ++ b ∷ more) later =
    next_first-append front (a ∷ []) until ∙ ap (next_first front) same ∙ sym (next_first-append front (b ∷ more) later) in
    by_case (nat_le file.first number && nat_lt number (next_first (front ++ b ∷ more) later))
    (ap (λ n. cond (nat_le file.first number && nat_lt number n) (Some file) (file_of number until (front ++ a ∷ []))) (sym next) ∙ is) is'
    (last-two number until later front a b more f g same alone) where
      by_case : (t : Bool) → cond t (Some file) (file_of number until (front ++ a ∷ [])) ≡ Some f → cond t (Some file) (file_of number later (front ++ b ∷ more)) ≡ Some g
          → (file_of number until (front ++ a ∷ []) ≡ Some f → file_of number later (front ++ b ∷ more) ≡ Some g → (f ≡ g) ⊎ ((f ≡ a) × (g ≡ b))) → (f ≡ g) ⊎ ((f ≡ a) × (g ≡ b))
      by_case true one other behind = inl (cc)
      by_case false one other behind = behind one other

firsts-rise : (until k : ℕ) (files : List LogFile) → Follow until files → next_first files until ≤ next_first (drop k files) until
firsts-rise until zero files follow = omega arith
firsts-rise until (suc k) [] follow = omega arith
firsts-rise until (suc k) (file ∷ files) follow = let rest = firsts-rise until k files follow.1 in omega (arith, follow.0, rest)

-- no file that goes has a record that stands behind its records
drop-finds : (number until k : ℕ) (files : List LogFile) → Follow until files → next_first (drop k files) until ≤ number → file_of number until (drop k files) ≡ file_of number until files
drop-finds number until zero files follow low = refl
drop-finds number until (suc k) [] follow low = refl
drop-finds number until (suc k) (file ∷ files) follow low =
    let rise = firsts-rise until k files follow.1 in
    let past : nat_lt number (next_first files until) ≡ false = le-ltb number (next_first files until) (omega (arith, rise, low)) in
    drop-finds number until k files follow.1 low
    ∙ sym (ap (λ b. cond (nat_le file.first number && b) (Some file) (file_of number until files)) past ∙ none (nat_le file.first number)) where
      none : (b : Bool) → cond (b && false) (Some file) (file_of number until files) ≡ file_of number until files
      none true = refl
      none false = refl

-- a record has its offset in a file whatever comes behind it
offset-more : (action : FullAction) (n size first number : ℕ) (records more : List (List ℕ)) → first ≤ number → number ≤ length records → offset_of action n size first number (records ++ more) ≡ offset_of action n size first number records
offset-more Wrap n size first number records more low within = refl
offset-more Halt n size first number records more low within = ap (λ rs. length (concat rs)) (records_from-full first number records more low within)
offset-more Rotate n size first number records more low within = ap (λ rs. length (concat rs)) (records_from-full first number records more low within)

-- the current file of a stream that lives
pub current-is : (stream : Stream) → stream.ended ≡ None → 1 ≤ stream.attrs.rotated → current_file (state_of stream).files ≡ last_file stream.current None (last_of (files_had stream))
current-is stream living some =
    let front = stamped_files stream.full (front_of (files_had stream)) in
    let round = last_of (files_had stream) in
    ap (λ (ended : Option ℕ). current_file (standing stream.attrs (front ++ last_file stream.current ended round ∷ []))) living
    ∙ ap current_file (standing-push stream.attrs front (last_file stream.current None round) some)
    ∙ current_file-append (drop (length front + 1 - most_files stream.attrs.action stream.attrs.rotated) front) (last_file stream.current None round)

-- a stream ends
pub ended-place : (closing : ℕ) (stream : Stream) (number : ℕ) (spot after : List ℕ × ℕ) → 1 ≤ stream.attrs.rotated → stream.ended ≡ None → PlaceIs stream number spot → PlaceIs (with_end closing stream) number after → (after ≡ spot) ⊎ Moved stream closing spot after
ended-place closing stream number spot after some living is later =
    let attrs = stream.attrs in
    let taken = length stream.records in
    let front = stamped_files stream.full (front_of (files_had stream)) in
    let round = last_of (files_had stream) in
    let one = last_file stream.current stream.ended round in
    let shut = last_file stream.current (Some closing) round in
    let k : ℕ = length front + 1 - most_files attrs.action attrs.rotated in
    let before : file_of number taken (drop k front ++ one ∷ []) ≡ Some is.file = ap (file_of number taken) (sym (standing-push attrs front one some)) ∙ is.at in
    let behind : file_of number taken (drop k front ++ shut ∷ []) ≡ Some later.file = ap (file_of number taken) (sym (standing-push attrs front shut some)) ∙ later.at in
    let at : ℕ → ℕ = λ first. offset_of attrs.action (records_per_file attrs) attrs.record_size first number (records_of stream) in
    elim (last-two number taken taken (drop k front) one shut [] is.file later.file refl (found-last number taken shut later.file) before behind) [
      | inl same ↦ inl (sym later.is ∙ ap (spot_in_file stream number) (sym same) ∙ is.is)
      | inr two ↦ inr (record {
        from = sym (ap (λ (p : List ℕ × ℕ). p.0) is.is) ∙ ap (log_name attrs) two.0 ∙ ap (λ (ended : Option ℕ). stamped_name attrs (pos stream.current) (option_map pos ended)) living;
        to = sym (ap (λ (p : List ℕ × ℕ). p.0) later.is) ∙ ap (log_name attrs) two.1;
        offset = sym (ap (λ (p : List ℕ × ℕ). p.1) later.is) ∙ ap (λ (f : LogFile). at f.first) two.1 ∙ sym (ap (λ (f : LogFile). at f.first) two.0) ∙ ap (λ (p : List ℕ × ℕ). p.1) is.is;
      })
    ]

-- a stream takes one record more
pub recorded-place : (last second : ℕ) (rec : LogRecord) (stream : Stream) (number : ℕ) (spot after : List ℕ × ℕ) → stream.ended ≡ None → Passes stream → HasFull stream → IsFitStream (state_of stream) → PlaceIs stream number spot → PlaceIs (with_record last second rec stream) number after → (after ≡ spot) ⊎ ((is_changing (state_of stream) rec ≡ true) × Moved stream (stamp_after last second) spot after)
recorded-place last second rec stream number spot after living passes full fit is later = by_due (is_changing (state_of stream) rec) refl at_after low_after where
  attrs : StreamAttrs
  attrs = stream.attrs

  n : ℕ
  n = records_per_file attrs

  taken : ℕ
  taken = length stream.records

  bytes : List ℕ
  bytes = bytes_in (state_of stream) rec

  more : Stream
  more = with_record last second rec stream

  closing : ℕ
  closing = stamp_after last second

  two : Stamps
  two = record { closed = pos (stamp_after last second); created = pos (stamp_after (stamp_after last second) second) }

  found : HasCurrent (state_of stream).files
  found = has_current (state_of stream).files fit.standing.last_open

  out : IsLaidOut attrs found.front found.current taken (length stream.full + 1)
  out = laid_out (state_of stream) fit found

  state_is : state_of more ≡ state_after (storing last second rec (state_of stream))
  state_is = state-recorded last second rec stream passes.sizes passes.some_rotated living full

  at_after : file_of number (taken + 1) (files_stored (state_of stream) (length bytes) (due_stamps last second rec (state_of stream))) ≡ Some later.file
  at_after = subst (λ (state : StreamState). file_of number state.taken state.files ≡ Some later.file) state_is later.at

  low_after : first_standing (state_after (storing last second rec (state_of stream))) ≤ number
  low_after = subst (λ state. first_standing state ≤ number) state_is
      (leb-true (first_of more) number (and_parts (nat_le (first_of more) number) (nat_lt number (length more.records)) later.stands).0)

  within : number < taken
  within = ltb-true number taken (and_parts (nat_le (first_of stream) number) (nat_lt number taken) is.stands).1

  before : file_of number taken (found.front ++ found.current ∷ []) ≡ Some is.file
  before = ap (file_of number taken) (sym found.whole) ∙ is.at

  -- the file begins with the same record: so the offset is the same
  offset_at : later.file.first ≡ is.file.first → after.1 ≡ spot.1
  offset_at first =
      let at : ℕ → List (List ℕ) → ℕ = λ file_first records. offset_of attrs.action n attrs.record_size file_first number records in
      let long = length-printed attrs 1 stream.records in
      sym (ap (λ (p : List ℕ × ℕ). p.1) later.is)
      ∙ ap (λ file_first. at file_first (records_of more)) first
      ∙ ap (at is.file.first) (printed-push attrs 1 stream.records rec)
      ∙ offset-more attrs.action n attrs.record_size is.file.first number (records_of stream) _ (found-low number taken (files_now stream) is.file is.at).0 (omega (arith, within, long))
      ∙ ap (λ (p : List ℕ × ℕ). p.1) is.is

  place_at : log_name attrs later.file ≡ log_name attrs is.file → later.file.first ≡ is.file.first → after ≡ spot
  place_at name first =
      same-place spot after (sym (ap (λ (p : List ℕ × ℕ). p.0) later.is) ∙ name ∙ ap (λ (p : List ℕ × ℕ). p.0) is.is) (offset_at first)

  by_due : (due : Bool) → is_changing (state_of stream) rec ≡ due → file_of number (taken + 1) (files_stored (state_of stream) (length bytes) (cond due (Some two) None)) ≡ Some later.file
      → first_standing (state_after (event.Stored (state_of stream) bytes (cond due (Some two) None))) ≤ number → (after ≡ spot) ⊎ ((is_changing (state_of stream) rec ≡ true) × Moved stream (stamp_after last second) spot after)
  by_due false stays at low =
      let place = next_offset (state_of stream) in
      let new = file_with place (length bytes) found.current in
      let split = ap (last_with_at place) found.whole ∙ last_with-append place (length bytes) found.front found.current in
      let behind : file_of number (taken + 1) (found.front ++ new ∷ []) ≡ Some later.file = ap (file_of number (taken + 1)) (sym split) ∙ at in
      elim (last-two number taken (taken + 1) found.front found.current new [] is.file later.file refl (found-last number (taken + 1) new later.file) before behind) [
        | inl same ↦ inl (place_at (ap (log_name attrs) (sym same)) (ap (λ (f : LogFile). f.first) (sym same)))
        | inr both ↦ inl (place_at (ap (log_name attrs) both.1 ∙ sym (ap (log_name attrs) both.0)) (ap (λ (f : LogFile). f.first) both.1 ∙ sym (ap (λ (f : LogFile). f.first) both.0)))
      ]
    where
      last_with_at : ℕ → List LogFile → List LogFile
      last_with_at place files = last_with place (length bytes) files
  by_due true due at low =
      let files = (state_of stream).files in
      let shut = file_closed (pos closing) found.current in
      let begun = file_begun (pos (stamp_after (stamp_after last second) second)) taken (length bytes) in
      let all = (found.front ++ shut ∷ []) ++ begun ∷ [] in
      let gone : ℕ = length all - most_files attrs.action attrs.rotated in
      let closed_is : last_closed (pos closing) files ≡ found.front ++ shut ∷ [] = ap (last_closed (pos closing)) found.whole ∙ last_closed-append (pos closing) found.front found.current in
      let walked : file_of number (taken + 1) (drop gone all) ≡ Some later.file =
      ap (λ fs. file_of number (taken + 1) (standing attrs (fs ++ begun ∷ []))) (sym closed_is) ∙ at in
      let rotates = rotating-so attrs.action (and_parts (is_rotating attrs.action) (not (has_room attrs (current_file files).bytes (length_in (state_of stream) rec))) due).0 in
      let first : next_first (drop gone all) (taken + 1) ≤ number =
      subst (λ fs. next_first (standing attrs (fs ++ begun ∷ [])) (taken + 1) ≤ number) closed_is
      (subst (λ a. first_in a n (taken + 1) (next_first (standing attrs (last_closed (pos closing) files ++ begun ∷ [])) (taken + 1)) ≤ number) rotates low) in
      let follow : Follow (taken + 1) all = shut_follow (taken + 1) (found.front ++ shut ∷ []) begun (shut_follow taken found.front shut out.follow out.within) (omega arith) in
      let behind : file_of number (taken + 1) (found.front ++ shut ∷ begun ∷ []) ≡ Some later.file =
      ap (file_of number (taken + 1)) (sym (append_assoc found.front (shut ∷ []) (begun ∷ []))) ∙ sym (drop-finds number (taken + 1) gone all follow first) ∙ walked in
      let current = sym (ap current_file found.whole ∙ current_file-append found.front found.current) ∙ current-is stream living passes.some_rotated in
      elim (last-two number taken (taken + 1) found.front found.current shut (begun ∷ []) is.file later.file refl (found-before number (taken + 1) shut begun later.file within) before behind) [
        | inl same ↦ inl (place_at (ap (log_name attrs) (sym same)) (ap (λ (f : LogFile). f.first) (sym same)))
        | inr both ↦ inr (
          due,
          record {
            from = sym (ap (λ (p : List ℕ × ℕ). p.0) is.is) ∙ ap (log_name attrs) both.0 ∙ ap (log_name attrs) current;
            to = sym (ap (λ (p : List ℕ × ℕ). p.0) later.is) ∙ ap (log_name attrs) both.1 ∙ ap (λ (f : LogFile). stamped_name attrs f.created (Some (pos closing))) current;
            offset = offset_at (ap (λ (f : LogFile). f.first) both.1 ∙ sym (ap (λ (f : LogFile). f.first) both.0));
          },
        )
      ]

-- which stream of a history a change touches

pub changed-at : (test : Stream → Bool) (change : Stream → Stream) (xs : List Stream) (s : ℕ) (x y : Stream) → slice_get xs s ≡ Some x → slice_get (change_first test change xs) s ≡ Some y → (y ≡ x) ⊎ ((y ≡ change x) × (find test xs ≡ Some x))
changed-at test change [] s x y is later = cc
changed-at test change (z ∷ zs) zero x y is later = by_case (test z) refl later where
  by_case : (b : Bool) → test z ≡ b → slice_get (cond b (change z ∷ zs) (z ∷ change_first test change zs)) zero ≡ Some y → (y ≡ x) ⊎ ((y ≡ change x) × (find test (z ∷ zs) ≡ Some x))
  by_case true found same =
      let one : z ≡ x = cc in
      let two : change z ≡ y = cc in
      inr (sym two ∙ ap change one, ap (λ b. cond b (Some z) (find test zs)) found ∙ is)
  by_case false found same = inl (cc)
changed-at test change (z ∷ zs) (suc s) x y is later = by_case (test z) refl later (λ behind. changed-at test change zs s x y is behind) where
  by_case : (b : Bool) → test z ≡ b → slice_get (cond b (change z ∷ zs) (z ∷ change_first test change zs)) (suc s) ≡ Some y → (slice_get (change_first test change zs) s ≡ Some y → (y ≡ x) ⊎ ((y ≡ change x) × (find test zs ≡ Some x))) → (y ≡ x) ⊎ ((y ≡ change x) × (find test (z ∷ zs) ≡ Some x))
  by_case true found same behind = inl (cc)
  by_case false found same behind = elim (behind same) [
    | inl stays ↦ inl stays
    | inr changed ↦ inr (changed.0, ap (λ b. cond b (Some z) (find test zs)) found ∙ changed.1)
  ]

found-name : (test : Stream → Bool) (xs : List Stream) (x : Stream) (name : List ℕ) → find test xs ≡ Some x → Stands name (names_in x) → Stands name (names_of_all xs)
found-name test [] x name is there = cc
found-name test (z ∷ zs) x name is there = by_case (test z) is (λ behind. found-name test zs x name behind there) where
  by_case : (b : Bool) → cond b (Some z) (find test zs) ≡ Some x → (find test zs ≡ Some x → Stands name (names_of_all zs)) → Stands name (names_in z ++ names_of_all zs)
  by_case true same behind =
      let e : x ≡ z = cc in Stands-append_left name (names_in z) (names_of_all zs) (subst (λ w. Stands name (names_in w)) e there)
  by_case false later behind = Stands-append_right name (names_in z) (names_of_all zs) (behind later)

not-twice : {X : Type 0} (front behind : List X) (x : X) → NoneTwice (front ++ behind) → Stands x front → Stands x behind → ⊥
not-twice [] behind x once one other = one
not-twice (y ∷ front) behind x once (inl same) other =
    once.0 (subst (λ z. Stands z (front ++ behind)) same (Stands-append_right x front behind other))
not-twice (y ∷ front) behind x once (inr there) other = not-twice front behind x once.1 there other

-- a name of the stream that changes is a name of no other
pub same-stream : (test : Stream → Bool) (change : Stream → Stream) (xs : List Stream) (s : ℕ) (x found : Stream) (name : List ℕ) → NoneTwice (names_of_all xs) → slice_get xs s ≡ Some x → find test xs ≡ Some found → Stands name (names_in x) → Stands name (names_in found) → (x ≡ found) × (slice_get (change_first test change xs) s ≡ Some (change found))
same-stream test change [] s x found name once is one there here = cc
same-stream test change (z ∷ zs) zero x found name once is one there here = by_case (test z) refl one where
  by_case : (b : Bool) → test z ≡ b → cond b (Some z) (find test zs) ≡ Some found → (x ≡ found) × (slice_get (change_first test change (z ∷ zs)) zero ≡ Some (change found))
  by_case true passes same =
      let e : z ≡ found = cc in
      let f : x ≡ z = cc in
      (f ∙ e, ap (λ b. slice_get (cond b (change z ∷ zs) (z ∷ change_first test change zs)) zero) passes ∙ ap (λ w. Some (change w)) e)
  by_case false passes later =
      let f : x ≡ z = cc in
      absurd (not-twice (names_in z) (names_of_all zs) name once (subst (λ w. Stands name (names_in w)) f there) (found-name test zs found name later here))
same-stream test change (z ∷ zs) (suc s) x found name once is one there here =
    by_case (test z) refl one (λ later. same-stream test change zs s x found name (once-behind (names_in z) (names_of_all zs) once) is later there here) where
      by_case : (b : Bool) → test z ≡ b → cond b (Some z) (find test zs) ≡ Some found → (find test zs ≡ Some found → (x ≡ found) × (slice_get (change_first test change zs) s ≡ Some (change found))) → (x ≡ found) × (slice_get (change_first test change (z ∷ zs)) (suc s) ≡ Some (change found))
      by_case true passes same behind =
          let e : found ≡ z = cc in
          absurd (not-twice (names_in z) (names_of_all zs) name once (subst (λ w. Stands name (names_in w)) e here) (named-among zs s x name is there))
      by_case false passes later behind =
          let rest = behind later in
          (rest.0, ap (λ b. slice_get (cond b (change z ∷ zs) (z ∷ change_first test change zs)) (suc s)) passes ∙ rest.1)

-- what becomes of a stream where some end
abbrev pub Became : (past : List LogChange) (last second : ℕ) (xs : List Stream) → Stream → Stream → Type 0
Became past last second xs x y =
    (y ≡ x) ⊎ ((closing : ℕ) × (y ≡ with_end closing x) × (x.ended ≡ None) × Stands (event.Ended (state_of x) (pos closing)) (ends_in last second (map (open_stream past) (filter lives xs))))

pub ended-at : (past : List LogChange) (last second : ℕ) (xs : List Stream) (s : ℕ) (x y : Stream) → slice_get xs s ≡ Some x → slice_get (all_ended (is_ending past) last second xs) s ≡ Some y → Became past last second xs x y
ended-at past last second [] s x y is later = cc
ended-at past last second (z ∷ zs) zero x y is later = by_case (lives z) refl (is_idle past z) refl later where
  by_case : (alive : Bool) → lives z ≡ alive → (idle : Bool) → is_idle past z ≡ idle → slice_get (cond (alive && idle) (with_end (stamp_after last second) z ∷ all_ended (is_ending past) (stamp_after last second) second zs) (z ∷ all_ended (is_ending past) last second zs)) zero ≡ Some y → Became past last second (z ∷ zs) x y
  by_case true living true empty same =
      let e : x ≡ z = cc in
      let f : y ≡ with_end (stamp_after last second) z = cc in
      let here : Stands (event.Ended (state_of z) (pos (stamp_after last second))) (ends_in last second (map (open_stream past) (filter lives (z ∷ zs)))) =
      subst (λ b. Stands (event.Ended (state_of z) (pos (stamp_after last second))) (ends_in last second (map (open_stream past) (cond b (z ∷ filter lives zs) (filter lives zs))))) (sym living)
      (subst (λ b. Stands (event.Ended (state_of z) (pos (stamp_after last second))) (cond b (event.Ended (state_of z) (pos (stamp_after last second)) ∷ ends_in (stamp_after last second) second (map (open_stream past) (filter lives zs))) (ends_in last second (map (open_stream past) (filter lives zs))))) (sym empty) (inl refl)) in
      inr (
        stamp_after last second,
        f ∙ ap (with_end (stamp_after last second)) (sym e),
        subst (λ (w : Stream). w.ended ≡ None) (sym e) (none_from z.ended living),
        subst (λ w. Stands (event.Ended (state_of w) (pos (stamp_after last second))) (ends_in last second (map (open_stream past) (filter lives (z ∷ zs))))) (sym e) here,
      )
  by_case true living false some same = inl (cc)
  by_case false living idle some same = inl (cc)
ended-at past last second (z ∷ zs) (suc s) x y is later =
    by_case (lives z) refl (is_idle past z) refl later (λ l behind. ended-at past l second zs s x y is behind) where
      by_case : (alive : Bool) → lives z ≡ alive → (idle : Bool) → is_idle past z ≡ idle → slice_get (cond (alive && idle) (with_end (stamp_after last second) z ∷ all_ended (is_ending past) (stamp_after last second) second zs) (z ∷ all_ended (is_ending past) last second zs)) (suc s) ≡ Some y → ((l : ℕ) → slice_get (all_ended (is_ending past) l second zs) s ≡ Some y → Became past l second zs x y) → Became past last second (z ∷ zs) x y
      by_case true living true empty same behind = elim (behind (stamp_after last second) same) [
        | inl stays ↦ inl stays
        | inr ends ↦ inr (
          ends.0,
          ends.1,
          ends.2,
          subst (λ b. Stands (event.Ended (state_of x) (pos ends.0)) (ends_in last second (map (open_stream past) (cond b (z ∷ filter lives zs) (filter lives zs))))) (sym living)
              (subst (λ b. Stands (event.Ended (state_of x) (pos ends.0)) (cond b (event.Ended (state_of z) (pos (stamp_after last second)) ∷ ends_in (stamp_after last second) second (map (open_stream past) (filter lives zs))) (ends_in last second (map (open_stream past) (filter lives zs))))) (sym empty) (inr ends.3)),
        )
      ]
      by_case true living false some same behind = elim (behind last same) [
        | inl stays ↦ inl stays
        | inr ends ↦ inr (
          ends.0,
          ends.1,
          ends.2,
          subst (λ b. Stands (event.Ended (state_of x) (pos ends.0)) (ends_in last second (map (open_stream past) (cond b (z ∷ filter lives zs) (filter lives zs))))) (sym living)
              (subst (λ b. Stands (event.Ended (state_of x) (pos ends.0)) (cond b (event.Ended (state_of z) (pos (stamp_after last second)) ∷ ends_in (stamp_after last second) second (map (open_stream past) (filter lives zs))) (ends_in last second (map (open_stream past) (filter lives zs))))) (sym some) ends.3),
        )
      ]
      by_case false living idle some same behind = elim (behind last same) [
        | inl stays ↦ inl stays
        | inr ends ↦ inr (
          ends.0,
          ends.1,
          ends.2,
          subst (λ b. Stands (event.Ended (state_of x) (pos ends.0)) (ends_in last second (map (open_stream past) (cond b (z ∷ filter lives zs) (filter lives zs))))) (sym living) ends.3,
        )
      ]
