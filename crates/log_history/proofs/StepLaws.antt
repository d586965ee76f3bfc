-- What stands of a stream with one record more is what the event makes of what stood.
use Rattle.std.proofs.Common.{◌≡◌, ℕ, suc, ◌+◌, ◌-◌, ◌*◌, ◌%◌, ◌<◌, ◌≤◌, min, max, Bool, true, false, not, ◌&&◌, nat_le, cond, List, [], ◌∷◌, ◌++◌, length, drop, Option, Some, None, pos, is_some, refl, sym, ap, subst, ◌∙◌, arith, inl, inr}
use Rattle.std.specs.List.{sum}
use Rattle.std.specs.Prelude.{ℤ, ◌==◌, if◌then◌else◌}
use Rattle.std.proofs.lemmas.Bool.{cases_eq, cond-true, cond-false, eq-eqb, ne_eqb}
use Rattle.std.proofs.lemmas.List.{length_push}
use Rattle.std.proofs.lemmas.List.Sums.{sum_by_push}
use Rattle.format_expr.specs.Reading.{pieces_of}
use Rattle.record_print.specs.declared.record.LogRecord.{LogRecord}
use Rattle.record_print.specs.Printing.{printed_record}
use Rattle.record_print.proofs.LineLaws.{length-printed_record, length-printed_freely}
use Rattle.stream_config.specs.declared.attrs.FullAction.{FullAction}
use Rattle.stream_config.specs.declared.attrs.FullAction.TheVariants.{Wrap, Halt, Rotate}
use Rattle.stream_config.specs.declared.attrs.StreamAttrs.{StreamAttrs}
use Rattle.stream_config.specs.declared.state.LogFile.{LogFile}
use Rattle.stream_config.specs.declared.state.StreamState.{StreamState}
use Rattle.stream_config.specs.declared.event.Stamps.{Stamps}
use Rattle.stream_config.specs.Attributes.{IsSized}
use Rattle.stream_config.specs.Events.{file_begun, file_closed, file_with, current_file, last_with, last_closed, most_files, standing, offset_in, next_offset, files_stored, state_after}
use Rattle.stream_config.specs.Fit.{is_rotating, changes_file}
use Rattle.stream_config.specs.Sizes.{records_per_file, IsLength, has_room}
use Rattle.stream_config.specs.Stamps.{stamp_after}
use Rattle.stream_layout.proofs.CurrentFile.{current_file-append}
use Rattle.stream_layout.proofs.EventLaws.{last_with-append, wrap_sized, alike_sized, some_records}
use Rattle.stream_layout.proofs.FitSteps.{wrapped}
use Rattle.log_history.specs.Lengths.{record_length, lengths_from}
use Rattle.log_history.specs.Rounds.{Round, rounds, round_pushed, rounds_by, rounds_of, last_of, front_of}
use Rattle.log_history.specs.Chronicle.{Stream, lengths_of, length_next, files_had, is_due, with_record, stamped_files, last_file, all_files}
use Rattle.log_history.specs.Table.{state_of, due_stamps, storing}
use Rattle.log_history.proofs.RoundLaws.{step-form, some-rounds}
use Rattle.log_history.proofs.FileSteps.{standing-changed, standing-push}

-- the length of a record

-- it is that of the printed record
pub record-long : (attrs : StreamAttrs) (number : ℕ) (rec : LogRecord) → length (printed_record (pieces_of attrs.expr) number rec attrs.record_size) ≡ record_length attrs number rec
record-long attrs number rec = elim (cases_eq attrs.record_size 0) [
  | inl none ↦
      ap (λ size. length (printed_record (pieces_of attrs.expr) number rec size)) none
      ∙ sym (cond-true (attrs.record_size == 0) (length (printed_record (pieces_of attrs.expr) number rec 0)) attrs.record_size (eq-eqb attrs.record_size 0 none))
  | inr some ↦
      length-printed_record (pieces_of attrs.expr) number rec attrs.record_size (omega (arith, some))
      ∙ sym (cond-false (attrs.record_size == 0) (length (printed_record (pieces_of attrs.expr) number rec 0)) attrs.record_size (ne_eqb attrs.record_size 0 some))
]

-- and one that a stream may have
pub length-is : (attrs : StreamAttrs) (number : ℕ) (rec : LogRecord) → IsSized attrs → IsLength attrs (record_length attrs number rec)
length-is attrs number rec sized = elim (cases_eq attrs.record_size 0) [
  | inl none ↦
      let is : record_length attrs number rec ≡ length (printed_record (pieces_of attrs.expr) number rec 0) =
      cond-true (attrs.record_size == 0) (length (printed_record (pieces_of attrs.expr) number rec 0)) attrs.record_size (eq-eqb attrs.record_size 0 none) in
      let bounds = length-printed_freely (pieces_of attrs.expr) number rec in
      record { some = omega (arith, is, bounds.0); most = omega (arith, is, bounds.1); own = λ some. absurd (omega (arith, some, none)) }
  | inr some ↦
      let is : record_length attrs number rec ≡ attrs.record_size =
      cond-false (attrs.record_size == 0) (length (printed_record (pieces_of attrs.expr) number rec 0)) attrs.record_size (ne_eqb attrs.record_size 0 some) in
      let alike = alike_sized attrs sized (omega (arith, some)) in
      let low = alike.least_record in
      let high = alike.greatest_record in
      record { some = omega (arith, is, low); most = omega (arith, is, high); own = λ more. is }
]

pub length-lengths : (attrs : StreamAttrs) (number : ℕ) (recs : List LogRecord) → length (lengths_from attrs number recs) ≡ length recs
length-lengths attrs number [] = refl
length-lengths attrs number (rec ∷ recs) = ap suc (length-lengths attrs (number + 1) recs)

lengths-from-push : (attrs : StreamAttrs) (number : ℕ) (recs : List LogRecord) (rec : LogRecord)
    → lengths_from attrs number (recs ++ rec ∷ []) ≡ lengths_from attrs number recs ++ record_length attrs (number + length recs) rec ∷ []
lengths-from-push attrs number [] rec =
    let same : number ≡ number + 0 = omega arith in ap (λ n. record_length attrs n rec ∷ []) same
lengths-from-push attrs number (first ∷ recs) rec =
    let same : number + 1 + length recs ≡ number + length (first ∷ recs) = omega arith in
    ap (λ rest. record_length attrs number first ∷ rest)
    (lengths-from-push attrs (number + 1) recs rec ∙ ap (λ n. lengths_from attrs (number + 1) recs ++ record_length attrs n rec ∷ []) same)

pub lengths-push : (attrs : StreamAttrs) (recs : List LogRecord) (rec : LogRecord)
    → lengths_from attrs 1 (recs ++ rec ∷ []) ≡ lengths_from attrs 1 recs ++ record_length attrs (length recs + 1) rec ∷ []
lengths-push attrs recs rec =
    let same : 1 + length recs ≡ length recs + 1 = omega arith in
    lengths-from-push attrs 1 recs rec ∙ ap (λ n. lengths_from attrs 1 recs ++ record_length attrs n rec ∷ []) same

-- one round more, or a longer last one

pushed-fits : (most number len : ℕ) (rs : List Round) → 0 < length rs → nat_le ((last_of rs).bytes + len) most ≡ true
    → (front_of (round_pushed most number len rs) ≡ front_of rs) × (last_of (round_pushed most number len rs) ≡ record { first = (last_of rs).first; bytes = (last_of rs).bytes + len })
pushed-fits most number len [] some fits = absurd (omega (arith, some))
pushed-fits most number len (round ∷ []) some fits =
    let longer : Round = record { first = round.first; bytes = round.bytes + len } in
    let is : round_pushed most number len (round ∷ []) ≡ longer ∷ [] = ap (λ b. cond b (longer ∷ []) (round ∷ record { first = number; bytes = len } ∷ [])) fits in
    (ap front_of is, ap last_of is)
pushed-fits most number len (round ∷ next ∷ []) some fits =
    let rest = pushed-fits most number len (next ∷ []) (omega arith) fits in
    let longer : Round = record { first = next.first; bytes = next.bytes + len } in
    let is : round_pushed most number len (next ∷ []) ≡ longer ∷ [] = ap (λ b. cond b (longer ∷ []) (next ∷ record { first = number; bytes = len } ∷ [])) fits in
    (ap (λ rs. front_of (round ∷ rs)) is, ap (λ rs. last_of (round ∷ rs)) is)
pushed-fits most number len (round ∷ next ∷ other ∷ rs) some fits =
    let rest = pushed-fits most number len (next ∷ other ∷ rs) (omega arith) fits in
    (ap (λ front. round ∷ front) rest.0, rest.1)

pushed-over : (most number len : ℕ) (rs : List Round) → 0 < length rs → nat_le ((last_of rs).bytes + len) most ≡ false
    → (front_of (round_pushed most number len rs) ≡ front_of rs ++ last_of rs ∷ []) × (last_of (round_pushed most number len rs) ≡ record { first = number; bytes = len })
pushed-over most number len [] some over = absurd (omega (arith, some))
pushed-over most number len (round ∷ []) some over =
    let fresh : Round = record { first = number; bytes = len } in
    let is : round_pushed most number len (round ∷ []) ≡ round ∷ fresh ∷ [] = ap (λ b. cond b (record { first = round.first; bytes = round.bytes + len } ∷ []) (round ∷ fresh ∷ [])) over in
    (ap front_of is, ap last_of is)
pushed-over most number len (round ∷ next ∷ []) some over =
    let fresh : Round = record { first = number; bytes = len } in
    let is : round_pushed most number len (next ∷ []) ≡ next ∷ fresh ∷ [] = ap (λ b. cond b (record { first = next.first; bytes = next.bytes + len } ∷ []) (next ∷ fresh ∷ [])) over in
    (ap (λ rs. front_of (round ∷ rs)) is, ap (λ rs. last_of (round ∷ rs)) is)
pushed-over most number len (round ∷ next ∷ other ∷ rs) some over =
    let rest = pushed-over most number len (next ∷ other ∷ rs) (omega arith) over in
    (ap (λ front. round ∷ front) rest.0, rest.1)

-- where a record comes behind so many bytes, by the number of those before it
abbrev offset_at : StreamAttrs → (taken bytes : ℕ) → ℕ
offset_at attrs taken bytes = offset_in attrs.action (records_per_file attrs) attrs.record_size taken bytes

-- a round once so many bytes are written at a place in it
abbrev round_with : (at len : ℕ) → Round → Round
round_with at len round = record { first = round.first; bytes = max round.bytes (at + len) }

-- what one more record makes of the rounds
record IsStep (attrs : StreamAttrs) (action : FullAction) (taken len : ℕ) (old new : List Round) : Type 0 where
  stays : is_rotating action && not (has_room attrs (last_of old).bytes len) ≡ false → (front_of new ≡ front_of old)
      × (last_of new ≡ round_with (offset_in action (records_per_file attrs) attrs.record_size taken (last_of old).bytes) len (last_of old))
  begins : is_rotating action && not (has_room attrs (last_of old).bytes len) ≡ true
      → (front_of new ≡ front_of old ++ last_of old ∷ []) × (last_of new ≡ record { first = taken; bytes = len })

not-false : (b : Bool) → not b ≡ false → b ≡ true
not-false true e = refl
not-false false e = cc

not-true : (b : Bool) → not b ≡ true → b ≡ false
not-true true e = cc
not-true false e = refl

round-is : (one other : ℕ) (first : ℕ) → one ≡ other → (let a : Round = record { first = first; bytes = one } in a) ≡ record { first = first; bytes = other }
round-is one other first e = ap (λ b. round_of_bytes b) e where
  round_of_bytes : ℕ → Round
  round_of_bytes b = record { first = first; bytes = b }

longer-is : (before len : ℕ) → before + len ≡ max before (before + len)
longer-is before len = omega arith

step : (attrs : StreamAttrs) (lens : List ℕ) (len : ℕ) → IsSized attrs → IsLength attrs len
    → IsStep attrs attrs.action (length lens) len (rounds_of attrs lens) (rounds_of attrs (lens ++ len ∷ []))
step attrs lens len sized size = by_action attrs.action refl where
  n : ℕ
  n = records_per_file attrs

  most : ℕ
  most = attrs.max_file

  form : FullAction → List ℕ → List Round
  form action ls = rounds_by action n attrs.record_size most ls

  by_action : (action : FullAction) → attrs.action ≡ action → IsStep attrs action (length lens) len (form action lens) (form action (lens ++ len ∷ []))
  by_action Wrap is =
      let alike = wrap_sized attrs sized is in
      let low = alike.least_record in
      let own : len ≡ attrs.record_size = size.own (omega (arith, low)) in
      let whole : min (length (lens ++ len ∷ [])) n * attrs.record_size ≡ max (min (length lens) n * attrs.record_size) (length lens % n * attrs.record_size + len) =
      ap (λ m. min m n * attrs.record_size) (length_push lens len)
      ∙ sym (wrapped n (length lens) attrs.record_size (some_records attrs alike))
      ∙ ap (λ m. max (min (length lens) n * attrs.record_size) (length lens % n * attrs.record_size + m)) (sym own) in
      record {
        stays = λ _. (refl, round-is (min (length (lens ++ len ∷ [])) n * attrs.record_size) (max (min (length lens) n * attrs.record_size) (length lens % n * attrs.record_size + len)) 0 whole);
        begins = λ e. cc;
      }
  by_action Halt is =
      let whole : sum (lens ++ len ∷ []) ≡ max (sum lens) (sum lens + len) = sum_by_push (λ n. n) lens len ∙ longer-is (sum lens) len in
      record {
        stays = λ _. (refl, round-is (sum (lens ++ len ∷ [])) (max (sum lens) (sum lens + len)) 0 whole);
        begins = λ e. cc;
      }
  by_action Rotate is =
      let old = rounds most lens in
      let some = some-rounds most 0 0 0 lens in
      let new : rounds most (lens ++ len ∷ []) ≡ round_pushed most (length lens) len old = step-form most len lens in
      record {
        stays = λ no_change.
            let both = pushed-fits most (length lens) len old some (not-false (nat_le ((last_of old).bytes + len) most) no_change) in
            (ap front_of new ∙ both.0, ap last_of new ∙ both.1 ∙ round-is ((last_of old).bytes + len) (max (last_of old).bytes ((last_of old).bytes + len)) (last_of old).first (longer-is (last_of old).bytes len));
        begins = λ change.
            let both = pushed-over most (length lens) len old some (not-true (nat_le ((last_of old).bytes + len) most) change) in
            (ap front_of new ∙ both.0, ap last_of new ∙ both.1);
      }

-- of a stream's files by the records that it has
had-step : (stream : Stream) (rec : LogRecord) → IsSized stream.attrs
    → IsStep stream.attrs stream.attrs.action (length stream.records) (length_next stream rec) (files_had stream) (rounds_of stream.attrs (lengths_from stream.attrs 1 (stream.records ++ rec ∷ [])))
had-step stream rec sized =
    let attrs = stream.attrs in
    let lens = lengths_of stream in
    let len = length_next stream rec in
    subst (λ count. IsStep attrs attrs.action count len (files_had stream) (rounds_of attrs (lengths_from attrs 1 (stream.records ++ rec ∷ [])))) (length-lengths attrs 1 stream.records)
    (subst (λ ls. IsStep attrs attrs.action (length lens) len (files_had stream) (rounds_of attrs ls)) (sym (lengths-push attrs stream.records rec))
    (step attrs lens len sized (length-is attrs (length stream.records + 1) rec sized)))

-- the stamps of one full file more

stamped_files-push : (full : List (ℕ × ℕ)) (rs : List Round) (stamps : ℕ × ℕ) (round : Round) → length rs ≡ length full
    → stamped_files (full ++ stamps ∷ []) (rs ++ round ∷ [])
    ≡ stamped_files full rs ++ record { created = pos stamps.0; closed = Some (pos stamps.1); first = round.first; bytes = round.bytes } ∷ []
stamped_files-push [] [] stamps round alike = refl
stamped_files-push [] (first ∷ rs) stamps round alike = absurd (omega (arith, alike))
stamped_files-push (one ∷ full) [] stamps round alike = absurd (omega (arith, alike))
stamped_files-push (one ∷ full) (first ∷ rs) stamps round alike =
    ap (λ files. record { created = pos one.0; closed = Some (pos one.1); first = first.first; bytes = first.bytes } ∷ files) (stamped_files-push full rs stamps round (omega (arith, alike)))

-- the stream with one record more, once it is known whether that begins a file
abbrev with_due : (last second : ℕ) → LogRecord → Stream → Bool → Stream
with_due last second rec stream due = record {
  name = stream.name;
  attrs = stream.attrs;
  records = stream.records ++ rec ∷ [];
  full = cond due (stream.full ++ (stream.current, stamp_after last second) ∷ []) stream.full;
  current = cond due (stamp_after (stamp_after last second) second) stream.current;
  ended = stream.ended;
}

abbrev stamps_due : (last second : ℕ) → Bool → Option Stamps
stamps_due last second due = cond due (Some (record { closed = pos (stamp_after last second); created = pos (stamp_after (stamp_after last second) second) })) None

-- the last of the files that stand is the last of all
current-is : (attrs : StreamAttrs) (files : List LogFile) (file : LogFile) → 1 ≤ attrs.rotated → current_file (standing attrs (files ++ file ∷ [])) ≡ file
current-is attrs files file some =
    ap current_file (standing-push attrs files file some) ∙ current_file-append (drop (length files + 1 - most_files attrs.action attrs.rotated) files) file

-- as many files are full as the records ask for
abbrev pub HasFull : Stream → Type 0
HasFull stream = length (front_of (files_had stream)) ≡ length stream.full

-- the bytes of the last file, read of those that stand
pub bytes-standing : (stream : Stream) → 1 ≤ stream.attrs.rotated → (current_file (state_of stream).files).bytes ≡ (last_of (files_had stream)).bytes
bytes-standing stream rotated =
    ap file_bytes (current-is stream.attrs (stamped_files stream.full (front_of (files_had stream))) (last_file stream.current stream.ended (last_of (files_had stream))) rotated) where
      file_bytes : LogFile → ℕ
      file_bytes file = file.bytes

-- **what stands of the stream with one record more is what the event makes of what stood**
pub state-recorded : (last second : ℕ) (rec : LogRecord) (stream : Stream) → IsSized stream.attrs → 1 ≤ stream.attrs.rotated → stream.ended ≡ None → HasFull stream
    → state_of (with_record last second rec stream) ≡ state_after (storing last second rec (state_of stream))
state-recorded last second rec stream sized rotated living full =
    whole ∙ ap (λ b. after_with len (stamps_due last second b)) (sym test)
    ∙ ap (λ l. after_with l (due_stamps last second rec (state_of stream))) (sym (record-long stream.attrs (length stream.records + 1) rec)) where
      attrs : StreamAttrs
      attrs = stream.attrs

      len : ℕ
      len = length_next stream rec

      after_with : (len : ℕ) → Option Stamps → StreamState
      after_with len stamps = record {
        name = stream.name;
        attrs = stream.attrs;
        taken = length stream.records + 1;
        opened = if is_some stamps then length stream.full + 1 + 1 else length stream.full + 1;
        files = files_stored (state_of stream) len stamps;
      }

      old : List Round
      old = files_had stream

      new : List Round
      new = rounds_of attrs (lengths_from attrs 1 (stream.records ++ rec ∷ []))

      front : List LogFile
      front = stamped_files stream.full (front_of old)

      current : LogFile
      current = last_file stream.current stream.ended (last_of old)

      last_is : current_file (standing attrs (all_files stream)) ≡ current
      last_is = current-is attrs front current rotated

      test : changes_file attrs (current_file (standing attrs (all_files stream))).bytes len ≡ is_due stream rec
      test = ap (λ file. changes_file attrs (file_bytes file) len) last_is where
        file_bytes : LogFile → ℕ
        file_bytes file = file.bytes

      steps : IsStep attrs attrs.action (length stream.records) len old new
      steps = had-step stream rec sized

      state_with : (taken opened : ℕ) → List LogFile → StreamState
      state_with taken opened files = record { name = stream.name; attrs = attrs; taken = taken; opened = opened; files = files }

      taken : length (stream.records ++ rec ∷ []) ≡ length stream.records + 1
      taken = length_push stream.records rec

      by_due : (due : Bool) → is_due stream rec ≡ due
          → state_of (with_due last second rec stream due) ≡ after_with len (stamps_due last second due)
      by_due false is =
          let both = steps.stays is in
          let at = offset_at attrs (length stream.records) (last_of old).bytes in
          let all : all_files (with_due last second rec stream false) ≡ front ++ file_with at len current ∷ [] =
          ap (λ rs. stamped_files stream.full rs ++ last_file stream.current stream.ended (last_of new) ∷ []) both.0
          ∙ ap (λ round. front ++ last_file stream.current stream.ended round ∷ []) both.1 in
          let k = length front + 1 - most_files attrs.action attrs.rotated in
          let place : next_offset (state_of stream) ≡ at = ap (λ file. offset_of_file file) last_is in
          let stand : standing attrs (front ++ file_with at len current ∷ []) ≡ last_with (next_offset (state_of stream)) len (standing attrs (all_files stream)) =
          standing-push attrs front (file_with at len current) rotated
          ∙ sym (last_with-append at len (drop k front) current)
          ∙ ap (last_with at len) (sym (standing-push attrs front current rotated))
          ∙ ap (λ a. last_with a len (standing attrs (all_files stream))) (sym place) in
          ap (λ files. state_with (length (stream.records ++ rec ∷ [])) (length stream.full + 1) (standing attrs files)) all
          ∙ ap (state_with (length (stream.records ++ rec ∷ [])) (length stream.full + 1)) stand
          ∙ ap (λ count. state_with count (length stream.full + 1) (last_with (next_offset (state_of stream)) len (standing attrs (all_files stream)))) taken
        where
          offset_of_file : LogFile → ℕ
          offset_of_file file = offset_at attrs (length stream.records) file.bytes
      by_due true is =
          let both = steps.begins is in
          let closed : ℤ = pos (stamp_after last second) in
          let created : ℤ = pos (stamp_after (stamp_after last second) second) in
          let shut = file_closed closed current in
          let begun = file_begun created (length stream.records) len in
          let all : all_files (with_due last second rec stream true) ≡ (front ++ shut ∷ []) ++ begun ∷ [] =
          ap (λ rs. stamped_files (stream.full ++ (stream.current, stamp_after last second) ∷ []) rs ++ last_file (stamp_after (stamp_after last second) second) stream.ended (last_of new) ∷ []) both.0
          ∙ ap (λ files. files ++ last_file (stamp_after (stamp_after last second) second) stream.ended (last_of new) ∷ []) (stamped_files-push stream.full (front_of old) (stream.current, stamp_after last second) (last_of old) full)
          ∙ ap (λ round. (front ++ shut ∷ []) ++ last_file (stamp_after (stamp_after last second) second) stream.ended round ∷ []) both.1
          ∙ ap (λ ended. (front ++ shut ∷ []) ++ last_file (stamp_after (stamp_after last second) second) ended (first_len (length stream.records) len) ∷ []) living in
          let opened : length (stream.full ++ (stream.current, stamp_after last second) ∷ []) + 1 ≡ length stream.full + 1 + 1 =
          ap (λ k. k + 1) (length_push stream.full (stream.current, stamp_after last second)) in
          let files_after = standing attrs (last_closed closed (standing attrs (all_files stream)) ++ begun ∷ []) in
          ap (λ files. state_with (length (stream.records ++ rec ∷ [])) (length (stream.full ++ (stream.current, stamp_after last second) ∷ []) + 1) (standing attrs files)) all
          ∙ ap (state_with (length (stream.records ++ rec ∷ [])) (length (stream.full ++ (stream.current, stamp_after last second) ∷ []) + 1)) (sym (standing-changed attrs closed front current begun rotated))
          ∙ ap (λ count. state_with count (length (stream.full ++ (stream.current, stamp_after last second) ∷ []) + 1) files_after) taken
          ∙ ap (λ count. state_with (length stream.records + 1) count files_after) opened
        where
          first_len : (first len : ℕ) → Round
          first_len first len = record { first = first; bytes = len }

      whole : state_of (with_record last second rec stream) ≡ after_with len (stamps_due last second (is_due stream rec))
      whole = by_due (is_due stream rec) refl

-- as many files are full as the records ask for
pub full-recorded : (last second : ℕ) (rec : LogRecord) (stream : Stream) → IsSized stream.attrs → HasFull stream → HasFull (with_record last second rec stream)
full-recorded last second rec stream sized full = by_due (is_due stream rec) refl where
  steps : IsStep stream.attrs stream.attrs.action (length stream.records) (length_next stream rec) (files_had stream) (rounds_of stream.attrs (lengths_from stream.attrs 1 (stream.records ++ rec ∷ [])))
  steps = had-step stream rec sized

  by_due : (due : Bool) → is_due stream rec ≡ due → HasFull (with_due last second rec stream due)
  by_due false is = ap length (steps.stays is).0 ∙ full
  by_due true is =
      let old = front_of (files_had stream) in
      ap length (steps.begins is).0 ∙ length_push old (last_of (files_had stream)) ∙ ap (λ k. k + 1) full
      ∙ sym (length_push stream.full (stream.current, stamp_after last second))
