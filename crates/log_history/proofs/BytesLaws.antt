-- The files of a stream have the bytes of their records.
use Rattle.std.proofs.Common.{inl, inr, ◌≡◌, ℕ, zero, suc, ◌+◌, ◌-◌, ◌*◌, ◌/◌, ◌%◌, ◌<◌, ◌≤◌, min, List, [], ◌∷◌, ◌++◌, length, map, take, drop, Option, refl, sym, ap, subst, ◌∙◌, arith, length-append, length-drop, length-take}
use Rattle.std.specs.List.{concat, sum, All}
use Rattle.std.proofs.lemmas.List.{take_all, take-map, drop-map, length-map}
use Rattle.std.proofs.lemmas.List.Elements.{All-nil, All-cons}
use Rattle.std.proofs.lemmas.List.Sums.{sum_by-cons}
use Rattle.std.proofs.lemmas.Nat.{div-add-mod'}
use Rattle.format_expr.specs.Reading.{pieces_of}
use Rattle.record_print.specs.declared.record.LogRecord.{LogRecord}
use Rattle.record_print.specs.Printing.{printed_record}
use Rattle.stream_config.specs.declared.attrs.FullAction.{FullAction}
use Rattle.stream_config.specs.declared.attrs.FullAction.TheVariants.{Wrap, Halt, Rotate}
use Rattle.stream_config.specs.declared.attrs.StreamAttrs.{StreamAttrs}
use Rattle.stream_config.specs.Attributes.{IsSized}
use Rattle.stream_config.specs.Events.{most_files}
use Rattle.stream_config.specs.Fit.{next_first}
use Rattle.stream_config.specs.Sizes.{records_per_file, IsLength}
use Rattle.stream_layout.specs.LogFiles.{round_of, overlaid, records_from, records_in, bytes_in}
use Rattle.stream_layout.specs.Carrying.{HaveBytes, AreRecordsOf}
use Rattle.stream_layout.proofs.Rounds.{overlaid_is, overlaid_sizes, length-concat}
use Rattle.stream_layout.proofs.EventLaws.{wrap_sized, some_records, alike_all}
use Rattle.stream_layout.proofs.RecordSteps.{have-drop}
use Rattle.log_history.specs.Lengths.{record_length, lengths_from}
use Rattle.log_history.specs.Rounds.{Round, rounds, rounds_by, total, AreRounds, last_of, front_of}
use Rattle.log_history.specs.Chronicle.{Stream, lengths_of, files_had, stamped_files, last_file, all_files}
use Rattle.log_history.specs.Files.{printed_records, records_of}
use Rattle.log_history.specs.Table.{state_of}
use Rattle.log_history.proofs.RoundLaws.{closed-form, some-rounds}
use Rattle.log_history.proofs.Reaching.{Passes}
use Rattle.log_history.proofs.StepLaws.{HasFull, record-long, length-is}

pub length-printed : (attrs : StreamAttrs) (number : ℕ) (recs : List LogRecord) → length (printed_records attrs number recs) ≡ length recs
length-printed attrs number [] = refl
length-printed attrs number (rec ∷ recs) = ap suc (length-printed attrs (number + 1) recs)

pub sizes-printed : (attrs : StreamAttrs) (number : ℕ) (recs : List LogRecord) → IsSized attrs → All (λ (bytes : List ℕ). IsLength attrs (length bytes)) (printed_records attrs number recs)
sizes-printed attrs number [] sized = All-nil (λ (bytes : List ℕ). IsLength attrs (length bytes))
sizes-printed attrs number (rec ∷ recs) sized =
    All-cons (λ (bytes : List ℕ). IsLength attrs (length bytes)) (printed_record (pieces_of attrs.expr) number rec attrs.record_size) (printed_records attrs (number + 1) recs)
    (subst (IsLength attrs) (sym (record-long attrs number rec)) (length-is attrs number rec sized)) (sizes-printed attrs (number + 1) recs sized)

-- the lengths of the records are those of their bytes
pub lengths-printed : (attrs : StreamAttrs) (number : ℕ) (recs : List LogRecord) → map length (printed_records attrs number recs) ≡ lengths_from attrs number recs
lengths-printed attrs number [] = refl
lengths-printed attrs number (rec ∷ recs) =
    ap (λ long. long ∷ map length (printed_records attrs (number + 1) recs)) (record-long attrs number rec)
    ∙ ap (λ rest. record_length attrs number rec ∷ rest) (lengths-printed attrs (number + 1) recs)

-- none is above the greatest size of a file
pub within-file : (attrs : StreamAttrs) (number : ℕ) (recs : List LogRecord) → IsSized attrs → All (λ len. len ≤ attrs.max_file) (lengths_from attrs number recs)
within-file attrs number [] sized = All-nil (λ len. len ≤ attrs.max_file)
within-file attrs number (rec ∷ recs) sized =
    All-cons (λ len. len ≤ attrs.max_file) (record_length attrs number rec) (lengths_from attrs (number + 1) recs)
    (elim sized.records [
      | inl alike ↦
          let low = alike.least_record in
          let high = alike.least_file in
          let is = (length-is attrs number rec sized).own (omega (arith, low)) in
          omega (arith, is, high)
      | inr freely ↦
          let high = freely.least_file in
          let most = (length-is attrs number rec sized).most in
          omega (arith, most, high)
    ])
    (within-file attrs (number + 1) recs sized)

-- sums of lengths
sum-long : (xs : List (List ℕ)) → sum (map length xs) ≡ length (concat xs)
sum-long [] = refl
sum-long (x ∷ xs) =
    sum_by-cons (λ n. n) (length x) (map length xs) ∙ ap (λ n. length x + n) (sum-long xs) ∙ sym (length-append x (concat xs))

total-long : (first until : ℕ) (records : List (List ℕ)) → total first until (map length records) ≡ length (concat (records_from first until records))
total-long first until records =
    ap sum (ap (take (until - first)) (drop-map length first records) ∙ take-map length (until - first) (drop first records))
    ∙ sum-long (records_from first until records)

-- of a stream that rotates
pub first-behind : (full : List (ℕ × ℕ)) (created : ℕ) (ended : Option ℕ) (next : Round) (more : List Round) (until : ℕ) → length (front_of (next ∷ more)) ≡ length full
    → next_first (stamped_files full (front_of (next ∷ more)) ++ last_file created ended (last_of (next ∷ more)) ∷ []) until ≡ next.first
first-behind [] created ended next [] until alike = refl
first-behind (stamps ∷ full) created ended next [] until alike = refl
first-behind [] created ended next (other ∷ more) until alike = absurd (omega (arith, alike))
first-behind (stamps ∷ full) created ended next (other ∷ more) until alike = refl

have-rounds : (attrs : StreamAttrs) (records : List (List ℕ)) (full : List (ℕ × ℕ)) (created : ℕ) (ended : Option ℕ) (rs : List Round) → attrs.action ≡ Rotate → 0 < length rs → AreRounds attrs.max_file (map length records) rs → length (front_of rs) ≡ length full
    → HaveBytes attrs records (length records) (stamped_files full (front_of rs) ++ last_file created ended (last_of rs) ∷ [])
have-rounds attrs records full created ended [] rotates some are alike = absurd (omega (arith, some))
have-rounds attrs records [] created ended (round ∷ []) rotates some are alike =
    (are.1 ∙ ap (λ until. total round.first until (map length records)) (length-map records length) ∙ slice-long round.first (length records), tt) where
      slice-long : (first until : ℕ) → total first until (map length records) ≡ length (bytes_in attrs first until records)
      slice-long first until = total-long first until records ∙ ap (λ action. length (concat (records_in action (records_per_file attrs) first until records))) (sym rotates)
have-rounds attrs records (stamps ∷ full) created ended (round ∷ []) rotates some are alike = absurd (omega (arith, alike))
have-rounds attrs records [] created ended (round ∷ next ∷ more) rotates some are alike = absurd (omega (arith, alike))
have-rounds attrs records (stamps ∷ full) created ended (round ∷ next ∷ more) rotates some are alike =
    let behind : length (front_of (next ∷ more)) ≡ length full = omega (arith, alike) in (
      are.1 ∙ slice-long round.first next.first
          ∙ ap (λ until. length (bytes_in attrs round.first until records)) (sym (first-behind full created ended next more (length records) behind)),
      have-rounds attrs records full created ended (next ∷ more) rotates (omega arith) are.2 behind,
    ) where
      slice-long : (first until : ℕ) → total first until (map length records) ≡ length (bytes_in attrs first until records)
      slice-long first until = total-long first until records ∙ ap (λ action. length (concat (records_in action (records_per_file attrs) first until records))) (sym rotates)

-- of one that wraps
length-overlaid : (n : ℕ) (records : List (List ℕ)) → 0 < n → length (overlaid n records) ≡ min (length records) n
length-overlaid n records some = by_round (length records / n) (length records % n) (omega arith) (sym (div-add-mod' (length records) n)) where
  by_round : (round k : ℕ) → k < n → length records ≡ round * n + k → length (overlaid n records) ≡ min (length records) n
  by_round zero k small is =
      let long = ap length (overlaid_is n zero k records small is) ∙ length-append (drop (zero * n) records) (drop k (round_of n (zero - 1) records)) in
      let front = length-drop (zero * n) records in
      let behind = length-drop k (round_of n (zero - 1) records) in
      let own = length-take n (drop ((zero - 1) * n) records) in
      let rest = length-drop ((zero - 1) * n) records in
      let none : zero * n ≡ 0 = omega arith in
      let less : zero - 1 ≡ 0 = omega arith in
      let none' : (zero - 1) * n ≡ 0 = ap (λ r. r * n) less ∙ none in
      omega (arith, long, front, behind, own, rest, none, none', is, small)
  by_round (suc round) k small is =
      let long = ap length (overlaid_is n (suc round) k records small is) ∙ length-append (drop (suc round * n) records) (drop k (round_of n (suc round - 1) records)) in
      let front = length-drop (suc round * n) records in
      let behind = length-drop k (round_of n (suc round - 1) records) in
      let own = length-take n (drop ((suc round - 1) * n) records) in
      let rest = length-drop ((suc round - 1) * n) records in
      let less : suc round - 1 ≡ round = omega arith in
      let before : (suc round - 1) * n ≡ round * n = ap (λ r. r * n) less in
      let more : suc round * n ≡ n + round * n = omega arith in
      omega (arith, long, front, behind, own, rest, before, more, is, small)

take_whole : (xs : List (List ℕ)) → records_from 0 (length xs) xs ≡ xs
take_whole xs = let same : length xs - 0 ≡ length xs = omega arith in ap (λ k. take k xs) same ∙ take_all (length xs) xs (omega arith)

-- **each file has the bytes of its records**
have-all : (action : FullAction) (stream : Stream) → stream.attrs.action ≡ action → IsSized stream.attrs → HasFull stream
    → HaveBytes stream.attrs (records_of stream) (length (records_of stream)) (all_files stream)
have-all Wrap stream wraps sized full =
    one-file (front_of (files_had stream)) stream.full (ap (λ a. front_of (rounds_by a n attrs.record_size attrs.max_file (lengths_of stream))) wraps) full where
      attrs : StreamAttrs
      attrs = stream.attrs

      n : ℕ
      n = records_per_file attrs

      records : List (List ℕ)
      records = records_of stream

      round_bytes : Round → ℕ
      round_bytes round = round.bytes

      own : (last_of (files_had stream)).bytes ≡ length (bytes_in attrs (last_of (files_had stream)).first (length records) records)
      own =
          let alike = wrap_sized attrs sized wraps in
          let low = alike.least_record in
          let sizes = alike_all attrs records (omega (arith, low)) (sizes-printed attrs 1 stream.records sized) in
          ap (λ a. round_bytes (last_of (rounds_by a n attrs.record_size attrs.max_file (lengths_of stream)))) wraps
          ∙ ap (λ count. min count n * attrs.record_size) (ap length (sym (lengths-printed attrs 1 stream.records)) ∙ length-map records length)
          ∙ sym (ap (λ m. m * attrs.record_size) (length-overlaid n records (some_records attrs alike)))
          ∙ sym (length-concat attrs.record_size (overlaid n records) (overlaid_sizes attrs.record_size n records sizes))
          ∙ ap (λ a. length (concat (records_in a n (last_of (files_had stream)).first (length records) records))) (sym wraps)

      one-file : (front : List Round) (full : List (ℕ × ℕ)) → front ≡ [] → length front ≡ length full
          → HaveBytes attrs records (length records) (stamped_files full front ++ last_file stream.current stream.ended (last_of (files_had stream)) ∷ [])
      one-file [] [] none alike = (own, tt)
      one-file [] (stamps ∷ full) none alike = absurd (omega (arith, alike))
      one-file (round ∷ front) full none alike = cc
have-all Halt stream halts sized full =
    one-file (front_of (files_had stream)) stream.full (ap (λ a. front_of (rounds_by a n attrs.record_size attrs.max_file (lengths_of stream))) halts) full where
      attrs : StreamAttrs
      attrs = stream.attrs

      n : ℕ
      n = records_per_file attrs

      records : List (List ℕ)
      records = records_of stream

      round_bytes : Round → ℕ
      round_bytes round = round.bytes

      round_first : Round → ℕ
      round_first round = round.first

      own : (last_of (files_had stream)).bytes ≡ length (bytes_in attrs (last_of (files_had stream)).first (length records) records)
      own =
          ap (λ a. round_bytes (last_of (rounds_by a n attrs.record_size attrs.max_file (lengths_of stream)))) halts
          ∙ ap sum (sym (lengths-printed attrs 1 stream.records)) ∙ sum-long records
          ∙ ap (λ rs. length (concat rs)) (sym (take_whole records))
          ∙ ap (λ first. length (concat (records_from first (length records) records))) (sym (ap (λ a. round_first (last_of (rounds_by a n attrs.record_size attrs.max_file (lengths_of stream)))) halts))
          ∙ ap (λ a. length (concat (records_in a n (last_of (files_had stream)).first (length records) records))) (sym halts)

      one-file : (front : List Round) (full : List (ℕ × ℕ)) → front ≡ [] → length front ≡ length full
          → HaveBytes attrs records (length records) (stamped_files full front ++ last_file stream.current stream.ended (last_of (files_had stream)) ∷ [])
      one-file [] [] none alike = (own, tt)
      one-file [] (stamps ∷ full) none alike = absurd (omega (arith, alike))
      one-file (round ∷ front) full none alike = cc
have-all Rotate stream rotates sized full =
    let attrs = stream.attrs in
    let lens = lengths_of stream in
    let is : files_had stream ≡ rounds attrs.max_file lens = ap (λ a. rounds_by a (records_per_file attrs) attrs.record_size attrs.max_file lens) rotates in
    let are : AreRounds attrs.max_file (map length (records_of stream)) (files_had stream) =
    subst (λ ls. AreRounds attrs.max_file ls (files_had stream)) (sym (lengths-printed attrs 1 stream.records))
    (subst (AreRounds attrs.max_file lens) (sym is) (closed-form attrs.max_file lens (within-file attrs 1 stream.records sized))) in
    have-rounds attrs (records_of stream) stream.full stream.current stream.ended (files_had stream) rotates
    (subst (λ rs. 0 < length rs) (sym is) (some-rounds attrs.max_file 0 0 0 lens)) are full

pub are-records : (stream : Stream) → Passes stream → HasFull stream → AreRecordsOf (state_of stream) (records_of stream)
are-records stream passes full = record {
  count = length-printed stream.attrs 1 stream.records;
  sizes = sizes-printed stream.attrs 1 stream.records passes.sizes;
  bytes = have-drop stream.attrs (records_of stream) (length (records_of stream)) (length (all_files stream) - most_files stream.attrs.action stream.attrs.rotated) (all_files stream)
      (have-all stream.attrs.action stream refl passes.sizes full);
}
