-- Of records of one size the place of a record is told by its number.
use Rattle.std.proofs.Common.{◌≡◌, ℕ, zero, suc, ◌+◌, ◌-◌, ◌*◌, ◌/◌, ◌%◌, ◌<◌, ◌≤◌, ◌⊎◌, inl, inr, nat_lt, nat_le, Bool, true, false, ◌&&◌, cond, List, [], ◌∷◌, ◌++◌, length, take, drop, Option, Some, None, refl, sym, ap, subst, ◌∙◌, arith, length-drop, length-take}
use Rattle.std.specs.Prelude.{replicate, ⊤, ◌==◌, option_map}
use Rattle.std.specs.List.{concat, sum, All}
use Rattle.std.proofs.lemmas.Bool.{cases_lt, cond-false, ne_eqb, and_parts, leb-true, ltb-true}
use Rattle.std.proofs.lemmas.List.Elements.{All-take, All-drop}
use Rattle.std.proofs.lemmas.List.{length-replicate}
use Rattle.std.proofs.lemmas.Nat.{le-div}
use Rattle.std.proofs.lemmas.List.Sums.{sum_by-cons}
use Rattle.format_expr.specs.Reading.{pieces_of}
use Rattle.record_print.specs.declared.record.LogRecord.{LogRecord}
use Rattle.record_print.specs.Printing.{printed_record}
use Rattle.stream_config.specs.declared.attrs.FullAction.{FullAction}
use Rattle.stream_config.specs.declared.attrs.FullAction.TheVariants.{Wrap, Halt, Rotate}
use Rattle.stream_config.specs.declared.attrs.StreamAttrs.{StreamAttrs}
use Rattle.stream_config.specs.declared.state.LogFile.{LogFile}
use Rattle.stream_config.specs.Events.{most_files}
use Rattle.stream_config.specs.Fit.{next_first}
use Rattle.stream_config.specs.Sizes.{records_per_file}
use Rattle.stream_layout.specs.LogFiles.{records_from}
use Rattle.stream_layout.specs.Spots.{spot_in, spot_of}
use Rattle.stream_layout.proofs.Rounds.{remainder, length-concat}
use Rattle.stream_layout.proofs.EventLaws.{alike_sized, some_records, alike_all}
use Rattle.log_history.specs.Lengths.{lengths_from}
use Rattle.log_history.specs.Rounds.{Round, rounds, rounds_by, total, IsLastFirst, AreRounds, RoundsBeginEvenly, last_of, front_of}
use Rattle.log_history.specs.Chronicle.{Stream, lengths_of, files_had, stamped_files, last_file, all_files}
use Rattle.log_history.specs.Files.{records_of}
use Rattle.log_history.specs.Places.{first_of, files_now, is_standing, file_of, offset_of, spot_in_file, place_of}
use Rattle.log_history.proofs.RoundLaws.{closed-form, some-rounds}
use Rattle.log_history.proofs.EvenLaws.{even-form}
use Rattle.log_history.proofs.Reaching.{Passes}
use Rattle.log_history.proofs.StepLaws.{HasFull}
use Rattle.log_history.proofs.BytesLaws.{length-printed, sizes-printed, first-behind, within-file}

-- lengths of one size
lengths-alike : (attrs : StreamAttrs) (number : ℕ) (recs : List LogRecord) → 0 < attrs.record_size → lengths_from attrs number recs ≡ replicate (length recs) attrs.record_size
lengths-alike attrs number [] some = refl
lengths-alike attrs number (rec ∷ recs) some =
    ap (λ long. long ∷ lengths_from attrs (number + 1) recs) (cond-false (attrs.record_size == 0) (length (printed_record (pieces_of attrs.expr) number rec 0)) attrs.record_size (ne_eqb attrs.record_size 0 (omega (arith, some))))
    ∙ ap (λ rest. attrs.record_size ∷ rest) (lengths-alike attrs (number + 1) recs some)

drop-alike : (k count size : ℕ) → drop k (replicate count size) ≡ replicate (count - k) size
drop-alike zero count size = let same : count ≡ count - 0 = omega arith in ap (λ m. replicate m size) same
drop-alike (suc k) zero size = let none : 0 ≡ 0 - suc k = omega arith in ap (λ m. replicate m size) none
drop-alike (suc k) (suc count) size = let same : count - k ≡ suc count - suc k = omega arith in drop-alike k count size ∙ ap (λ m. replicate m size) same

take-alike : (k count size : ℕ) → k ≤ count → take k (replicate count size) ≡ replicate k size
take-alike zero count size low = refl
take-alike (suc k) zero size low = absurd (omega (arith, low))
take-alike (suc k) (suc count) size low = ap (λ rest. size ∷ rest) (take-alike k count size (omega (arith, low)))

sum-alike : (k size : ℕ) → sum (replicate k size) ≡ k * size
sum-alike zero size = omega arith
sum-alike (suc k) size =
    let more : size + k * size ≡ suc k * size = omega arith in
    sum_by-cons (λ n. n) size (replicate k size) ∙ ap (λ n. size + n) (sum-alike k size) ∙ more

total-alike : (size count first k : ℕ) → first + k ≤ count → total first (first + k) (replicate count size) ≡ k * size
total-alike size count first k low =
    let span : first + k - first ≡ k = omega arith in
    ap (λ s. sum (take s (drop first (replicate count size)))) span
    ∙ ap (λ lens. sum (take k lens)) (drop-alike first count size)
    ∙ ap sum (take-alike k (count - first) size (omega (arith, low)))
    ∙ sum-alike k size

-- the last file holds no more than n
last-is : (most : ℕ) (lens : List ℕ) (rs : List Round) → 0 < length rs → AreRounds most lens rs → IsLastFirst most lens (last_of rs).first
last-is most lens [] some are = absurd (omega (arith, some))
last-is most lens (round ∷ []) some are = are.0
last-is most lens (round ∷ next ∷ rs) some are = last-is most lens (next ∷ rs) (omega arith) are.2

-- files that begin at the multiples of n, none of which holds more
abbrev Evens : (n until index : ℕ) → List LogFile → Type 0
Evens n until index [] = ⊤
Evens n until index (file ∷ files) = (file.first ≡ index * n) × (next_first files until ≤ (index + 1) * n) × Evens n until (index + 1) files

evens-of : (n until index first : ℕ) (full : List (ℕ × ℕ)) (created : ℕ) (ended : Option ℕ) (rs : List Round) → first ≡ index * n → 0 < length rs → length (front_of rs) ≡ length full → RoundsBeginEvenly n first rs → until ≤ (last_of rs).first + n
    → Evens n until index (stamped_files full (front_of rs) ++ last_file created ended (last_of rs) ∷ [])
evens-of n until index first full created ended [] at some alike even low = absurd (omega (arith, some))
evens-of n until index first [] created ended (round ∷ []) at some alike even low =
    let more : (index + 1) * n ≡ index * n + n = omega arith in
    let begins = even.0 in
    (begins ∙ at, omega (arith, low, begins, at, more), tt)
evens-of n until index first (stamps ∷ full) created ended (round ∷ []) at some alike even low = absurd (omega (arith, alike))
evens-of n until index first [] created ended (round ∷ next ∷ rs) at some alike even low = absurd (omega (arith, alike))
evens-of n until index first (stamps ∷ full) created ended (round ∷ next ∷ rs) at some alike even low =
    let more : (index + 1) * n ≡ index * n + n = omega arith in
    let behind : length (front_of (next ∷ rs)) ≡ length full = omega (arith, alike) in
    let is = first-behind full created ended next rs until behind in
    let begins = even.1.0 in
    (even.0 ∙ at, omega (arith, is, begins, at, more), evens-of n until (index + 1) (first + n) full created ended (next ∷ rs) (omega (arith, at, more)) (omega arith) behind even.1 low)

evens-drop : (n until index k : ℕ) (files : List LogFile) → Evens n until index files → Evens n until (index + k) (drop k files)
evens-drop n until index zero files evens = let same : index ≡ index + 0 = omega arith in subst (λ i. Evens n until i files) same evens
evens-drop n until index (suc k) [] evens = tt
evens-drop n until index (suc k) (file ∷ files) evens =
    let same : index + 1 + k ≡ index + suc k = omega arith in
    subst (λ i. Evens n until i (drop k files)) same (evens-drop n until (index + 1) k files evens.2)

-- the file of a number begins at the multiple below it
record IsSlotted (n number first : ℕ) : Type 0 where
  index : ℕ
  at : first ≡ index * n
  low : first ≤ number
  high : number < (index + 1) * n

slotted : (n until index number : ℕ) (files : List LogFile) (file : LogFile) → Evens n until index files → file_of number until files ≡ Some file → IsSlotted n number file.first
slotted n until index number [] file evens is = cc
slotted n until index number (first ∷ files) file evens is = by_case (nat_le first.first number && nat_lt number (next_first files until)) refl is (slotted n until (index + 1) number files file evens.2) where
  by_case : (b : Bool) → (nat_le first.first number && nat_lt number (next_first files until)) ≡ b → cond b (Some first) (file_of number until files) ≡ Some file → (file_of number until files ≡ Some file → IsSlotted n number file.first) → IsSlotted n number file.first
  by_case true within same later =
      let e : first ≡ file = cc in
      let parts = and_parts (nat_le first.first number) (nat_lt number (next_first files until)) within in
      let low = leb-true first.first number parts.0 in
      let below = ltb-true number (next_first files until) parts.1 in
      let most = evens.1 in
      subst (λ (f : LogFile). IsSlotted n number f.first) e (record { index = index; at = evens.0; low = low; high = omega (arith, below, most) })
  by_case false without same later = later same

slot-of : (n number first : ℕ) → IsSlotted n number first → number - first ≡ number % n
slot-of n number first is =
    let at = is.at in
    let low = is.low in
    let high = is.high in
    let more : (is.index + 1) * n ≡ is.index * n + n = omega arith in
    sym (remainder n is.index (number - first) number (omega (arith, at, low, high, more)) (omega (arith, at, low)))

-- records of one size behind each other
run-long : (size first number : ℕ) (records : List (List ℕ)) → All (λ (bytes : List ℕ). length bytes ≡ size) records → first ≤ number → number ≤ length records → length (concat (records_from first number records)) ≡ (number - first) * size
run-long size first number records sizes low high =
    let P : List ℕ → Type 0 = λ bytes. length bytes ≡ size in
    let long = length-take (number - first) (drop first records) in
    let behind = length-drop first records in
    let count : length (records_from first number records) ≡ number - first = omega (arith, long, behind, low, high) in
    length-concat size (records_from first number records) (All-take P (number - first) (drop first records) (All-drop P first records sizes)) ∙ ap (λ c. c * size) count

offset-slot : (action : FullAction) (stream : Stream) (number : ℕ) (file : LogFile) → stream.attrs.action ≡ action → Passes stream → HasFull stream → 0 < stream.attrs.record_size → number < length stream.records
    → file_of number (length stream.records) (files_now stream) ≡ Some file
    → offset_of action (records_per_file stream.attrs) stream.attrs.record_size file.first number (records_of stream) ≡ (spot_in action (records_per_file stream.attrs) stream.attrs.record_size number).at
offset-slot Wrap stream number file is passes full some within found = refl
offset-slot Halt stream number file is passes full some within found =
    let attrs = stream.attrs in
    let taken = length-printed attrs 1 stream.records in
    let sizes = alike_all attrs (records_of stream) some (sizes-printed attrs 1 stream.records passes.sizes) in
    let zero_first : file.first ≡ 0 = first-zero (front_of (files_had stream)) stream.full (last_of (files_had stream)) (ap (λ a. front_of (rounds_by a (records_per_file attrs) attrs.record_size attrs.max_file (lengths_of stream))) is) full
    (ap (λ a. round_first (last_of (rounds_by a (records_per_file attrs) attrs.record_size attrs.max_file (lengths_of stream)))) is) (length (all_files stream) - most_files attrs.action attrs.rotated) found in
    let whole : number - file.first ≡ number = omega (arith, zero_first) in
    run-long attrs.record_size file.first number (records_of stream) sizes (omega (arith, zero_first)) (omega (arith, within, taken)) ∙ ap (λ c. c * attrs.record_size) whole
  where
    round_first : Round → ℕ
    round_first round = round.first

    first-zero : (front : List Round) (full : List (ℕ × ℕ)) (last : Round) → front ≡ [] → length front ≡ length full → last.first ≡ 0 → (k : ℕ)
        → file_of number (length stream.records) (drop k (stamped_files full front ++ last_file stream.current stream.ended last ∷ [])) ≡ Some file → file.first ≡ 0
    first-zero [] [] last none alike at zero there = by_case (nat_le last.first number && nat_lt number (length stream.records)) there where
      by_case : (b : Bool) → cond b (Some (last_file stream.current stream.ended last)) None ≡ Some file → file.first ≡ 0
      by_case true same = let e : last_file stream.current stream.ended last ≡ file = cc in subst (λ (f : LogFile). f.first ≡ 0) e at
      by_case false same = cc
    first-zero [] [] last none alike at (suc k) there = past k there where
      past : (k : ℕ) → file_of number (length stream.records) (let files : List LogFile = [] in drop k files) ≡ Some file → file.first ≡ 0
      past zero same = cc
      past (suc k) same = cc
    first-zero [] (stamps ∷ full) last none alike at k there = absurd (omega (arith, alike))
    first-zero (round ∷ front) full last none alike at k there = cc
offset-slot Rotate stream number file is passes full some within found =
    let attrs = stream.attrs in
    let n = records_per_file attrs in
    let m = length stream.records in
    let alike = alike_sized attrs passes.sizes some in
    let least = alike.least_file in
    let positive = some_records attrs alike in
    let taken = length-printed attrs 1 stream.records in
    let sizes = alike_all attrs (records_of stream) some (sizes-printed attrs 1 stream.records passes.sizes) in
    let lens = lengths_of stream in
    let same : lens ≡ replicate m attrs.record_size = lengths-alike attrs 1 stream.records some in
    let had : files_had stream ≡ rounds attrs.max_file (replicate m attrs.record_size) =
    ap (λ a. rounds_by a n attrs.record_size attrs.max_file lens) is ∙ ap (rounds attrs.max_file) same in
    let even : RoundsBeginEvenly n 0 (files_had stream) = subst (RoundsBeginEvenly n 0) (sym had) (even-form attrs.max_file attrs.record_size m some least) in
    let are : AreRounds attrs.max_file (replicate m attrs.record_size) (files_had stream) =
    subst (AreRounds attrs.max_file (replicate m attrs.record_size)) (sym had)
    (closed-form attrs.max_file (replicate m attrs.record_size) (subst (All (λ len. len ≤ attrs.max_file)) same (within-file attrs 1 stream.records passes.sizes))) in
    let one_more : 0 < length (files_had stream) = subst (λ rs. 0 < length rs) (sym had) (some-rounds attrs.max_file 0 0 0 (replicate m attrs.record_size)) in
    let last = last-is attrs.max_file (replicate m attrs.record_size) (files_had stream) one_more are in
    let bound = last-bound attrs.max_file attrs.record_size m (last_of (files_had stream)).first some least last in
    let none : 0 ≡ 0 * n = omega arith in
    let evens = evens-of n m 0 0 stream.full stream.current stream.ended (files_had stream) none one_more full even bound in
    let slot = slotted n m (0 + (length (all_files stream) - most_files attrs.action attrs.rotated)) number (files_now stream) file
    (evens-drop n m 0 (length (all_files stream) - most_files attrs.action attrs.rotated) (all_files stream) evens) found in
    run-long attrs.record_size file.first number (records_of stream) sizes slot.low (omega (arith, within, taken)) ∙ ap (λ c. c * attrs.record_size) (slot-of n number file.first slot)
  where
    last-bound : (most size m first : ℕ) → 0 < size → size ≤ most → IsLastFirst most (replicate m size) first → m ≤ first + most / size
    last-bound most size m first some least last = by_order (cases_lt (first + most / size) m) where
      by_order : (first + most / size < m) ⊎ (m ≤ first + most / size) → m ≤ first + most / size
      by_order (inr low) = low
      by_order (inl high) =
          let positive : 1 ≤ most / size = le-div 1 most size some (omega (arith, least)) in
          let long = length-replicate {A = ℕ} m size in
          let over = last.none (first + most / size) (omega (arith, positive)) (omega (arith, high, long)) in
          let shape : first + most / size + 1 ≡ first + (most / size + 1) = omega arith in
          let held : (most / size + 1) * size ≤ most =
          subst (λ t. t ≤ most) (ap (λ u. total first u (replicate m size)) shape ∙ total-alike size m first (most / size + 1) (omega (arith, high))) over in
          absurd (let low = le-div (most / size + 1) most size some held in omega (arith, low))

-- **with records of one size a record's offset is that of its number**
pub place-slot : (stream : Stream) (number : ℕ) (place : List ℕ × ℕ) → Passes stream → HasFull stream → 0 < stream.attrs.record_size → place_of stream number ≡ Some place → place.1 ≡ (spot_of stream.attrs number).at
place-slot stream number place passes full some is = by_case (is_standing stream number) refl (file_of number (length stream.records) (files_now stream)) refl is where
  by_case : (b : Bool) → is_standing stream number ≡ b → (found : Option LogFile) → file_of number (length stream.records) (files_now stream) ≡ found → cond b (option_map (spot_in_file stream number) found) None ≡ Some place → place.1 ≡ (spot_of stream.attrs number).at
  by_case false stands found there same = cc
  by_case true stands None there same = cc
  by_case true stands (Some file) there same =
      let e : spot_in_file stream number file ≡ place = cc in
      let parts = and_parts (nat_le (first_of stream) number) (nat_lt number (length stream.records)) stands in
      sym (ap (λ (p : List ℕ × ℕ). p.1) e) ∙ offset-slot stream.attrs.action stream number file refl passes full some (ltb-true number (length stream.records) parts.1) there
