-- The records of bytes, one after another, and the numbers of those that pass.
use Rattle.std.proofs.Common.{◌≡◌, ℕ, ◌+◌, ◌-◌, ◌<◌, ◌≤◌, List, [], ◌∷◌, ◌++◌, length, take, drop, get_or, Bool, false, Some, inl, inr, refl, sym, ap, ◌∙◌, subst, arith, length-append, append_assoc, append-nil}
use Rattle.std.specs.List.{All, concat}
use Rattle.std.specs.Bool.{Decides}
use Rattle.std.specs.Str.{bytes_eq}
use Rattle.std.proofs.lemmas.Bool.{cases_lt, cases_order}
use Rattle.std.proofs.lemmas.Option.{slice_get_read, slice_get_within, same_Some}
use Rattle.std.proofs.lemmas.Slice.Eq.{bytes_eq-Decides}
use Rattle.std.proofs.lemmas.List.{take_at, drop_at, take-append-drop, get_or_append_left, get_or-take, length-take-le}
use Rattle.std.proofs.lemmas.List.Elements.{All-head, All-tail, All-push}
use Rattle.record_scan.specs.Numbers.{IsLine, IsRecord, IsRest, AreRecords, IsTextAt, AreNumbers}

-- up to the first line feed
pub line_at : (bytes : List ℕ) (place : ℕ) → place < length bytes → get_or bytes place 0 ≡ 10 → ((k : ℕ) → k < place → get_or bytes k 0 ≡ 10 → ⊥) → IsLine (take (place + 1) bytes)
line_at bytes place inside feed before =
    let long : length (take (place + 1) bytes) ≡ place + 1 = length-take-le (place + 1) bytes (omega arith) in
    let last : length (take (place + 1) bytes) - 1 ≡ place = omega arith in
    let below : place < place + 1 = omega arith in
    record {
      some = omega arith;
      ended = ap (λ k. get_or (take (place + 1) bytes) k 0) last ∙ get_or-take (place + 1) bytes place 0 below ∙ feed;
      first = λ k early is.
          let within : k < place = omega arith in
          let under : k < place + 1 = omega arith in
          before k within (sym (get_or-take (place + 1) bytes k 0 under) ∙ is);
    }

-- a record at the front of bytes is known by its size, or by its line feed
line_shorter : (one other left right : List ℕ) → one ++ left ≡ other ++ right → IsLine one → IsLine other → length one < length other → ⊥
line_shorter one other left right same is is' less =
    let some = is.some in
    let last = length one - 1 in
    let inside : last < length one = omega arith in
    let within : last < length other = omega arith in
    let early : last + 1 < length other = omega arith in
    is'.first last early
    (sym (get_or_append_left other right 0 last within) ∙ ap (λ bytes. get_or bytes last 0) (sym same) ∙ get_or_append_left one left 0 last inside ∙ is.ended)

same_length : (size : ℕ) (one other left right : List ℕ) → one ++ left ≡ other ++ right → IsRecord size one → IsRecord size other → length one ≡ length other
same_length size one other left right same is is' =
    elim (cases_lt 0 size) [
      | inl sized ↦ is.sized sized ∙ sym (is'.sized sized)
      | inr lines ↦
          let zero : size ≡ 0 = omega arith in
          elim (cases_order (length one) (length other)) [
            | inl equal ↦ equal
            | inr unequal ↦ elim unequal [
              | inl less ↦ absurd (line_shorter one other left right same (is.line zero) (is'.line zero) less)
              | inr more ↦ absurd (line_shorter other one right left (sym same) (is'.line zero) (is.line zero) more)
            ]
          ]
    ]

same_front : (size : ℕ) (one other left right : List ℕ) → one ++ left ≡ other ++ right → IsRecord size one → IsRecord size other → (one ≡ other) × (left ≡ right)
same_front size one other left right same is is' =
    let long = same_length size one other left right same is is' in (
      sym (take_at one left (length one) refl) ∙ ap (take (length one)) same ∙ take_at other right (length one) (sym long),
      sym (drop_at one left (length one) refl) ∙ ap (drop (length one)) same ∙ drop_at other right (length one) (sym long),
    )

-- what is left begins with no record
no_record : (size : ℕ) (rest rec left : List ℕ) → IsRest size rest → rest ≡ rec ++ left → IsRecord size rec → ⊥
no_record size rest rec left over is record_is =
    let whole = length-append rec left in
    let long = ap length is in
    elim (cases_lt 0 size) [
      | inl sized ↦ let own = record_is.sized sized in let short = over.short sized in omega arith
      | inr lines ↦
          let zero : size ≡ 0 = omega arith in
          let line = record_is.line zero in
          let some = line.some in
          let last = length rec - 1 in
          let inside : last < length rec = omega arith in
          let within : last < length rest = omega arith in
          over.unended zero last within (ap (λ bytes. get_or bytes last 0) is ∙ get_or_append_left rec left 0 last inside ∙ line.ended)
    ]

pub records_only : (size : ℕ) (one other : List (List ℕ)) (rest left : List ℕ) → concat one ++ rest ≡ concat other ++ left → All (IsRecord size) one → All (IsRecord size) other → IsRest size rest → IsRest size left → (one ≡ other) × (rest ≡ left)
records_only size [] [] rest left same each each' over over' = (refl, same)
records_only size [] (rec ∷ other) rest left same each each' over over' =
    absurd (no_record size rest rec (concat other ++ left) over (same ∙ append_assoc rec (concat other) left) (All-head (IsRecord size) rec other each'))
records_only size (rec ∷ one) [] rest left same each each' over over' =
    absurd (no_record size left rec (concat one ++ rest) over' (sym same ∙ append_assoc rec (concat one) rest) (All-head (IsRecord size) rec one each))
records_only size (rec ∷ one) (rec' ∷ other) rest left same each each' over over' =
    let front = same_front size rec rec' (concat one ++ rest) (concat other ++ left)
    (sym (append_assoc rec (concat one) rest) ∙ same ∙ append_assoc rec' (concat other) left)
    (All-head (IsRecord size) rec one each) (All-head (IsRecord size) rec' other each') in
    let behind = records_only size one other rest left front.1 (All-tail (IsRecord size) rec one each) (All-tail (IsRecord size) rec' other each') over over' in
    (ap (λ r. r ∷ one) front.0 ∙ ap (λ rs. rec' ∷ rs) behind.0, behind.1)

-- the records gone through so far, and what was made of them; Are says what is made of records that begin with a number
pub record IsPassed (Are : ℕ → List (List ℕ) → List ℕ → Type 0) (size : ℕ) (bytes rest made : List ℕ) (number : ℕ) : Type 0 where
  pub records : List (List ℕ)
  pub whole : bytes ≡ concat records ++ rest
  pub each : All (IsRecord size) records
  pub others : (more : List (List ℕ)) (later : List ℕ) → Are (number + 1) more later → Are 1 (records ++ more) (made ++ later)

concat-push : (records : List (List ℕ)) (rec : List ℕ) → concat (records ++ rec ∷ []) ≡ concat records ++ rec
concat-push [] rec = append-nil rec
concat-push (first ∷ records) rec = ap (λ bytes. first ++ bytes) (concat-push records rec) ∙ sym (append_assoc first (concat records) rec)

whole_more : (bytes rest : List ℕ) (records : List (List ℕ)) (long : ℕ) → bytes ≡ concat records ++ rest → bytes ≡ concat (records ++ take long rest ∷ []) ++ drop long rest
whole_more bytes rest records long whole =
    whole ∙ ap (λ b. concat records ++ b) (sym (take-append-drop long rest)) ∙ sym (append_assoc (concat records) (take long rest) (drop long rest))
    ∙ ap (λ b. b ++ drop long rest) (sym (concat-push records (take long rest)))

-- one record more, of which a part was made
pub one_more : (Are : ℕ → List (List ℕ) → List ℕ → Type 0) (size : ℕ) (bytes rest made part : List ℕ) (number long : ℕ) → IsPassed Are size bytes rest made number → IsRecord size (take long rest) → ((more : List (List ℕ)) (later : List ℕ) → Are (number + 1 + 1) more later → Are (number + 1) (take long rest ∷ more) (part ++ later)) → IsPassed Are size bytes (drop long rest) (made ++ part) (number + 1)
one_more Are size bytes rest made part number long so is adds = record {
  records = so.records ++ take long rest ∷ [];
  whole = whole_more bytes rest so.records long so.whole;
  each = All-push (IsRecord size) so.records (take long rest) so.each is;
  others = λ more later are.
      let all = so.others (take long rest ∷ more) (part ++ later) (adds more later are) in
      subst (λ text. Are 1 (so.records ++ take long rest ∷ [] ++ more) text) (sym (append_assoc made part later))
      (subst (λ records. Are 1 records (made ++ (part ++ later))) (sym (append_assoc so.records (take long rest ∷ []) more)) all);
}

pub one_found : (Passes : List ℕ → Type 0) (size : ℕ) (bytes rest found : List ℕ) (number long : ℕ) → IsPassed (AreNumbers Passes) size bytes rest found number → IsRecord size (take long rest) → Passes (take long rest) → IsPassed (AreNumbers Passes) size bytes (drop long rest) (found ++ (number + 1) ∷ []) (number + 1)
one_found Passes size bytes rest found number long so is passes =
    one_more (AreNumbers Passes) size bytes rest found ((number + 1) ∷ []) number long so is (λ more later are. inl (later, passes, refl, are))

pub one_passed : (Passes : List ℕ → Type 0) (size : ℕ) (bytes rest found : List ℕ) (number long : ℕ) → IsPassed (AreNumbers Passes) size bytes rest found number → IsRecord size (take long rest) → (Passes (take long rest) → ⊥) → IsPassed (AreNumbers Passes) size bytes (drop long rest) found (number + 1)
one_passed Passes size bytes rest found number long so is fails =
    subst (λ numbers. IsPassed (AreNumbers Passes) size bytes (drop long rest) numbers (number + 1)) (append-nil found)
    (one_more (AreNumbers Passes) size bytes rest found [] number long so is (λ more later are. inr (fails, are)))

-- what was made of the records so far, and of all where no more begins
pub made_so_far : (Are : ℕ → List (List ℕ) → List ℕ → Type 0) (size : ℕ) (bytes rest made : List ℕ) (number : ℕ) → (so : IsPassed Are size bytes rest made number) → Are (number + 1) [] [] → Are 1 so.records made
made_so_far Are size bytes rest made number so none =
    subst (λ records. Are 1 records made) (append-nil so.records) (subst (Are 1 (so.records ++ [])) (append-nil made) (so.others [] [] none))

pub all_passed : (Are : ℕ → List (List ℕ) → List ℕ → Type 0) (size : ℕ) (bytes rest made : List ℕ) (number : ℕ) → (so : IsPassed Are size bytes rest made number) → Are (number + 1) [] [] → IsRest size rest → AreRecords size bytes so.records rest × Are 1 so.records made
all_passed Are size bytes rest made number so none over =
    (record { whole = so.whole; each = so.each; over = over }, made_so_far Are size bytes rest made number so none)

-- whether the text of a number is the wanted one
pub text_decided : (texts : List (List ℕ)) (token : ℕ) (wanted shown text : List ℕ) (same : Bool) → 0 < token → token - 1 < length texts → text ≡ get_or texts (token - 1) text → shown ≡ text → same ≡ bytes_eq shown wanted → Decides same (IsTextAt token wanted texts)
text_decided texts token wanted shown text same some inside read is told =
    let found = slice_get_read texts (length texts) (token - 1) text refl inside read in
    let decides = bytes_eq-Decides shown wanted in (
      λ yes. (some, found ∙ ap (λ (t : List ℕ). Some t) (sym is ∙ decides.0 (sym told ∙ yes))),
      λ has. told ∙ decides.1 (is ∙ same_Some text wanted (sym found ∙ has.1)),
    )

pub no_text : (texts : List (List ℕ)) (token : ℕ) (wanted : List ℕ) → length texts ≤ token - 1 → Decides false (IsTextAt token wanted texts)
no_text texts token wanted past =
    (λ yes. absurd cc, λ has. let inside = slice_get_within texts (token - 1) wanted has.1 in absurd (omega arith))
