-- Where the records of a file stand.
use Rattle.std.proofs.Common.{◌≡◌, ℕ, zero, suc, ◌+◌, ◌-◌, ◌<◌, ◌≤◌, List, [], ◌∷◌, ◌++◌, length, take, drop, get_or, refl, sym, ap, ◌∙◌, arith, length-append}
use Rattle.std.specs.List.{concat, All}
use Rattle.std.proofs.lemmas.List.{take_at, drop_at, drop-drop}
use Rattle.std.proofs.lemmas.List.Elements.{All-head, All-tail}
use Rattle.std.proofs.lemmas.List.Folds.{concat-append}
use Rattle.stream_layout.specs.LogFiles.{records_from}

take-split : {X : Type 0} (one other : ℕ) (xs : List X) → one ≤ other → take other xs ≡ take one xs ++ take (other - one) (drop one xs)
take-split zero other xs low = let same : other - 0 ≡ other = omega arith in sym (ap (λ k. take k xs) same)
take-split (suc one) zero xs low = absurd (omega (arith, low))
take-split (suc one) (suc other) [] low = sym (take-none (suc other - suc one)) where
  take-none : {X : Type 0} (k : ℕ) → take k (let none : List X = [] in none) ≡ []
  take-none zero = refl
  take-none (suc k) = refl
take-split (suc one) (suc other) (x ∷ xs) low =
    let same : suc other - suc one ≡ other - one = omega arith in
    ap (λ rest. x ∷ rest) (take-split one other xs (omega (arith, low))) ∙ sym (ap (λ k. x ∷ take one xs ++ take k (drop one xs)) same)

-- the records from one number on are those to a number between and those from there on
records_from-split : (first number until : ℕ) (records : List (List ℕ)) → first ≤ number → number ≤ until
    → records_from first until records ≡ records_from first number records ++ records_from number until records
records_from-split first number until records low high =
    let one : until - first - (number - first) ≡ until - number = omega (arith, low, high) in
    let place : first + (number - first) ≡ number = omega (arith, low) in
    take-split (number - first) (until - first) (drop first records) (omega (arith, low, high))
    ∙ ap (λ rest. records_from first number records ++ take (until - first - (number - first)) rest) (drop-drop (number - first) first records ∙ ap (λ k. drop k records) place)
    ∙ ap (λ k. records_from first number records ++ take k (drop number records)) one

-- a record and those behind it
from-number : (number : ℕ) (records : List (List ℕ)) → number < length records → drop number records ≡ get_or records number [] ∷ drop (suc number) records
from-number number [] within = absurd (omega (arith, within))
from-number zero (first ∷ records) within = refl
from-number (suc number) (first ∷ records) within = from-number number records (omega (arith, within))

begins-with : (number until : ℕ) (records : List (List ℕ)) → number < until → number < length records
    → records_from number until records ≡ get_or records number [] ∷ records_from (suc number) until records
begins-with number until records low high =
    let next : until - number ≡ suc (until - suc number) = omega (arith, low) in
    ap (take (until - number)) (from-number number records high)
    ∙ ap (λ k. take k (get_or records number [] ∷ drop (suc number) records)) next

-- **a record stands behind those before it**
pub stands-behind : (first number until : ℕ) (records : List (List ℕ)) → first ≤ number → number < until → number < length records
    → take (length (get_or records number [])) (drop (length (concat (records_from first number records))) (concat (records_from first until records))) ≡ get_or records number []
stands-behind first number until records low high within =
    let before = records_from first number records in
    let own = get_or records number [] in
    let rest = records_from (suc number) until records in
    let whole : concat (records_from first until records) ≡ concat before ++ (own ++ concat rest) =
    ap concat (records_from-split first number until records low (omega (arith, high)) ∙ ap (λ rs. before ++ rs) (begins-with number until records high within))
    ∙ concat-append before (own ∷ rest) in
    ap (λ bytes. take (length own) (drop (length (concat before)) bytes)) whole
    ∙ ap (take (length own)) (drop_at (concat before) (own ++ concat rest) (length (concat before)) refl)
    ∙ take_at own (concat rest) (length own) refl

some-bytes : (number : ℕ) (records : List (List ℕ)) → All (λ (bytes : List ℕ). 1 ≤ length bytes) records → number < length records → 1 ≤ length (get_or records number [])
some-bytes number [] each within = absurd (omega (arith, within))
some-bytes zero (first ∷ records) each within = All-head (λ (bytes : List ℕ). 1 ≤ length bytes) first records each
some-bytes (suc number) (first ∷ records) each within =
    some-bytes number records (All-tail (λ (bytes : List ℕ). 1 ≤ length bytes) first records each) (omega (arith, within))

-- **later records stand further behind**
pub offsets-rise : (first one other : ℕ) (records : List (List ℕ)) → All (λ (bytes : List ℕ). 1 ≤ length bytes) records → first ≤ one → one < other → one < length records
    → length (concat (records_from first one records)) < length (concat (records_from first other records))
offsets-rise first one other records each low high within =
    let before = records_from first one records in
    let own = get_or records one [] in
    let rest = records_from (suc one) other records in
    let whole : concat (records_from first other records) ≡ concat before ++ (own ++ concat rest) =
    ap concat (records_from-split first one other records low (omega (arith, high)) ∙ ap (λ rs. before ++ rs) (begins-with one other records high within))
    ∙ concat-append before (own ∷ rest) in
    let long = ap length whole ∙ length-append (concat before) (own ++ concat rest) in
    let more = length-append own (concat rest) in
    let some = some-bytes one records each within in
    omega (arith, long, more, some)
