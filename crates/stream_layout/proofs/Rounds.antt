-- What one more record does to the records of a round and to those of a file.
use Rattle.std.proofs.Common.{◌≡◌, ℕ, zero, suc, ◌+◌, ◌-◌, ◌*◌, ◌/◌, ◌%◌, ◌<◌, ◌≤◌, List, [], ◌∷◌, ◌++◌, length, take, drop, sym, ap, ◌∙◌, inl, inr, arith, append_assoc, length-append, length-drop, length-take}
use Rattle.std.specs.List.{concat, All}
use Rattle.std.proofs.lemmas.Bool.{cases_eq}
use Rattle.std.proofs.lemmas.List.{take-append-drop, take_all, take_at, take-append-le, drop-drop, drop_at, drop-append-le, drop_all, length_push}
use Rattle.std.proofs.lemmas.List.Elements.{All-head, All-tail, All-take, All-drop, All-append}
use Rattle.std.proofs.lemmas.Nat.{div-mul-add, div-add-mod'}
use Rattle.std.proofs.lemmas.List.Folds.{concat-append}
use Rattle.disk_model.specs.Disk.{overwritten}
use Rattle.stream_layout.specs.LogFiles.{round_of, overlaid}

-- the quotient and the rest of a number that is written by them
pub quotient : (n q k m : ℕ) → k < n → m ≡ q * n + k → m / n ≡ q
quotient n q k m small is = ap (λ v. v / n) is ∙ div-mul-add q n k small

pub remainder : (n q k m : ℕ) → k < n → m ≡ q * n + k → m % n ≡ k
remainder n q k m small is =
    let whole : m / n * n + m % n ≡ m = div-add-mod' m n in
    let same : m / n * n ≡ q * n = ap (λ v. v * n) (quotient n q k m small is) in
    omega arith

-- each record has this size
abbrev pub AreOfSize : ℕ → List (List ℕ) → Type 0
AreOfSize size records = All (λ bytes. length bytes ≡ size) records

pub length-concat : (size : ℕ) (xs : List (List ℕ)) → AreOfSize size xs → length (concat xs) ≡ length xs * size
length-concat size [] sizes = omega arith
length-concat size (x ∷ xs) sizes =
    let one : length x ≡ size = All-head (λ bytes. length bytes ≡ size) x xs sizes in
    let rest = length-concat size xs (All-tail (λ bytes. length bytes ≡ size) x xs sizes) in
    length-append x (concat xs) ∙ omega arith

-- the records behind the first
drop_first : (size : ℕ) (xs : List (List ℕ)) → AreOfSize size xs → drop size (concat xs) ≡ concat (drop 1 xs)
drop_first size [] sizes = drop_all size [] (omega arith)
drop_first size (x ∷ xs) sizes = drop_at x (concat xs) size (All-head (λ bytes. length bytes ≡ size) x xs sizes)

-- bytes put between two parts
overwritten_between : (front behind bytes : List ℕ) (at : ℕ) → length front ≡ at → overwritten (front ++ behind) at bytes ≡ front ++ (bytes ++ drop (length bytes) behind)
overwritten_between front behind bytes at is =
    ap (λ v. v ++ bytes ++ drop (at + length bytes) (front ++ behind)) (take_at front behind at is)
    ∙ ap (λ v. front ++ bytes ++ v) (sym (drop-drop (length bytes) at (front ++ behind)) ∙ ap (drop (length bytes)) (drop_at front behind at is))
    ∙ append_assoc front bytes (drop (length bytes) behind)

-- a record put over the one of that number, or behind the last, leaves the others
pub overwritten-concat : (size number : ℕ) (records : List (List ℕ)) (bytes : List ℕ) → AreOfSize size records → length bytes ≡ size → number ≤ length records
    → overwritten (concat records) (number * size) bytes ≡ concat (take number records ++ bytes ∷ drop (number + 1) records)
overwritten-concat size number records bytes sizes whole within =
    let front = take number records in
    let behind = drop number records in
    let fronts : AreOfSize size front = All-take (λ r. length r ≡ size) number records sizes in
    let behinds : AreOfSize size behind = All-drop (λ r. length r ≡ size) number records sizes in
    let count : length front ≡ number = length-take number records ∙ omega arith in
    let at : length (concat front) ≡ number * size = length-concat size front fronts ∙ ap (λ v. v * size) count in
    ap (λ v. overwritten v (number * size) bytes) (ap concat (sym (take-append-drop number records)) ∙ concat-append front behind)
    ∙ overwritten_between (concat front) (concat behind) bytes (number * size) at
    ∙ ap (λ v. concat front ++ (bytes ++ v)) (ap (λ s. drop s (concat behind)) whole ∙ drop_first size behind behinds ∙ ap concat (drop-drop 1 number records))
    ∙ sym (concat-append front (bytes ∷ drop (number + 1) records))

-- a round that is full stays as it is
pub round_full : (n round : ℕ) (records more : List (List ℕ)) → (round + 1) * n ≤ length records → round_of n round (records ++ more) ≡ round_of n round records
round_full n round records more full =
    ap (take n) (drop-append-le (round * n) records more (omega arith))
    ∙ take-append-le n (drop (round * n) records) more (let long = length-drop (round * n) records in omega arith)

-- the records of the running round
pub round_last : (n round k : ℕ) (records : List (List ℕ)) → k < n → length records ≡ round * n + k → round_of n round records ≡ drop (round * n) records
round_last n round k records small is =
    take_all n (drop (round * n) records) (let long = length-drop (round * n) records in omega arith)

pub length-running : (n round k : ℕ) (records : List (List ℕ)) → length records ≡ round * n + k → length (drop (round * n) records) ≡ k
length-running n round k records is = length-drop (round * n) records ∙ omega arith

-- one more record of the running round
pub round_more : (n round k : ℕ) (records : List (List ℕ)) (bytes : List ℕ) → k < n → length records ≡ round * n + k
    → round_of n round (records ++ bytes ∷ []) ≡ drop (round * n) records ++ bytes ∷ []
round_more n round k records bytes small is =
    ap (take n) (drop-append-le (round * n) records (bytes ∷ []) (omega arith))
    ∙ take_all n (drop (round * n) records ++ bytes ∷ [])
    (let long = length-running n round k records is in let one = length_push (drop (round * n) records) bytes in omega arith)

-- the one file by its last round and the round before
pub overlaid_is : (n round k : ℕ) (records : List (List ℕ)) → k < n → length records ≡ round * n + k
    → overlaid n records ≡ drop (round * n) records ++ drop k (round_of n (round - 1) records)
overlaid_is n round k records small is =
    ap (λ r. round_of n r records ++ drop (length (round_of n r records)) (round_of n (r - 1) records)) (quotient n round k (length records) small is)
    ∙ ap (λ rs. rs ++ drop (length rs) (round_of n (round - 1) records)) (round_last n round k records small is)
    ∙ ap (λ l. drop (round * n) records ++ drop l (round_of n (round - 1) records)) (length-running n round k records is)

-- of the round before nothing new is seen behind one more record
before_stays : (n round k : ℕ) (records : List (List ℕ)) (bytes : List ℕ) → k < n → length records ≡ round * n + k
    → drop (k + 1) (round_of n (round - 1) (records ++ bytes ∷ [])) ≡ drop (k + 1) (round_of n (round - 1) records)
before_stays n zero k records bytes small is =
    ap (drop (k + 1)) (round_more n 0 k records bytes small is)
    ∙ drop_all (k + 1) (drop (0 * n) records ++ bytes ∷ [])
    (let long = length-running n 0 k records is in let one = length_push (drop (0 * n) records) bytes in omega arith)
    ∙ sym (drop_all (k + 1) (round_of n 0 records)
    (let same = ap length (round_last n 0 k records small is) in let long = length-running n 0 k records is in omega arith))
before_stays n (suc round) k records bytes small is =
    let one : suc round - 1 ≡ round = omega arith in
    ap (drop (k + 1)) (ap (λ r. round_of n r (records ++ bytes ∷ [])) one ∙ round_full n round records (bytes ∷ []) (omega arith) ∙ ap (λ r. round_of n r records) (sym one))

-- the one file split at the place behind the last round
overlaid_split : (n round k : ℕ) (records : List (List ℕ)) (bytes : List ℕ) → k < n → length records ≡ round * n + k
    → take k (overlaid n records) ++ bytes ∷ drop (k + 1) (overlaid n records) ≡ drop (round * n) records ++ bytes ∷ drop (k + 1) (round_of n (round - 1) records)
overlaid_split n round k records bytes small is =
    let running = drop (round * n) records in
    let behind = drop k (round_of n (round - 1) records) in
    let long : length running ≡ k = length-running n round k records is in
    ap (λ rs. take k rs ++ bytes ∷ drop (k + 1) rs) (overlaid_is n round k records small is)
    ∙ ap (λ rs. rs ++ bytes ∷ drop (k + 1) (running ++ behind)) (take_at running behind k long)
    ∙ ap (λ rs. running ++ bytes ∷ rs)
    (sym (drop-drop 1 k (running ++ behind)) ∙ ap (drop 1) (drop_at running behind k long) ∙ drop-drop 1 k (round_of n (round - 1) records))

-- the last place of the round is taken
overlaid_full : (n round k : ℕ) (records : List (List ℕ)) (bytes : List ℕ) → k < n → k + 1 ≡ n → length records ≡ round * n + k
    → overlaid n (records ++ bytes ∷ []) ≡ drop (round * n) records ++ bytes ∷ drop (k + 1) (round_of n (round - 1) records)
overlaid_full n round k records bytes small full is =
    let all = records ++ bytes ∷ [] in
    let pushed : length all ≡ length records + 1 = length_push records bytes in
    let next : length all ≡ (round + 1) * n + 0 = omega arith in
    let back : round + 1 - 1 ≡ round = omega arith in
    let before = round_of n (round - 1) records in
    let short = length-take n (drop ((round - 1) * n) records) in
    overlaid_is n (round + 1) 0 all (omega arith) next
    ∙ ap (λ rs. rs ++ round_of n (round + 1 - 1) all) (drop_all ((round + 1) * n) all (omega arith))
    ∙ ap (λ r. round_of n r all) back
    ∙ round_more n round k records bytes small is
    ∙ ap (λ rs. drop (round * n) records ++ bytes ∷ rs) (sym (drop_all (k + 1) before (omega arith)))

-- a place of the round behind it stays
overlaid_open : (n round k : ℕ) (records : List (List ℕ)) (bytes : List ℕ) → k < n → k + 1 < n → length records ≡ round * n + k
    → overlaid n (records ++ bytes ∷ []) ≡ drop (round * n) records ++ bytes ∷ drop (k + 1) (round_of n (round - 1) records)
overlaid_open n round k records bytes small further is =
    let all = records ++ bytes ∷ [] in
    let pushed : length all ≡ length records + 1 = length_push records bytes in
    overlaid_is n round (k + 1) all further (omega arith)
    ∙ ap (λ rs. rs ++ drop (k + 1) (round_of n (round - 1) all)) (drop-append-le (round * n) records (bytes ∷ []) (omega arith))
    ∙ ap (λ rs. drop (round * n) records ++ bytes ∷ [] ++ rs) (before_stays n round k records bytes small is)
    ∙ append_assoc (drop (round * n) records) (bytes ∷ []) (drop (k + 1) (round_of n (round - 1) records))

-- one more record takes the place behind those of the last round
pub overlaid_more : (n round k : ℕ) (records : List (List ℕ)) (bytes : List ℕ) → k < n → length records ≡ round * n + k
    → overlaid n (records ++ bytes ∷ []) ≡ take k (overlaid n records) ++ bytes ∷ drop (k + 1) (overlaid n records)
overlaid_more n round k records bytes small is =
    elim (cases_eq (k + 1) n) [
      | inl full ↦ overlaid_full n round k records bytes small full is ∙ sym (overlaid_split n round k records bytes small is)
      | inr unlike ↦
          let further : k + 1 < n = omega arith in
          overlaid_open n round k records bytes small further is ∙ sym (overlaid_split n round k records bytes small is)
    ]

-- the place is one of the file's, or the one behind its last
pub overlaid_reaches : (n round k : ℕ) (records : List (List ℕ)) → k < n → length records ≡ round * n + k → k ≤ length (overlaid n records)
overlaid_reaches n round k records small is =
    let long = length-running n round k records is in
    let whole = ap length (overlaid_is n round k records small is) in
    let parts = length-append (drop (round * n) records) (drop k (round_of n (round - 1) records)) in
    omega arith

pub overlaid_sizes : (size n : ℕ) (records : List (List ℕ)) → AreOfSize size records → AreOfSize size (overlaid n records)
overlaid_sizes size n records sizes =
    let P : List ℕ → Type 0 = λ bytes. length bytes ≡ size in
    let round = length records / n in
    let running = round_of n round records in
    let runnings : All P running = All-take P n (drop (round * n) records) (All-drop P (round * n) records sizes) in
    let before = round_of n (round - 1) records in
    let befores : All P before = All-take P n (drop ((round - 1) * n) records) (All-drop P ((round - 1) * n) records sizes) in
    All-append P running (drop (length running) before) runnings (All-drop P (length running) before befores)
