-- Loops that read values one behind the other, and loops that spell them.
use Rattle.std.proofs.Common.{◌≡◌, ◌⊎◌, ℕ, suc, ◌+◌, ◌-◌, ◌<◌, ◌≤◌, ◌&&◌, nat_le, false, length-drop, List, [], ◌∷◌, ◌++◌, length, take, drop, get_or, Result, Ok, Err, refl, sym, ◌∙◌, ap, inl, inr, arith}
use Rattle.std.proofs.lemmas.List.{append-nil, append_assoc, take_more, drop_more, drop_all}
use Rattle.std.proofs.lemmas.Bool.{cond-true, cond-false, and_from, and_left, and_right, le-leb, lt-leb}
use Rattle.wire_code.specs.declared.fault.Fault.{Fault}
use Rattle.wire_code.specs.declared.fault.Fault.TheVariants.{Short, Bad}
use Rattle.wire_code.specs.declared.fault.Trouble.{Trouble}
use Rattle.wire_code.specs.declared.fault.Trouble.TheVariants.{Memory, Faulty}
use Rattle.wire_code.specs.Spelling.{texts}
use Rattle.wire_code.specs.Reading.{At, then_read, many_at, byte_at, wrong, Gives}

-- values that were read before stand in front of those that are read
abbrev pub with_front : {X : Type 0} → List X → Result (List X × List ℕ) Fault → Result (List X × List ℕ) Fault
with_front front (Ok found) = Ok (front ++ found.0, found.1)
with_front front (Err fault) = Err fault

with_front-twice : {X : Type 0} (one two : List X) (read : Result (List X × List ℕ) Fault) → with_front one (with_front two read) ≡ with_front (one ++ two) read
with_front-twice one two (Ok found) = ap (λ (xs : List _). Ok (xs, found.1)) (sym (append_assoc one two found.0))
with_front-twice one two (Err fault) = refl

-- the first of many values, and the others
many_more : {X : Type 0} (at : At X) (count : ℕ) (x : X) (bytes rest : List ℕ) → at bytes ≡ Ok (x, rest) → many_at at (suc count) bytes ≡ with_front (x ∷ []) (many_at at count rest)
many_more {X} at count x bytes rest first =
    let others : Result (List X × List ℕ) Fault → Result (List X × List ℕ) Fault =
    λ read. then_read (then_read read (λ (ys : List X) (last : List ℕ). Ok ((x, ys), last))) (λ (pair : X × List X) (last : List ℕ). Ok (pair.0 ∷ pair.1, last)) in
    let same : (read : Result (List X × List ℕ) Fault) → others read ≡ with_front (x ∷ []) read =
    λ read. elim read as (λ r. others r ≡ with_front (x ∷ []) r) [ Ok found ↦ refl | Err fault ↦ refl ] in
    ap (λ (r : Result (X × List ℕ) Fault). then_read (then_read r (λ y last. then_read (many_at at count last) (λ (ys : List X) (end : List ℕ). Ok ((y, ys), end)))) (λ (pair : X × List X) (last : List ℕ). Ok (pair.0 ∷ pair.1, last))) first
    ∙ same (many_at at count rest)

many_wrong : {X : Type 0} (at : At X) (count : ℕ) (bytes : List ℕ) (fault : Fault) → at bytes ≡ Err fault → many_at at (suc count) bytes ≡ Err fault
many_wrong {X} at count bytes fault first =
    ap (λ (r : Result (X × List ℕ) Fault). then_read (then_read r (λ y last. then_read (many_at at count last) (λ (ys : List X) (end : List ℕ). Ok ((y, ys), end)))) (λ (pair : X × List X) (last : List ℕ). Ok (pair.0 ∷ pair.1, last))) first

-- one more was read
pub read_more : {X : Type 0} (at : At X) (items now : List X) (left count : ℕ) (bytes rest : List ℕ) (x : X) (whole : Result (List X × List ℕ) Fault) → with_front items (many_at at left bytes) ≡ whole → left ≡ suc count → at bytes ≡ Ok (x, rest) → now ≡ items ++ x ∷ [] → with_front now (many_at at count rest) ≡ whole
read_more at items now left count bytes rest x whole before one first added =
    ap (λ front. with_front front (many_at at count rest)) added
    ∙ sym (with_front-twice items (x ∷ []) (many_at at count rest))
    ∙ sym (ap (with_front items) (many_more at count x bytes rest first))
    ∙ sym (ap (λ n. with_front items (many_at at n bytes)) one)
    ∙ before

-- the next one is wrong
pub read_wrong : {X : Type 0} (at : At X) (items : List X) (left : ℕ) (bytes : List ℕ) (fault : Fault) (whole : Result (List X × List ℕ) Fault) → with_front items (many_at at left bytes) ≡ whole → 0 < left → at bytes ≡ Err fault → whole ≡ Err fault
read_wrong at items left bytes fault whole before some first =
    let one : left ≡ suc (left - 1) = omega arith in
    sym before ∙ ap (λ n. with_front items (many_at at n bytes)) one ∙ ap (with_front items) (many_wrong at (left - 1) bytes fault first)

texts-append : {X : Type 0} (text : X → List ℕ) (xs ys : List X) → texts text (xs ++ ys) ≡ texts text xs ++ texts text ys
texts-append text [] ys = refl
texts-append text (x ∷ xs) ys = ap (λ (rest : List ℕ). text x ++ rest) (texts-append text xs ys) ∙ sym (append_assoc (text x) (texts text xs) (texts text ys))

-- one more was spelled
pub spelled_more : {X : Type 0} (text : X → List ℕ) (xs : List X) (i : ℕ) (d : X) (before out now : List ℕ) → i < length xs → out ≡ before ++ texts text (take i xs) → now ≡ out ++ text (get_or xs i d) → now ≡ before ++ texts text (take (i + 1) xs)
spelled_more text xs i d before out now within so_far added =
    let last = text (get_or xs i d) in
    let more : texts text (take (i + 1) xs) ≡ texts text (take i xs) ++ last = ap (texts text) (take_more xs i d within) ∙ texts-append text (take i xs) (get_or xs i d ∷ []) ∙ ap (λ (rest : List ℕ). texts text (take i xs) ++ rest) (append-nil last) in
    added ∙ ap (λ (front : List ℕ). front ++ last) so_far ∙ append_assoc before (texts text (take i xs)) last ∙ sym (ap (λ (rest : List ℕ). before ++ rest) more)

-- a byte of a name
pub printable_at : (bytes : List ℕ) (i : ℕ) → i < length bytes → 32 ≤ get_or bytes i 0 → get_or bytes i 0 ≤ 126 → byte_at 32 126 (drop i bytes) ≡ Ok (get_or bytes i 0, drop (i + 1) bytes)
printable_at bytes i within low high =
    let byte = get_or bytes i 0 in
    ap (byte_at 32 126) (drop_more bytes i 0 within) ∙ cond-true (nat_le 32 byte && nat_le byte 126) (Ok (byte, drop (i + 1) bytes)) (wrong (drop (i + 1) bytes)) (and_from _ _ (le-leb _ _ low) (le-leb _ _ high))

pub unprintable_at : (bytes : List ℕ) (i : ℕ) → i < length bytes → (get_or bytes i 0 < 32) ⊎ (126 < get_or bytes i 0) → byte_at 32 126 (drop i bytes) ≡ Err (Bad (length bytes - i))
unprintable_at bytes i within outside =
    let byte = get_or bytes i 0 in
    let rest = drop (i + 1) bytes in
    let fails : (nat_le 32 byte && nat_le byte 126) ≡ false = elim outside [ inl low ↦ and_left _ _ (lt-leb _ _ low) | inr high ↦ and_right _ _ (lt-leb _ _ high) ] in
    let left : suc (length rest) ≡ length bytes - i = omega (arith, length-drop (i + 1) bytes) in
    ap (byte_at 32 126) (drop_more bytes i 0 within) ∙ cond-false (nat_le 32 byte && nat_le byte 126) (Ok (byte, rest)) (wrong rest) fails ∙ ap (λ n. Err (Bad n)) left

pub no_byte_at : (bytes : List ℕ) (i : ℕ) → length bytes ≤ i → byte_at 32 126 (drop i bytes) ≡ Err Short
no_byte_at bytes i past = ap (byte_at 32 126) (drop_all i bytes past)

-- a reader's loop: it ends where the next value is not read
pub gives_trouble : {X R S : Type 0} (at : At X) (viewed : R → X × List ℕ) (view : S → List X × List ℕ) (trouble : Trouble) (items : List X) (left : ℕ) (bytes : List ℕ) (whole : Result (List X × List ℕ) Fault) → with_front items (many_at at left bytes) ≡ whole → 0 < left → Gives viewed (Err trouble) (at bytes) → Gives view (Err trouble) whole
gives_trouble at viewed view Memory items left bytes whole before some first = tt
gives_trouble at viewed view (Faulty fault) items left bytes whole before some first = read_wrong at items left bytes fault whole before some first
