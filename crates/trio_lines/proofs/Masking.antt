-- The text in which `#` stands in the place of own lines.
use Rattle.std.proofs.Common.{◌≡◌, ℕ, suc, ◌+◌, ◌≤◌, Bool, true, false, cond, ◌==◌, List, [], ◌∷◌, ◌++◌, length, Some, refl, sym, ap, subst, ◌∙◌, arith, append_assoc, length-append, le_refl}
use Rattle.std.specs.Prelude.{codes, is_some}
use Rattle.std.specs.List.{AllZip, list_all}
use Rattle.std.proofs.lemmas.Bool.{and_parts}
use Rattle.std.proofs.lemmas.Option.{none-some}
use Rattle.script_language.specs.Scripts.{raw_lines, with_first}
use Rattle.script_language.proofs.Again.{raw_lines-line}
use Rattle.script_grammar.proofs.Rules.{one_line}
use Rattle.trio_lines.specs.declared.line.TrioLine.{TrioLine}
use Rattle.trio_lines.specs.Scripts.{Masks, AreMasked}
use Rattle.trio_lines.specs.Scripts.Masks.{own, other}
use Rattle.trio_lines.specs.LineReading.{own_line_at}
use Rattle.trio_lines.specs.Weaving.{PutsMasked}
use Rattle.trio_lines.proofs.OwnRules.{own_rule}
use Rattle.trio_lines.proofs.Apart.{unread-no_own, none_of}
use Rattle.ais_values.proofs.Basics.{some_of}

first-clean : (byte : ℕ) (raws : List (List ℕ)) → (byte == 10) ≡ false → list_all one_line raws ≡ true → list_all one_line (with_first byte raws) ≡ true
first-clean byte [] off h = rw off refl
first-clean byte (raw ∷ raws) off h = rw off h

-- a line has no LF
raws-clean : (bytes : List ℕ) → list_all one_line (raw_lines bytes) ≡ true
raws-clean [] = refl
raws-clean (byte ∷ bytes) =
    let at : (t : Bool) → (byte == 10) ≡ t → list_all one_line (cond t ([] ∷ raw_lines bytes) (with_first byte (raw_lines bytes))) ≡ true = elim [
      | true ↦ λ on. raws-clean bytes
      | false ↦ λ off. first-clean byte (raw_lines bytes) off (raws-clean bytes)
    ] in
    at (byte == 10) refl

line-clean : (bytes raw : List ℕ) (raws : List (List ℕ)) → raw_lines bytes ≡ raw ∷ raws → one_line raw ≡ true
line-clean bytes raw raws is =
    let all : list_all one_line (raw ∷ raws) ≡ true = subst (λ these. list_all one_line these ≡ true) is (raws-clean bytes) in
    (and_parts (one_line raw) (list_all one_line raws) all).0

masks-clean : {raw masked : List ℕ} → Masks raw masked → one_line raw ≡ true → one_line masked ≡ true
masks-clean (own line text) h = refl
masks-clean (other none) h = h

-- one line more
pub masked-more : (all rest after : List ℕ) (raw before out : List ℕ) → raw_lines rest ≡ raw ∷ raw_lines after → PutsMasked raw before out
    → ((tail : List ℕ) → AllZip Masks (raw_lines rest) (raw_lines tail) → AreMasked all (before ++ tail))
    → (tail : List ℕ) → AllZip Masks (raw_lines after) (raw_lines tail) → AreMasked all (out ++ tail)
masked-more all rest after raw before out is puts so_far tail masks =
    let clean = masks-clean puts.masks (line-clean rest raw (raw_lines after) is) in
    let here : AllZip Masks (raw_lines rest) (raw_lines (puts.masked ++ 10 ∷ tail)) =
    subst (λ these. AllZip Masks these (raw_lines (puts.masked ++ 10 ∷ tail))) (sym is)
    (subst (λ these. AllZip Masks (raw ∷ raw_lines after) these) (sym (raw_lines-line puts.masked tail clean)) (puts.masks, masks)) in
    let same : out ++ tail ≡ before ++ (puts.masked ++ 10 ∷ tail) =
    ap (λ x. x ++ tail) puts.is ∙ append_assoc before (puts.masked ++ 10 ∷ []) tail ∙ ap (λ x. before ++ x) (append_assoc puts.masked (10 ∷ []) tail) in
    subst (AreMasked all) (sym same) (so_far (puts.masked ++ 10 ∷ tail) here)

-- the room that lines take, each with an LF
abbrev pub room_of : List (List ℕ) → ℕ
room_of [] = 0
room_of (raw ∷ raws) = (length raw + 1) + room_of raws

first-room : (byte limit : ℕ) (raws : List (List ℕ)) → room_of raws ≤ limit + 1 → room_of (with_first byte raws) ≤ suc limit + 1
first-room byte limit [] h = omega arith
first-room byte limit (raw ∷ raws) h = omega arith

pub raws-room : (bytes : List ℕ) → room_of (raw_lines bytes) ≤ length bytes + 1
raws-room [] = omega arith
raws-room (byte ∷ bytes) =
    let at : (t : Bool) → room_of (cond t ([] ∷ raw_lines bytes) (with_first byte (raw_lines bytes))) ≤ suc (length bytes) + 1 = elim [
      | true ↦ omega (arith, raws-room bytes)
      | false ↦ first-room byte (length bytes) (raw_lines bytes) (raws-room bytes)
    ] in
    at (byte == 10)

pub room-more : (rest after raw before out : List ℕ) (limit : ℕ) → raw_lines rest ≡ raw ∷ raw_lines after → PutsMasked raw before out
    → length before + room_of (raw_lines rest) ≤ limit → length out + room_of (raw_lines after) ≤ limit
room-more rest after raw before out limit is puts h =
    let fewer = ap room_of is in
    let long = ap length puts.is in
    let parts = length-append before (puts.masked ++ 10 ∷ []) in
    let more = length-append puts.masked (10 ∷ []) in
    omega (arith, puts.short)

-- an own line has bytes
own-long : (raw : List ℕ) (line : TrioLine) → own_line_at raw ≡ Some line → 1 ≤ length raw
unfolding own_line_at
own-long [] line found = absurd (none-some line found)
own-long (b ∷ raw) line found = omega arith

-- what stands for a line
pub puts-own : (raw before after : List ℕ) → is_some (own_line_at raw) ≡ true → after ≡ before ++ codes "#\n" → PutsMasked raw before after
puts-own raw before after found is =
    let line = some_of (own_line_at raw) found in
    record { masked = codes "#"; masks = own line.0 (own_rule.sound raw line.0 line.1); short = own-long raw line.0 line.1; is = is }

pub puts-other : (raw before between after : List ℕ) → is_some (own_line_at raw) ≡ false → between ≡ before ++ raw → after ≡ between ++ codes "\n" → PutsMasked raw before after
puts-other raw before between after none one is =
    record {
      masked = raw;
      masks = other (unread-no_own raw (none_of (own_line_at raw) none));
      short = le_refl (length raw);
      is = is ∙ ap (λ x. x ++ codes "\n") one ∙ append_assoc before raw (codes "\n");
    }
