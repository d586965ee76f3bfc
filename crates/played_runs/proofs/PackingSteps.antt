-- Lines that are handed on many at once.
use Rattle.std.proofs.Common.{◌≡◌, ℕ, ◌<◌, ◌+◌, suc, List, [], ◌∷◌, ◌++◌, length, take, drop, get_or, Option, Result, Ok, Err, sym, ap, ◌∙◌, subst, append-nil, append_assoc, add-one, drop-cons}
use Rattle.std.specs.Prelude.{OnOk, OnErr}
use Rattle.std.specs.Io.KnownBytes.{Appends}
use Rattle.std.proofs.KnownBytes.{Appends-nil, Appends-trans}
use Rattle.std.proofs.lemmas.Grind.{flat_map-append}
use lib.Seq.{take-add}
use Rattle.io_edge.specs.Writes.{AppendsFront, WritesAll}
use Rattle.io_edge.proofs.Fronts.{front-more, front-behind, writes-behind}
use Rattle.played_runs.specs.Packing.{Waits}
use Rattle.played_runs.specs.Writing.{joined_lines}
use Rattle.played_runs.proofs.WritingSteps.{lines-at}

-- nothing was written, and all of it waits
pub waits-all : (old : Option (List ℕ)) (text left : List ℕ) → left ≡ text → Waits old old text left
waits-all old text left is = record { front = []; appended = Appends-nil old; whole = sym is }

-- all of one text was written, and then a front of the next, of which the rest waits
pub waits-behind : {E : Type 0} (result : Result Unit E) (old mid new : Option (List ℕ)) (one two left : List ℕ) → Appends old mid one → OnOk result (Waits mid new two left) → OnOk result (Waits old new (one ++ two) left)
waits-behind (Err answer) old mid new one two left first waits = tt
waits-behind (Ok done) old mid new one two left first waits = record {
  front = one ++ waits.front;
  appended = Appends-trans old mid new one waits.front first waits.appended;
  whole = ap (λ (rest : List ℕ). one ++ rest) waits.whole ∙ sym (append_assoc one waits.front left);
}

pub breaks-behind : {E : Type 0} (result : Result Unit E) (old mid new : Option (List ℕ)) (one two : List ℕ) → Appends old mid one → OnErr result (AppendsFront mid new two) → OnErr result (AppendsFront old new (one ++ two))
breaks-behind (Ok done) old mid new one two first broke = tt
breaks-behind (Err answer) old mid new one two first broke = front-behind old mid new one two first broke

-- what waits is followed by more
pub waits-more : (old mid new : Option (List ℕ)) (text held more left : List ℕ) → Waits old mid text held → Waits mid new (held ++ more) left → Waits old new (text ++ more) left
waits-more old mid new text held more left first next = record {
  front = first.front ++ next.front;
  appended = Appends-trans old mid new first.front next.front first.appended next.appended;
  whole = ap (λ (t : List ℕ). t ++ more) first.whole ∙ append_assoc first.front held more ∙ ap (λ (t : List ℕ). first.front ++ t) next.whole ∙ sym (append_assoc first.front next.front left);
}

-- lines up to a place, and the line there
next-line : (lines : List (List ℕ)) (place : ℕ) (line : List ℕ) → place < length lines → line ≡ get_or lines place line → drop place lines ≡ line ∷ drop (place + 1) lines
next-line lines place line inside is =
    rw add-one (drop-cons lines place line inside ∙ ap (λ (one : List ℕ). one ∷ drop (suc place) lines) (sym is))

pub lines-next : (lines : List (List ℕ)) (place : ℕ) (line : List ℕ) → place < length lines → line ≡ get_or lines place line → joined_lines (take (place + 1) lines) ≡ joined_lines (take place lines) ++ line
lines-next lines place line inside is =
    let front = take place lines in
    ap joined_lines (take-add place 1 lines ∙ ap (λ (behind : List (List ℕ)). front ++ take 1 behind) (next-line lines place line inside is))
    ∙ flat_map-append (λ (one : List ℕ). one) front (line ∷ [])
    ∙ ap (λ (rest : List ℕ). joined_lines front ++ rest) (append-nil line)

-- the sink did not take all of what waited and the next line
pub lines-break : (old mid new : Option (List ℕ)) (lines : List (List ℕ)) (place : ℕ) (line held : List ℕ) → place < length lines → line ≡ get_or lines place line → Waits old mid (joined_lines (take place lines)) held → AppendsFront mid new (held ++ line) → AppendsFront old new (joined_lines lines)
lines-break old mid new lines place line held inside is waits broke =
    let F : List ℕ → Type 0 = λ text. AppendsFront old new text in
    let whole : joined_lines (take place lines) ++ line ≡ waits.front ++ (held ++ line) = ap (λ (t : List ℕ). t ++ line) waits.whole ∙ append_assoc waits.front held line in
    let front = subst F (sym whole) (front-behind old mid new waits.front (held ++ line) waits.appended broke) in
    subst F (sym (lines-at lines place line inside is)) (front-more old new (joined_lines (take place lines) ++ line) (joined_lines (drop (place + 1) lines)) front)

-- what waited was written
pub lines-end : {E : Type 0} (result : Result Unit E) (old mid new : Option (List ℕ)) (text held : List ℕ) → Waits old mid text held → WritesAll mid new held result → WritesAll old new text result
lines-end result old mid new text held waits writes =
    let W : List ℕ → Type 0 = λ bytes. WritesAll old new bytes result in
    subst W (sym waits.whole) (writes-behind old mid new waits.front held result waits.appended writes)
