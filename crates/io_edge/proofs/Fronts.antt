-- Fronts of a text that a sink did not take whole.
use Rattle.std.proofs.Common.{ℕ, ◌+◌, ◌<◌, ◌≤◌, List, ◌++◌, length, take, Option, Result, Ok, Err, sym, subst, arith}
use Rattle.std.specs.Io.KnownBytes.{Appends}
use Rattle.std.proofs.KnownBytes.{Appends-trans}
use Rattle.std.proofs.lemmas.List.{take-append-le, length-append}
use Rattle.std.proofs.Math.Seq.{take-append-add}
use Rattle.io_edge.specs.Writes.{AppendsFront, WritesAll}

-- a front of a text is one of a longer text
pub front-more : (old new : Option (List ℕ)) (one two : List ℕ) → AppendsFront old new one → AppendsFront old new (one ++ two)
front-more old new one two front =
    let bound : front.count < length one = front.bound in
    let low : front.count ≤ length one = omega arith in
    record {
      count = front.count;
      bound = omega (arith, length-append one two);
      appended = subst (Appends old new) (sym (take-append-le front.count one two low)) front.appended;
    }

-- all of one text and a front of the next
pub front-behind : (old mid new : Option (List ℕ)) (one two : List ℕ) → Appends old mid one → AppendsFront mid new two → AppendsFront old new (one ++ two)
front-behind old mid new one two first front =
    let bound : front.count < length two = front.bound in
    record {
      count = length one + front.count;
      bound = omega (arith, length-append one two);
      appended = subst (Appends old new) (sym (take-append-add one two front.count)) (Appends-trans old mid new one (take front.count two) first front.appended);
    }

-- all of one text, and then what a write of the next hands on
pub writes-behind : {E : Type 0} (old mid new : Option (List ℕ)) (one two : List ℕ) (result : Result Unit E) → Appends old mid one → WritesAll mid new two result → WritesAll old new (one ++ two) result
writes-behind old mid new one two (Ok done) first whole = Appends-trans old mid new one two first whole
writes-behind old mid new one two (Err answer) first front = front-behind old mid new one two first front
