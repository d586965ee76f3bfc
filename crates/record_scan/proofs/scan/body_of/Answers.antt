use Rattle.std.proofs.Common.{◌∷◌, [], Some, arith}
use Rattle.std.proofs.lemmas.Bool.Decides.{Decides-eqb}
use Rattle.std.proofs.lemmas.Slice.Eq.{strip_suffix_is}
use Rattle.record_scan.proofs.scan.body_of.Goals as goal
use Rattle.record_scan.proofs.scan.body_of.Goals.{else-size-gt0-via-then-size-gt0+else-bytes-size, else-size-gt0-via-else-size-gt0}

pub returns-in-Some : goal.returns-in-Some
returns-in-Some c = record {
  whole = strip_suffix_is Decides-eqb c.args.bytes.now (10 ∷ []) (Some c.in-Some.body) c.in-Some.ensures.cases;
  sized = λ some. elim c.else-size-gt0.branch [
    | else-size-gt0-via-then-size-gt0+else-bytes-size w ↦ omega arith
    | else-size-gt0-via-else-size-gt0 w ↦ absurd (omega arith)
  ];
}
