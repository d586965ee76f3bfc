-- What is printed of records, one after another.
use Rattle.std.proofs.Common.{ℕ, ◌+◌, List, [], ◌++◌, drop, take, refl}
use Rattle.std.proofs.lemmas.List.Elements.{All-nil}
use Rattle.format_expr.specs.declared.piece.Piece.{Piece}
use Rattle.record_scan.specs.Numbers.{IsRecord, IsRest}
use Rattle.record_scan.proofs.NumberLaws.{IsPassed, one_more, all_passed, made_so_far}
use Rattle.scan_lines.specs.declared.shown.Shown.{Shown}
use Rattle.scan_lines.specs.Lines.{rest_line}
use Rattle.scan_lines.specs.Telling.{IsTold, AreTold, TellsAll, TellsFront}

-- before the first record
pub none_told : (shown : Shown) (pieces : List Piece) (size : ℕ) (wanted bytes : List ℕ) → IsPassed (AreTold (IsTold shown pieces size wanted)) size bytes bytes [] 0
none_told shown pieces size wanted bytes = record { records = []; whole = refl; each = All-nil (IsRecord size); others = λ more later are. are }

-- a record behind those before it
pub one_told : (shown : Shown) (pieces : List Piece) (size : ℕ) (wanted bytes rest text line : List ℕ) (number long : ℕ) → IsPassed (AreTold (IsTold shown pieces size wanted)) size bytes rest text number → IsRecord size (take long rest) → IsTold shown pieces size wanted (number + 1) (take long rest) line → IsPassed (AreTold (IsTold shown pieces size wanted)) size bytes (drop long rest) (text ++ line) (number + 1)
one_told shown pieces size wanted bytes rest text line number long so is told =
    one_more (AreTold (IsTold shown pieces size wanted)) size bytes rest text line number long so is (λ more later are. (line, later, told, refl, are))

-- the records so far, and all of them where no more begins
pub front_told : (shown : Shown) (pieces : List Piece) (size : ℕ) (wanted bytes rest text : List ℕ) (number : ℕ) → IsPassed (AreTold (IsTold shown pieces size wanted)) size bytes rest text number → TellsFront shown pieces size wanted bytes text
front_told shown pieces size wanted bytes rest text number so = record {
  records = so.records;
  left = rest;
  parts = so.whole;
  each = so.each;
  told = made_so_far (AreTold (IsTold shown pieces size wanted)) size bytes rest text number so refl;
}

pub all_told : (shown : Shown) (pieces : List Piece) (size : ℕ) (wanted bytes rest text : List ℕ) (number : ℕ) → IsPassed (AreTold (IsTold shown pieces size wanted)) size bytes rest text number → IsRest size rest → TellsAll shown pieces size wanted bytes (text ++ rest_line shown rest)
all_told shown pieces size wanted bytes rest text number so over =
    let all = all_passed (AreTold (IsTold shown pieces size wanted)) size bytes rest text number so refl over in
    record { records = so.records; rest = rest; parts = all.0; lines = text; told = all.1; printed = refl }
