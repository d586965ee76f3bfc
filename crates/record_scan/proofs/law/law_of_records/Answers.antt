use Rattle.std.proofs.Common.{sym, subst, ◌∙◌, arith, append-nil}
use Rattle.std.specs.List.{concat}
use Rattle.record_print.specs.Printing.{printed_record}
use Rattle.record_print.proofs.LineLaws.{length-printed_record}
use Rattle.record_scan.specs.Numbers.{IsLine}
use Rattle.record_scan.proofs.ClearLaws.{printed-line}
use Rattle.record_scan.proofs.NumberLaws.{records_only}
use Rattle.record_scan.proofs.law.law_of_records.Goals as goal

pub returns-clause-records : goal.returns-clause-records
returns-clause-records c = λ size bytes rest left one other is is'. (records_only size one other rest left (sym is.whole ∙ is'.whole) is.each is'.each is.over is'.over).0

pub returns-clause-rest : goal.returns-clause-rest
returns-clause-rest c = λ size bytes rest left one other is is'. (records_only size one other rest left (sym is.whole ∙ is'.whole) is.each is'.each is.over is'.over).1

pub returns-clause-whole : goal.returns-clause-whole
returns-clause-whole c = λ size records each. record {
  whole = sym (append-nil (concat records));
  each = each;
  over = record { short = λ some. some; unended = λ lines k inside. absurd (omega (arith, inside)) };
}

pub returns-clause-printed : goal.returns-clause-printed
returns-clause-printed c = λ kind pieces size number rec are low. record {
  sized = λ some. length-printed_record pieces number rec size some;
  line = λ free. subst (λ s. IsLine (printed_record pieces number rec s)) (sym free) (printed-line kind pieces number rec are (omega (arith, low)));
}
