use Rattle.record_print.proofs.Equality.{header_eq-decides, record_eq-decides}
use Rattle.record_print.proofs.law.law_of_equality.Goals as goal

pub returns-clause-headers : goal.returns-clause-headers
returns-clause-headers c = header_eq-decides

pub returns-clause-records : goal.returns-clause-records
returns-clause-records c = record_eq-decides
