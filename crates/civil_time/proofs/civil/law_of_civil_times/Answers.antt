use Rattle.civil_time.proofs.Counting.{civil_in_range}
use Rattle.civil_time.proofs.civil.law_of_civil_times.Goals as goal

pub returns-clause-ranges : goal.returns-clause-ranges
returns-clause-ranges c = civil_in_range
