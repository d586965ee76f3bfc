use Rattle.wire_code.proofs.NumberCodes.{number_text-big_number}
use Rattle.wire_code.proofs.law.law_of_numbers.Goals as goal

pub returns : goal.returns
returns c = number_text-big_number
