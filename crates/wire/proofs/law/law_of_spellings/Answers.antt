use Rattle.wire.proofs.Verdicts.{one_spelling}
use Rattle.wire.proofs.law.law_of_spellings.Goals as goal

pub returns : goal.returns
returns c = one_spelling
