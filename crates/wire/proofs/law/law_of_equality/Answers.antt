use Rattle.wire.proofs.Equality.{message_eq-decides}
use Rattle.wire.proofs.law.law_of_equality.Goals as goal

pub returns : goal.returns
returns c = message_eq-decides
