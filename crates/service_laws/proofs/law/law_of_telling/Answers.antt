use Rattle.service_laws.proofs.TellingLaws.{first-told}
use Rattle.service_laws.proofs.law.law_of_telling.Goals as goal

pub returns : goal.returns
returns c = first-told
