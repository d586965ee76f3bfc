use Rattle.service_laws.proofs.TellingLaws.{fed-told}
use Rattle.service_laws.proofs.law.law_of_feeding.Goals as goal

pub returns : goal.returns
returns c = fed-told
