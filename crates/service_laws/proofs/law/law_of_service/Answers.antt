use Rattle.service_laws.proofs.HistoryLaws.{history-of}
use Rattle.service_laws.proofs.ServiceLaws.{is_plain}
use Rattle.service_laws.proofs.law.law_of_service.Goals as goal

pub returns : goal.returns
returns c = record { plain = is_plain; history = history-of }
