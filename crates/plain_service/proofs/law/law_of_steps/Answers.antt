use Rattle.plain_service.proofs.FirstRecords.{first-later}
use Rattle.plain_service.proofs.StepLaws.{log-step, ntf-step, receipt-step}
use Rattle.plain_service.proofs.law.law_of_steps.Goals as goal

pub returns : goal.returns
returns c = record { log = log-step; ntf = ntf-step; receipt = receipt-step; first = first-later }
