use Rattle.service_fit.proofs.HistoryFit.{history-fit}
use Rattle.service_fit.proofs.law.law_of_values.Goals as goal

pub returns : goal.returns
returns c = history-fit
