use Rattle.plain_service.proofs.HistoryEvents.{entry-events-fit}
use Rattle.plain_service.proofs.law.law_of_events.Goals as goal

pub returns : goal.returns
returns c = entry-events-fit
