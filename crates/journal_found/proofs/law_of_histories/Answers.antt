use Rattle.journal_found.proofs.Histories.{staged-history, whole-history}
use Rattle.journal_found.proofs.law_of_histories.Goals as goal

pub returns-clause-whole : goal.returns-clause-whole
returns-clause-whole c = whole-history

pub returns-clause-staged : goal.returns-clause-staged
returns-clause-staged c = staged-history
