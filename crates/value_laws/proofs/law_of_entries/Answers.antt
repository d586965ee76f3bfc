use Rattle.value_laws.proofs.Applying.{can-apply}
use Rattle.value_laws.proofs.Values.{value-follows, deeds-follow}
use Rattle.value_laws.proofs.law_of_entries.Goals as goal

pub returns-clause-applies : goal.returns-clause-applies
returns-clause-applies c = can-apply

pub returns-clause-value : goal.returns-clause-value
returns-clause-value c = value-follows

pub returns-clause-deeds : goal.returns-clause-deeds
returns-clause-deeds c = deeds-follow
