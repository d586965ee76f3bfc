use Rattle.ntf_types.proofs.Equality.{value_eq-decides, notification_eq-decides}
use Rattle.ntf_types.proofs.law.law_of_equality.Goals as goal

pub returns-clause-values : goal.returns-clause-values
returns-clause-values c = value_eq-decides

pub returns-clause-notifications : goal.returns-clause-notifications
returns-clause-notifications c = notification_eq-decides
