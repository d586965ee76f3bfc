use Rattle.ntf_filters.proofs.Equality.{filter_set_eq-decides}
use Rattle.ntf_filters.proofs.law.law_of_equality.Goals as goal

pub returns : goal.returns
returns c = filter_set_eq-decides
