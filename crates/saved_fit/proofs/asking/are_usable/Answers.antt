use Rattle.std.proofs.Common.{subst}
use Rattle.std.specs.Prelude.{◌↔◌, IsTrue}
use Rattle.ntf_filters.specs.declared.filter.FilterSet.{FilterSet}
use Rattle.ntf_filters.specs.Fit.{IsFit}
use Rattle.saved_fit.proofs.asking.are_usable.Goals as goal

pub returns : goal.returns
returns c = subst (λ (filters : FilterSet). IsTrue c.is_usable.result ↔ IsFit filters) c.get.ensures c.is_usable.ensures.fit
