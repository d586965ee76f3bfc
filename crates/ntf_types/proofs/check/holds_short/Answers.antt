use Rattle.std.proofs.Common.{subst}
use Rattle.std.specs.Prelude.{◌↔◌, IsTrue}
use Rattle.ntf_types.specs.declared.value.Value.{Value}
use Rattle.ntf_types.specs.Sound.{IsShortValue}
use Rattle.ntf_types.proofs.check.holds_short.Goals as goal

pub returns : goal.returns
returns c = subst (λ (value : Value). IsTrue c.is_short.result ↔ IsShortValue value) c.get.ensures c.is_short.ensures
