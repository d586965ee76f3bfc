use Rattle.std.proofs.Common.{subst}
use Rattle.std.specs.Prelude.{◌↔◌, IsTrue}
use Rattle.calls.specs.declared.saved.Saved.{Saved}
use Rattle.plain_service.specs.Fitness.{IsFit}
use Rattle.mirror.proofs.pairing.can_join.Goals as goal

pub returns : goal.returns
returns c = subst (λ (saved : Saved). IsTrue c.is_fit.result ↔ IsFit saved) c.get.ensures c.is_fit.ensures
