use Rattle.client_set.proofs.Places.{IsRising-removed}
use Rattle.client_set.proofs.client_set.ClientSet.remove.Goals as goal

pub invariant_of-self : goal.invariant_of-self
invariant_of-self c =
    IsRising-removed _ _ _ c.args.client c.in-Ok.place c.self.invariant c.as_slice.ensures.value c.in-Ok.ensures c.remove.ensures.items
