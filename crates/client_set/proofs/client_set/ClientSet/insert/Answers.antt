use Rattle.client_set.proofs.Places.{IsRising-inserted}
use Rattle.client_set.proofs.client_set.ClientSet.insert.Goals as goal

pub invariant_of-self : goal.invariant_of-self
invariant_of-self c =
    IsRising-inserted _ _ _ c.args.client c.in-Err.place _ c.self.invariant c.as_slice.ensures.value c.in-Err.ensures c.insert.ensures.items
