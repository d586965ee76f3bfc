use Rattle.std.proofs.Common.{◌≤◌, length, take}
use Rattle.std.specs.Prelude.{vec_len}
use Rattle.std.specs.Vec.{vec_capacity}
use Rattle.ntf_service.specs.Offering.{AreOffers}
use Rattle.ntf_service.specs.Told.{all_told}
use Rattle.ntf_service.proofs.offering.offers_for.Given as goal

abbrev pub invariant-loop-index : goal.invariant-loop-index
invariant-loop-index l =
    AreOffers l.notification (take l.index l.places) (all_told l.subs) l.offers.items × (vec_len l.offers ≤ l.index) × (length l.places ≤ vec_capacity l.offers)
