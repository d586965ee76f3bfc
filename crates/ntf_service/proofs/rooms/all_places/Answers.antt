use Rattle.std.proofs.Common.{[], ◌∷◌, length, ap, arith}
use Rattle.std.proofs.lemmas.List.{length-append}
use Rattle.ntf_service.proofs.Lacking.{rooms-all, stands-next}
use Rattle.ntf_service.proofs.rooms.all_places.Goals as goal

pub loop-place-preserved : goal.loop-place-preserved
loop-place-preserved c =
    let place = c.loop-place.place in
    let places = c.loop-place.places.items in
    let now = c.loop-place.invariant in
    let pushed = c.push_place.ensures in
    (omega (arith, ap length pushed, length-append places (place ∷ []), now.0), stands-next places c.push_place.new.places.items place pushed now.1)

pub returns : goal.returns
returns c =
    rooms-all c.args.subs.now c.loop-place.places.items (λ place within. c.loop-place.invariant.1 place (omega (arith, within, c.loop-place-test.false)))
