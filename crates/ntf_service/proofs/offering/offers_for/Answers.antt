use Rattle.std.proofs.Common.{◌≡◌, ◌+◌, ◌<◌, suc, length, get_or, refl, ap, sym, subst, ◌∙◌, arith}
use Rattle.std.proofs.Math.ListN.{get_or-map}
use Rattle.std.proofs.lemmas.List.{length-map}
use Rattle.ntf_filters.specs.Matching.{matches}
use Rattle.ntf_service.specs.Planning.{RiseBetween}
use Rattle.ntf_service.specs.Told.{told, all_told}
use Rattle.ntf_service.proofs.Changed.{rise-below}
use Rattle.ntf_service.proofs.Offers.{next-offers}
use Rattle.ntf_service.proofs.offering.offers_for.Goals as goal

pub bounds-subs-place : goal.bounds-subs-place
bounds-subs-place c =
    let inside : c.loop-index.index < length c.args.places.now = omega (arith, c.loop-index-test.true) in
    rise-below (length c.args.subs.now) c.args.places.now c.loop-index.index _ c.from-place.result c.from-place.ensures c.requires.places inside

pub loop-index-preserved : goal.loop-index-preserved
loop-index-preserved c =
    let index = c.loop-index.index in
    let kept = c.index-subs-place.result in
    let subs = c.args.subs.now in
    let place = c.from-place.result in
    let next : index + 1 ≡ suc index = omega arith in
    let inside : index < length c.args.places.now = omega (arith, c.loop-index-test.true) in
    let added = c.in_ok-add_offer.ensures in
    let there : told kept ≡ get_or (all_told subs) place (told kept) = ap told c.index-subs-place.is ∙ sym (get_or-map told subs place kept) in
    let rise = subst (λ n. RiseBetween 0 n c.args.places.now) (sym (length-map subs told)) c.requires.places in
    let offers = next-offers c.args.notification.now (all_told subs) c.args.places.now c.loop-index.offers.items c.add_offer.new.offers.items index place (index + 1) _ (told kept) next c.from-place.ensures there inside rise c.requires.numbers c.loop-index.invariant.0 (matches kept.filters c.args.notification.now) refl added.joins in
    (offers, omega (arith, added.count, c.loop-index.invariant.1), omega (arith, added.capacity, c.loop-index.invariant.2))
