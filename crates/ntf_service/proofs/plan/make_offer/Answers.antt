use Rattle.std.proofs.Common.{◌≡◌, ◌+◌, get_or, set, ap, sym, subst, ◌∙◌, arith}
use Rattle.std.proofs.Math.ListN.{get_or-map}
use Rattle.std.proofs.lemmas.List.{map-set, drop-set-lt}
use Rattle.client_set.proofs.ChangedPlace.{set-change_at}
use Rattle.ntf_history.specs.Kept.{Subscription}
use Rattle.ntf_history.specs.Tables.{requeued}
use Rattle.ntf_service.specs.declared.plan.Offer.{Offer}
use Rattle.ntf_service.specs.Planning.{sub_with_share, CanGive}
use Rattle.ntf_service.specs.Told.{told, all_told, HasRoom}
use Rattle.ntf_service.proofs.Changed.{holds-within, read-holds}
use Rattle.ntf_service.proofs.Lacking.{stay-set}
use Rattle.ntf_service.proofs.plan.make_offer.Goals as goal
use Rattle.ntf_service.proofs.plan.make_offer.Goals.{After-index_mut-kept}

-- the subscription of an offer can be given it
abbrev Takes : Offer → Subscription → Type 0
Takes offer kept = CanGive offer kept.queue

pub index_mut-kept-requires : goal.index_mut-kept-requires
index_mut-kept-requires c =
    let within = holds-within HasRoom c.args.subs.now.items c.args.offer.place c.requires.room in
    omega (arith, within, c.args.subs.now.ok.0)

-- the one that is read, as it is told
there : (c : After-index_mut-kept) → told c.index_mut-kept.result.now ≡ get_or (all_told c.args.subs.now.items) c.args.offer.place (told c.index_mut-kept.result.now)
there c =
    ap told c.index_mut-kept.ensures.value ∙ sym (get_or-map told c.args.subs.now.items c.args.offer.place c.index_mut-kept.result.now)

-- it can be given the offer
takes : (c : After-index_mut-kept) → Takes c.args.offer (told c.index_mut-kept.result.now)
takes c =
    subst (Takes c.args.offer) (sym (there c)) (read-holds (Takes c.args.offer) (all_told c.args.subs.now.items) c.args.offer.place (told c.index_mut-kept.result.now) c.requires.can)

pub give-requires-clause-numbers : goal.give-requires-clause-numbers
give-requires-clause-numbers c = (takes (goal.at.give-requires-clause-numbers c).After-index_mut-kept).numbers

pub give-requires-clause-room : goal.give-requires-clause-room
give-requires-clause-room c =
    subst HasRoom (sym c.index_mut-kept.ensures.value) (read-holds HasRoom c.args.subs.now.items c.args.offer.place c.index_mut-kept.result.now c.requires.room)

pub give-requires-clause-suits : goal.give-requires-clause-suits
give-requires-clause-suits c = (takes (goal.at.give-requires-clause-suits c).After-index_mut-kept).suits

pub returns-clause-told : goal.returns-clause-told
returns-clause-told c =
    let at = (goal.at.returns-clause-told c).After-index_mut-kept in
    let items = all_told c.args.subs.now.items in
    let place = c.args.offer.place in
    let kept = told c.index_mut-kept.result.now in
    let within = holds-within (Takes c.args.offer) items place c.requires.can in
    map-set told c.args.subs.now.items place _ ∙ ap (λ queue. set items place (requeued kept queue)) c.give.ensures ∙ set-change_at (sub_with_share c.args.offer.share) items place kept (there at) within

pub returns-clause-beside : goal.returns-clause-beside
returns-clause-beside c = stay-set c.args.subs.now.items c.args.offer.place _

pub returns-clause-behind : goal.returns-clause-behind
returns-clause-behind c =
    let place = c.args.offer.place in
    drop-set-lt (place + 1) c.args.subs.now.items place _ (omega arith)
