use Rattle.std.proofs.Common.{◌≡◌, ◌<◌, not, length, get_or, ap, sym, subst, ◌∙◌, arith}
use Rattle.std.proofs.Math.ListN.{get_or-map}
use Rattle.std.proofs.lemmas.List.{length-map, map-set}
use Rattle.ntf_history.specs.Kept.{Subscription}
use Rattle.ntf_history.specs.Tables.{is_kept_at}
use Rattle.ntf_service.specs.Told.{told, all_told}
use Rattle.ntf_service.specs.Rooms.{HaveRoomsBut, RoomsStayBut}
use Rattle.ntf_service.proofs.Lacking.{stay-set}
use Rattle.ntf_service.proofs.Places.{place_in}
use Rattle.ntf_service.proofs.Received.{place-new, place-number, place-received, none-received}
use Rattle.ntf_service.proofs.Telling.{prefix-read}
use Rattle.ntf_service.proofs.editing.receive.Goals as goal
use Rattle.ntf_service.proofs.editing.receive.Goals.{After-place_at-place, After-index_mut-kept}

-- the place among what is told
placed : (c : After-place_at-place) → c.place_at-place.result ≡ place_in c.args.client c.args.key (all_told c.args.subs.now.items)
placed c =
    c.place_at-place.ensures ∙ prefix-read told (λ (x : Subscription). not (is_kept_at c.args.client c.args.key x)) c.as_slice.result.now ∙ ap (λ l. place_in c.args.client c.args.key (all_told l)) c.as_slice.ensures.value

within : (c : After-index_mut-kept) → c.place_at-place.result < length (all_told c.args.subs.now.items)
within c =
    let places = c.args.subs.now.ok.0 in
    omega (arith, places, length-map c.args.subs.now.items told, c.len.ensures, c.if-place-len.true)

-- what is told of the one that stands there
there : (c : After-index_mut-kept) → told c.index_mut-kept.result.now ≡ get_or (all_told c.args.subs.now.items) c.place_at-place.result (told c.index_mut-kept.result.now)
there c =
    let kept = c.index_mut-kept.result.now in
    ap told c.index_mut-kept.ensures.value ∙ sym (get_or-map told c.args.subs.now.items c.place_at-place.result kept)

pub acked-requires-clause-new : goal.acked-requires-clause-new
acked-requires-clause-new c =
    let all = goal.at.acked-requires-clause-new c in
    let at = all.After-index_mut-kept in
    place-new c.args.client c.args.key c.args.through (all_told c.args.subs.now.items) (told c.index_mut-kept.result.now) c.place_at-place.result (placed all.After-place_at-place) (within at) (there at) c.requires.new

pub acked-requires-clause-numbers : goal.acked-requires-clause-numbers
acked-requires-clause-numbers c =
    let all = goal.at.acked-requires-clause-numbers c in
    let at = all.After-index_mut-kept in
    place-number c.args.client c.args.key c.args.through (all_told c.args.subs.now.items) (told c.index_mut-kept.result.now) c.place_at-place.result (placed all.After-place_at-place) (within at) (there at) c.requires.new c.requires.numbers

pub returns-then-place-len-clause-told : goal.returns-then-place-len-clause-told
returns-then-place-len-clause-told c =
    let all = goal.at.returns-then-place-len-clause-told c in
    let at = all.After-index_mut-kept in
    map-set told c.args.subs.now.items c.place_at-place.result _ ∙ place-received c.args.client c.args.key c.args.through (all_told c.args.subs.now.items) (told c.index_mut-kept.result.now) c.place_at-place.result (placed all.After-place_at-place) (within at) (there at) c.requires.new c.requires.order c.acked.new.self.queue c.acked.ensures

pub returns-then-place-len-clause-rooms : goal.returns-then-place-len-clause-rooms
returns-then-place-len-clause-rooms c = λ have.
    let items = c.args.subs.now.items in
    let place = c.place_at-place.result in
    let shown = c.as_slice-then-place-len.ensures.value in
    subst (HaveRoomsBut c.lack_at.new.lacking.items) shown (c.lack_at.ensures items have (subst (RoomsStayBut place items) (sym shown) (stay-set items place _)))

pub returns-else-place-len-clause-told : goal.returns-else-place-len-clause-told
returns-else-place-len-clause-told c =
    let places = c.args.subs.now.ok.0 in
    none-received c.args.client c.args.key c.args.through (all_told c.args.subs.now.items) c.place_at-place.result (placed (goal.at.returns-else-place-len-clause-told c).After-place_at-place) (omega (arith, places, length-map c.args.subs.now.items told, c.len.ensures, c.if-place-len.false))
