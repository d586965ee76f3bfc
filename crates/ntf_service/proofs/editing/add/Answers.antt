use Rattle.std.proofs.Common.{◌≡◌, ap, ◌∙◌, arith}
use Rattle.std.specs.Prelude.{insert}
use Rattle.std.proofs.lemmas.List.{length-map}
use Rattle.ntf_history.specs.Kept.{Subscription}
use Rattle.ntf_history.specs.Subscriptions.{key_first}
use Rattle.ntf_service.specs.Told.{told, all_told}
use Rattle.ntf_service.proofs.Places.{place_before, within-before, insert-put}
use Rattle.ntf_service.proofs.Telling.{prefix-read, insert-read}
use Rattle.ntf_service.proofs.editing.add.Goals as goal
use Rattle.ntf_service.proofs.editing.add.Goals.{After-place_for-place}

-- the place among what is told
placed : (c : After-place_for-place) → c.place_for-place.result ≡ place_before c.args.kept.client c.args.kept.key (all_told c.as_slice.result.now)
placed c =
    c.place_for-place.ensures ∙ prefix-read told (λ (x : Subscription). key_first x.client x.key c.args.kept.client c.args.kept.key) c.as_slice.result.now

pub insert-requires : goal.insert-requires
insert-requires c =
    let shown = c.as_slice.result.now in
    let within = within-before c.args.kept.client c.args.kept.key (all_told shown) in
    omega (arith, within, placed (goal.at.insert-requires c).After-place_for-place, length-map shown told, c.as_slice.ensures.len)

pub returns-clause-ok : goal.returns-clause-ok
returns-clause-ok c =
    let items = c.args.subs.now.items in
    let xs = all_told items in
    let k = c.args.kept in
    let place = placed (goal.at.returns-clause-ok c).After-place_for-place ∙ ap (λ l. place_before k.client k.key (all_told l)) c.as_slice.ensures.value in
    ap all_told c.in_ok-insert.ensures.items ∙ insert-read told items c.place_for-place.result k ∙ ap (λ n. insert xs n (told k)) place ∙ insert-put (told k) xs c.requires
