use Rattle.std.proofs.Common.{◌≡◌, ℕ, List, length, ap, sym, ◌∙◌, subst, arith}
use Rattle.std.specs.List.{insert}
use Rattle.client_agent.specs.Seen.{Seen}
use Rattle.cluster_clients.specs.Clients.{AreByClient}
use Rattle.cluster_clients.specs.Asked.{place_for}
use Rattle.cluster_clients.proofs.Places.{cut-front}
use Rattle.cluster_clients.proofs.asking.enlist.Goals as goal

pub insert-done-requires : goal.insert-done-requires
insert-done-requires c =
    let bound = c.count_below-place.ensures.bound in
    let old = ap (λ (xs : List Seen). length xs) c.as_slice.ensures in
    let list = ap (λ (xs : List Seen). length xs) c.into_vec-list.ensures in
    let moved = ap (λ (xs : List Seen). length xs) c.replace.ensures.value in
    let count = c.into_vec-list.result.ok.0 in
    omega (arith, bound, old, list, moved, count)

pub returns-in-Ok-clause-ok : goal.returns-in-Ok-clause-ok
returns-in-Ok-clause-ok c = λ rising.
    let old = c.args.agents.now in
    let agent = c.args.agent in
    let seen = c.as_slice.result.now in
    let place = c.count_below-place.result in
    let cut = c.count_below-place.ensures.cut (subst AreByClient (sym c.as_slice.ensures) rising) in
    let front : place ≡ place_for c.client.result seen = cut-front c.client.result place seen c.count_below-place.ensures.bound cut in
    let there : place ≡ place_for agent.client old = front ∙ ap (place_for c.client.result) c.as_slice.ensures ∙ ap (λ (client : ℕ). place_for client old) c.client.ensures in
    c.replace-2.ensures.after ∙ c.from_vec.ensures ∙ c.in-Ok.ensures.items ∙ ap (λ (xs : List Seen). insert xs place agent) (c.into_vec-list.ensures ∙ c.replace.ensures.value) ∙ ap (λ (at : ℕ). insert old at agent) there
