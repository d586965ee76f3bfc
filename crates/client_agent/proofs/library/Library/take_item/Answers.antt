use Rattle.std.proofs.Common.{◌≡◌, suc, true, false, List, ◌∷◌, length, option_map, refl, subst, sym, ap, ◌∙◌, arith}
use Rattle.std.specs.Prelude.{nat_le}
use Rattle.cluster_facts.specs.Types.{Callback}
use Rattle.cluster_facts.specs.Agents.{Living, find_living, callback_of, after_item}
use Rattle.client_agent.specs.Seen.{Seen, seen_of}
use Rattle.client_agent.specs.Waiting.{Waiting}
use Rattle.client_agent.specs.Inside.{living_of, all_living, seen_inside, agent_of, AreBelow}
use Rattle.client_agent.proofs.Subscribed.{find_living-find, found-living, AreBelow-moved, moved-item}
use Rattle.client_agent.proofs.Taking.{item_gone, item_before, item_ahead, item_left, item_taken}
use Rattle.client_agent.proofs.library.Library.take_item.Goals as goal

pub returns-in-None-clause-ok : goal.returns-in-None-clause-ok
returns-in-None-clause-ok g c =
    let none = ap (λ (s : Seen). find_living c.args.key s.living) (sym c.self.view_is) ∙ sym (find_living-find c.args.key c.self.inside.living.items) ∙ ap (option_map living_of) (sym c.in-None.ensures) in
    item_gone c.args.self.now c.args.key c.args.item.now none

pub returns-then-item-found-clause-ok : goal.returns-then-item-found-clause-ok
returns-then-item-found-clause-ok g c =
    let seen = c.args.self.now in
    let found = c.in-Some.found in
    let is = found-living c.args.key c.self.inside.living.items found seen.living c.in-Some.ensures (ap (λ (s : Seen). s.living) c.self.view_is) in
    item_before seen c.args.key c.args.item.now (living_of found) is (omega arith)

pub returns-then-item-found-gt1-clause-ok : goal.returns-then-item-found-gt1-clause-ok
returns-then-item-found-gt1-clause-ok g c =
    let seen = c.args.self.now in
    let found = c.in-Some.found in
    let is = found-living c.args.key c.self.inside.living.items found seen.living c.in-Some.ensures (ap (λ (s : Seen). s.living) c.self.view_is) in
    item_ahead seen c.args.key c.args.item.now (living_of found) is (omega arith)

pub returns-then-is_full-clause-ok : goal.returns-then-is_full-clause-ok
returns-then-is_full-clause-ok g c =
    let seen = c.args.self.now in
    let inside = c.self.inside in
    let found = c.in-Some.found in
    let is = found-living c.args.key inside.living.items found seen.living c.in-Some.ensures (ap (λ (s : Seen). s.living) c.self.view_is) in
    let Full : Seen → Type 0 = λ s. true ≡ nat_le s.places (length s.queue) in
    item_left seen c.args.key c.args.item.now (living_of found) is (omega arith) (sym (subst Full c.self.view_is c.if-is_full.ensures))

pub invariant_of-self-2 : goal.invariant_of-self-2
invariant_of-self-2 g c =
    let inside = c.self.inside in
    let Below : List Living → Type 0 = AreBelow inside.next in
    (subst Below (sym (ap all_living c.note_item.ensures)) (AreBelow-moved c.args.key c.args.item.now.number inside.next inside.living.items c.self.invariant.0), c.self.invariant.1)

pub returns-clause-ok : goal.returns-clause-ok
returns-clause-ok g c =
    let seen = c.args.self.now in
    let inside = c.self.inside in
    let item = c.args.item.now in
    let found = c.in-Some.found in
    let look = found-living c.args.key inside.living.items found (all_living inside.living.items) c.in-Some.ensures refl in
    let is = found-living c.args.key inside.living.items found seen.living c.in-Some.ensures (ap (λ (s : Seen). s.living) c.self.view_is) in
    let next : item.number ≡ suc found.taken = omega arith in
    let Free : Seen → Type 0 = λ s. false ≡ nat_le s.places (length s.queue) in
    let living = ap all_living c.note_item.ensures ∙ moved-item c.args.key item.number inside.next (living_of found) inside.living.items c.self.invariant.0 look next in
    let before = inside.callbacks in
    let put : Callback → Waiting = λ callback. record before { queue = callback ∷ before.queue } in
    let callbacks : c.put.new.self ≡ put (callback_of found.id item.content) = c.in_ok-put.ensures.ok ∙ ap put c.in_ok-callback.ensures in
    let After : Seen → Type 0 = λ s. (handed : List Callback) → s.given ≡ length handed → seen_inside (record inside { living = c.note_item.new.living; callbacks = c.put.new.self }) ≡ seen_of s.client s.places (after_item c.args.key found.id item.content (agent_of s handed)) in
    let after : After (seen_inside inside) = λ handed given.
    let count = ap (λ (w : Waiting). w.given) callbacks ∙ given in
    λ i. record { client = inside.client; places = (callbacks i).places; next = inside.next; log_handle = inside.log_handle; ntf_handle = inside.ntf_handle; kept = (seen_inside inside).kept; living = living i; queue = (callbacks i).queue; given = count i; marks = (seen_inside inside).marks } in
    item_taken seen c.args.key item (living_of found) inside.client item.number _ is next (sym (subst Free c.self.view_is c.if-is_full.ensures)) (ap (λ (s : Seen). s.client) c.self.view_is) refl (subst After c.self.view_is after)
