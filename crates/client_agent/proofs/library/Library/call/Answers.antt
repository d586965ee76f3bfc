use Rattle.std.proofs.Common.{List, ◌∷◌, subst, sym, ap, ◌≡◌, ◌∙◌, ◌+◌}
use Rattle.ais_values.proofs.Basics.{OnErr-from}
use Rattle.cluster_facts.specs.Agents.{Living, living_after}
use Rattle.client_agent.specs.declared.kept.Kept.{Kept}
use Rattle.client_agent.specs.declared.living.Subscription.{Subscription}
use Rattle.client_agent.specs.Seen.{Seen}
use Rattle.client_agent.specs.declared.library.Library.TheInside.{Inside}
use Rattle.client_agent.specs.Inside.{all_living, calls_kept, seen_inside, AreBelow, AreFalling}
use Rattle.client_agent.proofs.Falling.{falling-sent}
use Rattle.client_agent.proofs.Subscribed.{AreBelow-call}
use Rattle.client_agent.proofs.library.Library.call.Goals as goal

pub invariant_of-self-2 : goal.invariant_of-self-2
invariant_of-self-2 c =
    let inside = c.self.inside in
    let call = c.in_ok-call.call in
    let Below : List Living → Type 0 = AreBelow (inside.next + 1) in
    let after = (rw c.get.ensures at c.note_call.ensures) ∙ ap (λ (living : List Subscription). living_after inside.next call (all_living living)) c.make_place.ensures.items in
    let sent = ap calls_kept (c.push_front_reserved.ensures.items ∙ ap (λ (others : List Kept). record { number = inside.next; call = call } ∷ others) c.reserve_exact.ensures.items) in
    (subst Below (sym after) (AreBelow-call inside.next call (all_living inside.living.items) c.self.invariant.0), subst (AreFalling (inside.next + 1)) (sym sent) (falling-sent inside.next call (calls_kept inside.kept.items) c.self.invariant.1))

-- both lists that got room are as they were, so the agent is seen as it was
stands : (inside : Inside) (seen : Seen) (kept : List Kept) (living : List Subscription) → seen_inside inside ≡ seen → kept ≡ inside.kept.items → living ≡ inside.living.items → record (seen_inside inside) { kept = calls_kept kept; living = all_living living } ≡ seen
stands inside seen kept living is same_calls same_living =
    (λ i. record (seen_inside inside) { kept = calls_kept (same_calls i); living = all_living (same_living i) }) ∙ is

pub returns-in_err-make_place-clause-err : goal.returns-in_err-make_place-clause-err
returns-in_err-make_place-clause-err c =
    OnErr-from c.from_residual-in_err-make_place.result (stands c.self.inside c.args.self.now c.reserve_exact.new.self.items c.make_place.new.living.items c.self.view_is c.reserve_exact.ensures.items c.make_place.ensures.items)

pub returns-in_err-call-clause-err : goal.returns-in_err-call-clause-err
returns-in_err-call-clause-err c =
    OnErr-from c.from_residual-in_err-call.result (stands c.self.inside c.args.self.now c.reserve_exact.new.self.items c.make_place.new.living.items c.self.view_is c.reserve_exact.ensures.items c.make_place.ensures.items)
