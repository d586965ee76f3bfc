use Rattle.std.proofs.Common.{◌≡◌, ◌+◌, List, [], ◌∷◌, ◌++◌, length, take, drop, reverse, ap, sym, ◌∙◌, arith}
use Rattle.calls.specs.declared.reply.Callback.{Callback}
use Rattle.callback_dispatch.specs.declared.numbered.Numbered.{Numbered}
use Rattle.callback_dispatch.specs.Seen.{numbered as numbered_from}
use Rattle.cluster_facts.specs.Agents.{oldest}
use Rattle.client_agent.specs.Steps.{numbered}
use Rattle.client_agent.specs.Waiting.{Waiting, after_one}
use Rattle.client_agent.proofs.Handing.{only-taker, length-taken, oldest-at, took-one, handed-one, one-left, one-given}
use Rattle.client_agent.proofs.ring.Ring.hand_out_one.Goals as goal

pub take_oldest-requires-clause-waits : goal.take_oldest-requires-clause-waits
take_oldest-requires-clause-waits g c =
    let inside = c.self.inside in
    let only = only-taker inside c.in-Some.taker c.self.invariant c.in-Some.is in
    omega (arith, c.if-self.false, c.self.invariant.count, c.self.invariant.within, length-taken inside.given inside.feeder.list c.in-Some.taker.list c.self.invariant.within only.took)

pub invariant_of-self : goal.invariant_of-self
invariant_of-self g c =
    let inside = c.self.inside in
    let only = only-taker inside c.in-Some.taker c.self.invariant c.in-Some.is in
    let list = inside.feeder.list in
    let x = c.in-Ok.element in
    let next = oldest-at inside.given list c.in-Some.taker.list x c.self.invariant.within only.took c.in-Ok.ensures.oldest in
    let same = c.in-Ok.ensures.feeder.1 in
    let taken = took-one inside.given list c.in-Some.taker.list c.take_oldest.new.taker.list x only.took c.in-Ok.ensures.list next.0 next.1 in
    record {
      here = c.in-Ok.ensures.feeder.0 ∙ c.self.invariant.here;
      size = c.self.invariant.size;
      count = c.self.invariant.count ∙ sym (ap length same);
      within = omega (arith, c.if-self.false, c.self.invariant.count, c.self.invariant.within, ap length same);
      taker = record {
        here = c.in-Ok.ensures.taker.0 ∙ only.here;
        whole = c.in-Ok.ensures.taker.1;
        took = taken ∙ ap (λ (l : List Callback). numbered_from 1 (take (inside.given + 1) l)) (sym same);
      };
    }

pub returns-in-Ok-clause-taken : goal.returns-in-Ok-clause-taken
returns-in-Ok-clause-taken g c =
    let inside = c.self.inside in
    let only = only-taker inside c.in-Some.taker c.self.invariant c.in-Some.is in
    let list = inside.feeder.list in
    let x = c.in-Ok.element in
    let next = oldest-at inside.given list c.in-Some.taker.list x c.self.invariant.within only.took c.in-Ok.ensures.oldest in
    let taken : c.from_vec-in-Ok.result ≡ x ∷ [] = c.from_vec-in-Ok.ensures ∙ c.push_reserved.ensures.items ∙ ap (λ (l : List Numbered). l ++ x ∷ []) c.in_ok-taken.ensures.items in
    taken ∙ handed-one inside.given list x next.0 next.1 ∙ ap (λ (w : Waiting). reverse (numbered w.given (oldest w.queue))) c.self.view_is

pub returns-in-Ok-clause-left : goal.returns-in-Ok-clause-left
returns-in-Ok-clause-left g c =
    let inside = c.self.inside in
    let only = only-taker inside c.in-Some.taker c.self.invariant c.in-Some.is in
    let list = inside.feeder.list in
    let x = c.in-Ok.element in
    let next = oldest-at inside.given list c.in-Some.taker.list x c.self.invariant.within only.took c.in-Ok.ensures.oldest in
    let queue = ap (λ (l : List Callback). reverse (drop (inside.given + 1) l)) c.in-Ok.ensures.feeder.1 ∙ one-left inside.given list x.callback next.1 in
    let given = one-given inside.given list x.callback next.1 in
    (λ i. record { places = inside.places; queue = queue i; given = given i }) ∙ ap after_one c.self.view_is
