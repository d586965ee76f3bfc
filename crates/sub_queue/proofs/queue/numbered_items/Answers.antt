use Rattle.std.proofs.Common.{◌≤◌, List, length, ap, sym, subst, ◌∙◌, arith, add-zero}
use Rattle.std.specs.Vec.{vec_capacity}
use Rattle.sub_queue.specs.declared.item.Content.{Content}
use Rattle.sub_queue.proofs.Numbering.{IsNumberedSoFar-more, IsNumberedSoFar-fewer, IsNumberedSoFar-end}
use Rattle.sub_queue.proofs.queue.numbered_items.Goals as goal

pub loop-content-init : goal.loop-content-init
loop-content-init c =
    let gives = c.into_iter-content-iterator.ensures.into_iter_gives in
    let held = c.into_vec-content-items.result in
    let Fits : List Content → Type 0 = λ all. length all ≤ vec_capacity c.in_ok-items.items in
    let parts = gives.0 ∙ c.into_vec-content-items.ensures in
    (tt, tt, record { parts = parts; count = gives.1 ∙ held.ok.0 ∙ ap length (sym gives.0); next = sym (add-zero c.args.first); numbers = c.in_ok-items.ensures.items }, subst Fits c.as_slice-count.ensures c.in_ok-items.ensures.capacity)

pub push_reserved-requires : goal.push_reserved-requires
push_reserved-requires c =
    let fewer = IsNumberedSoFar-fewer _ _ _ _ _ _ _ c.loop-content.invariant.2 c.in-Some.content _ c.in-Some.ensures.steps.0 in
    omega (arith, fewer.0, c.loop-content.items.ok.0, c.loop-content.invariant.3)

pub overflow_add-number : goal.overflow_add-number
overflow_add-number c =
    let fewer = IsNumberedSoFar-fewer _ _ _ _ _ _ _ c.loop-content.invariant.2 c.in-Some.content _ c.in-Some.ensures.steps.0 in
    omega (arith, fewer.1, c.requires)

pub loop-content-preserved : goal.loop-content-preserved
loop-content-preserved c =
    let steps = c.in-Some.ensures.steps in
    (tt, tt, IsNumberedSoFar-more _ _ _ _ _ _ _ c.loop-content.invariant.2 c.in-Some.content _ _ steps.0 steps.1 _ c.push_reserved.ensures.items, omega (arith, c.loop-content.invariant.3, c.push_reserved.ensures.capacity))

pub returns : goal.returns
returns c =
    IsNumberedSoFar-end _ _ _ _ _ _ _ c.loop-content.invariant.2 c.in-None.ensures.steps.0
