use Rattle.std.proofs.Common.{◌≡◌, List, ap, sym, subst, ◌∙◌}
use Rattle.sub_queue.specs.declared.item.Lost.{Lost}
use Rattle.sub_queue.specs.Items.{numbered}
use Rattle.sub_queue.specs.Queue.{queue_of_parts}
use Rattle.sub_queue.specs.Inside.{contents_of, IsKeptAs}
use Rattle.sub_queue.proofs.Keeping.{kept, contents_of-numbered}
use Rattle.sub_queue.proofs.queue.SubQueue.rebuild.Goals as goal

pub invariant_of-result : goal.invariant_of-result
invariant_of-result c =
    let ring = c.from_vec.result in
    let is : ring.items ≡ numbered c.args.first c.args.held = c.from_vec.ensures.items ∙ c.in_ok-items.ensures in
    let Kept : List Lost → Type 0 = λ lost. IsKeptAs (queue_of_parts c.args.cap c.args.first (contents_of ring.items) lost) ring.items in
    subst Kept (sym c.into_vec.ensures) (kept c.args.cap c.args.first c.args.held c.args.lost ring.items c.requires is)

pub returns : goal.returns
returns c =
    let is : c.from_vec.result.items ≡ numbered c.args.first c.args.held = c.from_vec.ensures.items ∙ c.in_ok-items.ensures in
    let held : contents_of c.from_vec.result.items ≡ c.args.held = ap contents_of is ∙ contents_of-numbered c.args.first c.args.held in
    λ i. record { capacity = c.args.cap; first = c.args.first; held = held i; lost = c.into_vec.ensures i }
