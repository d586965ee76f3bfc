use Rattle.std.proofs.Common.{◌≡◌, ◌+◌, ◌-◌, ◌≤◌, List, [], ◌++◌, length, ap, subst, sym, ◌∙◌, arith, Vec, Global}
use Rattle.sub_queue.specs.declared.item.Lost.{Lost}
use Rattle.sub_queue.specs.Items.{numbered, discarded}
use Rattle.sub_queue.specs.Queue.{KeptQueue, queue_of_parts, received, IsNew, HasNumberLeft}
use Rattle.sub_queue.specs.Inside.{contents_of, queue_of, IsKeptAs}
use Rattle.sub_queue.proofs.Keeping.{kept, received_items, IsSound-received, contents_of-numbered}
use Rattle.sub_queue.proofs.queue.SubQueue.acked.Goals as goal

abbrev marks_in : Vec Lost Global → List Lost
marks_in marks = marks.items

-- the receipt is new for the queue as it is kept
new : (c : goal.After-add_discarded) → IsNew c.args.through (queue_of c.self.inside)
new c = let P : KeptQueue → Type 0 = λ kept. IsNew c.args.through kept.queue in subst P (sym c.self.view_is) c.requires.new

-- the items at the end have the numbers behind the receipt
items_are : (c : goal.After-add_discarded) → c.add_discarded.new.items.items ≡ numbered (c.args.through + 1) (received c.args.through (queue_of c.self.inside)).held
items_are c =
    let inside = c.self.inside in
    let queue = queue_of inside in
    let from : inside.first ≤ c.args.through = (new c).from in
    let front = c.remove_front.new.items in
    let moved : c.add_discarded.new.items.items ≡ front.items ++ numbered (c.args.through + 1 + c.len.result) (discarded inside.lost.items) = c.add_discarded.ensures.items ∙ ap (λ (lost : List Lost). front.items ++ numbered (c.args.through + 1 + c.len.result) (discarded lost)) (c.from_vec.ensures ∙ ap marks_in c.replace-lost.ensures.value) in
    let next : c.args.through + 1 + c.len.result ≡ c.args.through + 1 + length front.items = omega (arith, front.ok.0) in
    moved ∙ received_items c.args.through inside.first (c.args.through - inside.first + 1) _ queue.held inside.lost.items inside.items.items front.items from (omega arith) c.self.invariant.numbers c.remove_front.ensures.items next

-- nothing is lost at the end
none_lost : (c : goal.After-add_discarded) → c.replace-lost.new.dest.items ≡ []
none_lost c = ap marks_in c.replace-lost.ensures.after ∙ c.new.ensures.items

pub invariant_of-self : goal.invariant_of-self
invariant_of-self c =
    let queue = queue_of c.self.inside in
    let items = c.add_discarded.new.items in
    let P : KeptQueue → Type 0 = λ kept. HasNumberLeft kept.queue in
    let left : HasNumberLeft queue = subst P (sym c.self.view_is) c.requires.numbers in
    let sound = IsSound-received c.args.through queue c.self.invariant.sound (new c) left in
    let Kept : List Lost → Type 0 = λ lost. IsKeptAs (queue_of_parts queue.capacity (c.args.through + 1) (contents_of items.items) lost) items.items in
    subst Kept (sym (none_lost c)) (kept queue.capacity (c.args.through + 1) (received c.args.through queue).held [] items.items sound (items_are c))

pub returns : goal.returns
returns c =
    let queue = queue_of c.self.inside in
    let held : contents_of c.add_discarded.new.items.items ≡ (received c.args.through queue).held = ap contents_of (items_are c) ∙ contents_of-numbered (c.args.through + 1) (received c.args.through queue).held in
    let view : queue_of_parts queue.capacity (c.args.through + 1) (contents_of c.add_discarded.new.items.items) c.replace-lost.new.dest.items ≡ received c.args.through queue = λ i. record { capacity = queue.capacity; first = c.args.through + 1; held = held i; lost = none_lost c i } in
    view ∙ ap (λ (kept : KeptQueue). received c.args.through kept.queue) c.self.view_is
