use Rattle.std.proofs.Common.{◌≡◌, ◌+◌, ◌<◌, [], ◌∷◌, ◌++◌, length, subst, sym, ◌∙◌, arith}
use Rattle.sub_queue.specs.declared.item.Content.TheVariants.{Notified}
use Rattle.sub_queue.specs.Items.{numbered}
use Rattle.sub_queue.specs.Queue.{KeptQueue, HasNumberLeft}
use Rattle.sub_queue.specs.Inside.{queue_of}
use Rattle.sub_queue.proofs.Keeping.{kept, joined, IsSound-more, length-contents_of}
use Rattle.sub_queue.proofs.queue.SubQueue.offer_reserved.Goals as goal

pub invariant_of-self : goal.invariant_of-self
invariant_of-self c =
    let queue = queue_of c.self.inside in
    let items = c.self.inside.items in
    let content = Notified c.args.notification in
    let long = length-contents_of items.items in
    let place : length queue.held < queue.capacity = omega (arith, items.ok.0) in
    let P : KeptQueue → Type 0 = λ kept. HasNumberLeft kept.queue in
    let left : HasNumberLeft queue = subst P (sym c.self.view_is) c.requires.numbers in
    let number : c.self.inside.first + c.len-count.result ≡ queue.first + length queue.held = omega (arith, items.ok.0) in
    let is : c.push_back_reserved.new.self.items ≡ numbered queue.first (queue.held ++ content ∷ []) = c.push_back_reserved.ensures.items ∙ joined queue.first _ items.items queue.held (content ∷ []) c.self.invariant.numbers number in
    kept queue.capacity queue.first (queue.held ++ content ∷ []) queue.lost _ (IsSound-more queue content c.self.invariant.sound left place) is
