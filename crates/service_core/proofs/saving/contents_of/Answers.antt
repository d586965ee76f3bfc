use Rattle.std.proofs.Common.{List, ◌++◌, ap, sym, ◌∙◌}
use Rattle.std.proofs.lemmas.List.{map-append}
use Rattle.sub_queue.specs.declared.item.Content.{Content}
use Rattle.sub_queue.specs.declared.item.Item.{Item}
use Rattle.service_core.specs.Holding.{contents_in}
use Rattle.service_core.proofs.HoldingLaws.{contents-numbered}
use Rattle.service_core.proofs.saving.contents_of.Goals as goal

pub returns : goal.returns
returns c =
    let queue = c.args.queue.now.queue in
    let front = c.items.result.0.now in
    let behind = c.items.result.1.now in
    c.in_ok-add_contents-2.ensures
    ∙ ap (λ (all : List Content). all ++ contents_in behind) (c.in_ok-add_contents.ensures ∙ ap (λ (all : List Content). all ++ contents_in front) c.in_ok-contents.ensures)
    ∙ sym (map-append (λ (item : Item). item.content) front behind)
    ∙ ap contents_in c.items.ensures.items
    ∙ contents-numbered queue.first queue.held
