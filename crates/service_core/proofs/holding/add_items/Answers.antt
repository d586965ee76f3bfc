use Rattle.std.proofs.Common.{List, ◌++◌, ap, sym, ◌∙◌, map, append_assoc}
use Rattle.std.proofs.lemmas.List.{map-append}
use Rattle.calls.specs.declared.entry.Held.{Held}
use Rattle.plain_service.specs.Items.{held_for}
use Rattle.service_core.proofs.holding.add_items.Goals as goal

pub returns : goal.returns
returns c =
    let each = held_for c.args.sub.now.client c.args.sub.now.key in
    let front = c.items.result.0.now in
    let behind = c.items.result.1.now in
    c.in_ok-add_each-2.ensures
    ∙ ap (λ (all : List Held). all ++ map each behind) c.in_ok-add_each.ensures
    ∙ append_assoc c.args.held.now (map each front) (map each behind)
    ∙ ap (λ (more : List Held). c.args.held.now ++ more) (sym (map-append each front behind) ∙ ap (map each) c.items.ensures.items)
