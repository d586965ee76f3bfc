use Rattle.std.proofs.Common.{◌++◌, ap, ◌∙◌, subst}
use Rattle.std.proofs.lemmas.List.Elements.{All-more}
use Rattle.wire_code.proofs.Loops.{spelled_more}
use Rattle.wire.proofs.list.spell_all.Goals as goal

pub loop-item-preserved : goal.loop-item-preserved
loop-item-preserved g c =
    let items = c.args.items.now in
    let i = c.loop-item.item-index in
    let item = c.item-item.result in (
      All-more g.T.Wire.Fits items i item c.loop-item-test.true c.loop-item.invariant.0 (subst g.T.Wire.Fits c.item-item.is c.in_ok-spell.ensures.fits),
      spelled_more g.T.Wire.text items i item _ _ _ c.loop-item-test.true c.loop-item.invariant.1 (c.in_ok-spell.ensures.text ∙ ap (λ x. c.loop-item.out.items ++ g.T.Wire.text x) c.item-item.is),
    )
