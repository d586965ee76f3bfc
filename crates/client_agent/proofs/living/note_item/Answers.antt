use Rattle.std.proofs.Common.{◌<◌, length, ◌∙◌, arith, length-set}
use Rattle.client_agent.specs.Inside.{moved}
use Rattle.client_agent.proofs.living.note_item.Goals as goal
use Rattle.ais_values.proofs.Basics.{set-map_more}

pub loop-index-preserved : goal.loop-index-preserved
loop-index-preserved c =
    let so_far = c.loop-index.invariant in
    let end = so_far.2 in
    let within : c.loop-index.index < length c.args.living.now.items = omega (arith, c.loop-index-test.true) in
    (set-map_more (moved c.args.key c.args.number) c.args.living.now.items c.loop-index.living.items c.loop-index.index c.index.result.now c.moved-after.result within so_far.0 c.index.ensures c.moved-after.ensures, length-set c.loop-index.living.items c.loop-index.index c.moved-after.result ∙ so_far.1, so_far.2)
