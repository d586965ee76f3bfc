use Rattle.std.proofs.Common.{arith}
use Rattle.log_history.specs.Table.{without_opener}
use Rattle.log_service.proofs.PlaceLemmas.{map-whole}
use Rattle.log_service.proofs.streams.leave_all.Goals as goal
use Rattle.ais_values.proofs.Basics.{set-map_more}

pub loop-place-preserved : goal.loop-place-preserved
loop-place-preserved c =
    set-map_more (without_opener c.args.client) c.args.streams.now.items c.loop-place.streams.items c.loop-place.place c.index_mut.result.now c.leave.new.self
    (omega (arith, c.args.streams.now.ok.0)) c.loop-place.invariant c.index_mut.ensures.value c.leave.ensures

pub returns : goal.returns
returns c =
    map-whole (without_opener c.args.client) c.args.streams.now.items c.loop-place.streams.items c.loop-place.place (omega (arith, c.args.streams.now.ok.0)) c.loop-place.invariant
