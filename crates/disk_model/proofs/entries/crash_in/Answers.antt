use Rattle.std.proofs.Common.{ap, arith}
use Rattle.disk_model.proofs.Crashing.{crashed_entry}
use Rattle.disk_model.proofs.entries.crash_in.Goals as goal
use Rattle.ais_values.proofs.Basics.{set-map_more}

pub loop-place-preserved : goal.loop-place-preserved
loop-place-preserved c =
    let read = c.index_mut-entry.result.now in
    set-map_more (crashed_entry c.args.torn.now) c.args.entries.now.items c.loop-place.entries.items c.loop-place.place read (read.0, c.crash.new.self)
    (omega (arith, c.args.entries.now.ok.0)) c.loop-place.invariant c.index_mut-entry.ensures.value (ap (λ file. (read.0, file)) c.crash.ensures)
