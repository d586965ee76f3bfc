use Rattle.std.proofs.Common.{ℕ, ◌+◌, ◌-◌, List, Bor, arith}
use Rattle.wire_code.proofs.Loops.{read_more, gives_trouble}
use Rattle.wire.proofs.list.read_all.Goals as goal

pub returns-in-Err : goal.returns-in-Err
returns-in-Err g c = gives_trouble {R = g.row.T.Denot × Bor (List ℕ)} {S = List g.row.T.Denot × Bor (List ℕ)} g.T.Wire.at (λ found. (found.0, found.1.now)) (λ found. (found.0, found.1.now)) c.in-Err.trouble c.loop.items (c.args.count - c.loop.counter) c.loop.rest.now _ c.loop.invariant (omega arith) c.in-Err.ensures

pub loop-preserved : goal.loop-preserved
loop-preserved g c = read_more g.T.Wire.at c.loop.items _ (c.args.count - c.loop.counter) (c.args.count - (c.loop.counter + 1)) _ _ c.in-Ok.item _ c.loop.invariant (omega arith) c.in-Ok.ensures c.in_ok-push-in-Ok.ensures.ok
