use Rattle.std.proofs.Common.{arith}
use Rattle.callback_dispatch.specs.Crew.{IsFree}
use Rattle.callback_dispatch.proofs.Collected.{free_more}
use Rattle.callback_dispatch.proofs.buffers.free_buffers.Goals as goal

pub loop-made-preserved : goal.loop-made-preserved
loop-made-preserved c =
    let before = c.loop-made.invariant in
    let made = before.0 in
    let buffer = before.2 in
    let len = c.push_reserved.ensures.len in
    let capacity = c.push_reserved.ensures.capacity in
    let free : IsFree c.args.places c.in_ok-buffer.buffer = (c.in_ok-buffer.ensures.items, c.in_ok-buffer.ensures.capacity) in
    (omega arith, free_more c.args.places c.loop-made.buffers.items c.push_reserved.new.self.items c.in_ok-buffer.buffer before.1 free c.push_reserved.ensures.items, omega arith)
