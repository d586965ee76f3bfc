use Rattle.std.proofs.Common.{vec_capacity, arith, rules}
use Rattle.callback_dispatch.specs.Crew.{gathered}
use Rattle.callback_dispatch.proofs.Collected.{buffer_fits, all_long}
use Rattle.callback_dispatch.proofs.buffers.collect.Goals as goal

pub move_all-requires : goal.move_all-requires
move_all-requires c =
    let fits = buffer_fits (gathered c.args.buffers.items) c.loop-buffer.answer.items c.loop-buffer.buffers.items c.pop.new.self.items c.in-Some.buffer (vec_capacity c.loop-buffer.answer) c.loop-buffer.invariant.0 (search rules) c.loop-buffer.invariant.1 in
    omega (arith, c.loop-buffer.answer.ok.0, c.in-Some.buffer.ok.0)

pub returns-clause-len : goal.returns-clause-len
returns-clause-len c =
    let long = all_long (gathered c.args.buffers.items) c.loop-buffer.answer.items c.loop-buffer.buffers.items c.loop-buffer.invariant.0 (search rules) in
    omega (arith, c.loop-buffer.answer.ok.0)
