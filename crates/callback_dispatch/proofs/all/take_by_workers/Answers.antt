use Rattle.std.proofs.Common.{length, vec_len, vec_capacity, refl, arith}
use Rattle.callback_dispatch.specs.Crew.{gathered}
use Rattle.callback_dispatch.proofs.Crews.{took_waiting, length_together}
use Rattle.callback_dispatch.proofs.all.take_by_workers.Goals as goal

pub collect-answer-requires-clause-fits : goal.collect-answer-requires-clause-fits
collect-answer-requires-clause-fits g c =
    let taken = gathered c.gather-taker.result.1.items in
    took_waiting c.args.feeder.now.list c.args.taker.list c.gather-taker.result.0.list c.settle.new.taker.list taken (length taken) c.args.waiting (vec_capacity c.args.free.1) c.settle.ensures.exact c.settle.ensures.taker.1 c.gather-taker.ensures.took refl c.requires.waiting c.requires.answer.1

pub returns-clause-long : goal.returns-clause-long
returns-clause-long g c =
    length_together c.args.taker.list (gathered c.gather-taker.result.1.items) c.gather-taker.result.0.list c.settle.new.taker.list (vec_len c.collect-answer.result) c.gather-taker.ensures.took c.collect-answer.ensures.len c.settle.ensures.taker.1

pub returns-clause-few : goal.returns-clause-few
returns-clause-few g c =
    took_waiting c.args.feeder.now.list c.args.taker.list c.gather-taker.result.0.list c.settle.new.taker.list (gathered c.gather-taker.result.1.items) (vec_len c.collect-answer.result) c.args.waiting c.args.waiting c.settle.ensures.exact c.settle.ensures.taker.1 c.gather-taker.ensures.took c.collect-answer.ensures.len c.requires.waiting (omega arith)
