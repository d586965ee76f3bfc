use Rattle.callback_dispatch.proofs.Order.{given_in_order}
use Rattle.callback_dispatch.proofs.queue.CallbackQueue.dispatch_all.Goals as goal

pub returns-clause-given : goal.returns-clause-given
returns-clause-given g c =
    given_in_order c.args.feeder.now.list c.settle.new.feeder.list c.args.taker.list c.settle.new.taker.list c.waiting-waiting.new.taker.list c.take_all-taker.result.1.items c.by_number.result.items c.from_vec.result c.settle.ensures.exact c.settle.ensures.taker.1 c.waiting-waiting.ensures.same.1 c.take_all-taker.ensures.took c.settle.ensures.feeder.1 c.by_number.ensures.same c.by_number.ensures.rises c.from_vec.ensures
