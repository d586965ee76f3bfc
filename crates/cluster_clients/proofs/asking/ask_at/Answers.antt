use Rattle.cluster_clients.proofs.DeliverySteps.{found-within}
use Rattle.cluster_clients.proofs.AskSteps.{fit-at, asks-at, partly-at}
use Rattle.cluster_clients.proofs.asking.ask_at.Goals as goal
use Rattle.std.proofs.lemmas.Result.{on_ok_weaker, on_err_weaker}

pub tell_sent-requires : goal.tell_sent-requires
tell_sent-requires c =
    fit-at c.args.client c.args.at c.args.asked.now c.args.agents.now c.call_at.new.agents c.in-Ok.sent c.requires.found c.requires.from c.requires.to c.requires.number (found-within c.args.client c.args.at c.args.agents.now c.requires.found) c.in-Ok.ensures.ok

pub returns-in-Ok-clause-ok : goal.returns-in-Ok-clause-ok
returns-in-Ok-clause-ok c =
    on_ok_weaker c.tell_sent.result (λ told. asks-at c.args.callbacks c.args.client c.args.at c.args.asked.now c.args.net.now c.tell_sent.new.net c.args.agents.now c.call_at.new.agents c.args.lines.now.items c.tell_sent.new.lines.items c.in-Ok.sent c.requires.found c.in-Ok.ensures.ok told) c.tell_sent.ensures.ok

pub returns-in-Ok-clause-err : goal.returns-in-Ok-clause-err
returns-in-Ok-clause-err c =
    on_err_weaker c.tell_sent.result (λ may. partly-at c.args.callbacks c.args.client c.args.at c.args.asked.now c.args.net.now c.tell_sent.new.net c.args.agents.now c.call_at.new.agents c.in-Ok.sent c.requires.found c.in-Ok.ensures.ok may) c.tell_sent.ensures.err
