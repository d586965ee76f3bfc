use Rattle.cluster_clients.proofs.AskSteps.{asks-first, partly-first}
use Rattle.cluster_clients.proofs.asking.ask_first.Goals as goal
use Rattle.std.proofs.lemmas.Result.{on_ok_weaker, on_err_weaker}

pub returns-in-Ok-clause-ok : goal.returns-in-Ok-clause-ok
returns-in-Ok-clause-ok g c =
    on_ok_weaker c.place_first.result
    (λ placed. asks-first c.args.callbacks c.args.client c.args.asked.now c.in-Ok.sent c.in-Ok.agent c.args.net.now c.place_first.new.net c.args.agents.now c.place_first.new.agents c.args.lines.now.items c.place_first.new.lines.items c.requires.absent c.in-Ok.ensures placed)
    c.place_first.ensures.ok

pub returns-in-Ok-clause-err : goal.returns-in-Ok-clause-err
returns-in-Ok-clause-err g c =
    on_err_weaker c.place_first.result (λ placed. partly-first c.args.callbacks c.args.client c.args.asked.now c.in-Ok.sent c.in-Ok.agent c.args.net.now c.place_first.new.net c.args.agents.now c.place_first.new.agents c.requires.absent c.in-Ok.ensures placed) c.place_first.ensures.err
