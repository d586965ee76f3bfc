use Rattle.std.proofs.Common.{◌≡◌, List, ap}
use Rattle.std.proofs.lemmas.Result.{on_err_weaker}
use Rattle.wire.specs.declared.message.Message.{Message}
use Rattle.lone_server.proofs.appending.put_back.Goals as goal

pub returns-in-Ok-clause-err : goal.returns-in-Ok-clause-err
returns-in-Ok-clause-err c =
    on_err_weaker c.send_all.result
    (λ (same : c.send_all.new.list ≡ c.args.servers.now.back). ap (λ (back : List Message). record c.args.servers.now { back = back }) same)
    c.send_all.ensures.err
