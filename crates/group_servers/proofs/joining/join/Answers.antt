use Rattle.std.proofs.Common.{refl}
use Rattle.cluster_clients.proofs.DispatchSteps.{on-err}
use Rattle.group_servers.proofs.FailSteps.{restarts}
use Rattle.group_servers.proofs.joining.join.Goals as goal

pub returns-in-Ok-clause-ok : goal.returns-in-Ok-clause-ok
returns-in-Ok-clause-ok g c =
    restarts g.row.N c.args.server c.args.world.now c.begin.new.active c.join_at.new.seats c.in-Ok.messages c.args.lines.now.items c.put_server.new.lines.items c.requires.down c.in-Ok.ensures c.join_at.ensures c.in_ok-put_server.ensures.ok

pub returns-in-Err-clause-err : goal.returns-in-Err-clause-err
returns-in-Err-clause-err g c = record { net = refl; agents = refl; history = refl; now = refl; armed = refl }

pub returns-in_err-put_server-clause-err : goal.returns-in_err-put_server-clause-err
returns-in_err-put_server-clause-err g c = on-err c.from_residual.result (record { net = refl; agents = refl; history = refl; now = refl; armed = refl })
