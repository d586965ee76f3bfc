use Rattle.std.proofs.Common.{sym}
use Rattle.std.proofs.lemmas.Result.{on_ok_weaker}
use Rattle.cluster_rounds.proofs.delivering.deliver_message.Goals as goal
use Rattle.cluster_rounds.proofs.FetchSteps.{delivers-none, delivers-server, fits-server}
use Rattle.cluster_rounds.proofs.WildSteps.{wild-same}

pub hear-requires : goal.hear-requires
hear-requires g c = record {
  state = c.requires.state;
  range = (fits-server g.S.Serving.kit g.met.S.Serving.laws) c.args.message.now (sym c.if-is_for_server.ensures) c.requires.fits;
}

pub deliver_to_agent-requires : goal.deliver_to_agent-requires
deliver_to_agent-requires g c = record { fits = c.requires.fits; agent = sym c.if-is_for_agent.ensures }

pub returns-then-is_for_server-clause-ok : goal.returns-then-is_for_server-clause-ok
returns-then-is_for_server-clause-ok g c =
    on_ok_weaker c.hear.result (λ hears. (delivers-server g.S.Serving.kit g.met.S.Serving.laws) c.args.place c.args.message.now c.args.world.now c.hear.new.world c.args.lines.now.items c.hear.new.lines.items (sym c.if-is_for_server.ensures) hears) c.hear.ensures.ok

pub returns-clause-ok : goal.returns-clause-ok
returns-clause-ok g c =
    (delivers-none g.S.Serving.kit g.met.S.Serving.laws) c.args.place c.args.message.now c.args.world.now c.args.lines.now.items c.args.lines.now.items (sym c.if-is_for_agent.ensures) (sym c.if-is_for_server.ensures)

pub returns-clause-wild : goal.returns-clause-wild
returns-clause-wild g c = λ disks seen wild so. (wild-same g.S.Serving.kit) seen c.args.world.now disks wild
