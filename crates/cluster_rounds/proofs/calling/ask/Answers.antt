use Rattle.std.proofs.lemmas.Result.{on_ok_weaker, on_err_weaker}
use Rattle.std.proofs.Common.{⊎_elim}
use Rattle.cluster_rounds.proofs.calling.ask.Goals as goal
use Rattle.cluster_rounds.proofs.BrokenClients.{asks-break}
use Rattle.cluster_rounds.proofs.TakenSteps.{all-started, asks-happens}
use Rattle.cluster_rounds.proofs.WildClients.{wild-asks, wild-started}

pub ask-requires : goal.ask-requires
ask-requires g c = record {
  from = c.requires.caller.from;
  to = c.requires.caller.to;
  started = ⊎_elim (λ has. (all-started g.S.Serving.kit g.met.S.Serving.laws) c.args.world.now has) (λ wild. (wild-started g.S.Serving.kit g.met.S.Serving.laws) wild.1.seen c.args.world.now wild.0 wild.1.wild) c.requires.state;
}

pub returns-clause-ok : goal.returns-clause-ok
returns-clause-ok g c =
    on_ok_weaker c.ask.result (λ asks setup state good shows. (asks-happens g.S.Serving.kit g.met.S.Serving.laws) setup c.args.client c.args.asked.now state c.args.world.now c.ask.new.net c.ask.new.agents c.args.lines.now.items c.ask.new.lines.items good shows asks) c.ask.ensures.ok

pub returns-clause-err : goal.returns-clause-err
returns-clause-err g c =
    on_err_weaker c.ask.result (λ partly. (asks-break g.S.Serving.kit g.met.S.Serving.laws) c.args.client c.args.asked.now c.args.world.now c.ask.new.net c.ask.new.agents partly) c.ask.ensures.err

pub returns-clause-wild : goal.returns-clause-wild
returns-clause-wild g c =
    on_ok_weaker c.ask.result (λ asks. (wild-asks g.S.Serving.kit g.met.S.Serving.laws) c.args.client c.args.asked.now c.args.world.now c.ask.new.net c.ask.new.agents c.args.lines.now.items c.ask.new.lines.items asks) c.ask.ensures.ok
