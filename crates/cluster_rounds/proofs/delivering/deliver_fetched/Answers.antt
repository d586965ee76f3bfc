use Rattle.std.proofs.Common.{Some, subst}
use Rattle.std.proofs.lemmas.Result.{on_ok_weaker, on_err_weaker}
use Rattle.cluster_clients.specs.declared.fetching.Fetched.{Fetched}
use Rattle.cluster_clients.specs.Spelled.{IsFetched}
use Rattle.cluster_clients.proofs.DispatchSteps.{on-err}
use Rattle.cluster_rounds.proofs.BrokenClients.{delivery-breaks, same-breaks}
use Rattle.cluster_rounds.proofs.FetchSteps.{delivers-fetched}
use Rattle.cluster_rounds.proofs.delivering.deliver_fetched.Goals as goal
use Rattle.cluster_rounds.specs.Wild.{KeepsWild, Posted}
use Rattle.cluster_rounds.proofs.WildSteps.{on-ok, wild-same}
use Rattle.cluster_rounds.proofs.WildClients.{fetched-posted}

pub returns-in-Whole-clause-ok : goal.returns-in-Whole-clause-ok
returns-in-Whole-clause-ok g c =
    let F : Fetched → Type 0 = λ fetched. IsFetched c.args.place c.args.world.now.net (Some fetched) in
    on_ok_weaker c.deliver_message-done.result ((delivers-fetched g.S.Serving.kit g.met.S.Serving.laws) c.args.place c.in-Whole.message c.args.world.now c.deliver_message-done.new.world c.args.lines.now.items c.deliver_message-done.new.lines.items (subst F c.in-Whole.is c.requires.fetched)) c.deliver_message-done.ensures.ok

pub returns-in-Whole-clause-err : goal.returns-in-Whole-clause-err
returns-in-Whole-clause-err g c =
    let F : Fetched → Type 0 = λ fetched. IsFetched c.args.place c.args.world.now.net (Some fetched) in
    on_err_weaker c.deliver_message-done.result ((delivery-breaks g.S.Serving.kit g.met.S.Serving.laws) c.args.place c.in-Whole.message c.args.world.now c.deliver_message-done.new.world (subst F c.in-Whole.is c.requires.fetched)) c.deliver_message-done.ensures.err

pub returns-in-Bad-clause-err : goal.returns-in-Bad-clause-err
returns-in-Bad-clause-err g c = on-err c.put_ignored.result ((same-breaks g.S.Serving.kit g.met.S.Serving.laws) c.args.world.now)

pub returns-in-Whole-clause-wild : goal.returns-in-Whole-clause-wild
returns-in-Whole-clause-wild g c =
    let F : Fetched → Type 0 = λ fetched. IsFetched c.args.place c.args.world.now.net (Some fetched) in
    on_ok_weaker c.deliver_message-done.result (λ (keeps : (KeepsWild g.S.Serving.kit) (Posted c.in-Whole.message) c.args.world.now c.deliver_message-done.new.world). (λ disks seen wild so. keeps disks seen wild (fetched-posted c.args.place c.in-Whole.message c.args.world.now seen (subst F c.in-Whole.is c.requires.fetched) wild.shows))) c.deliver_message-done.ensures.wild

pub returns-in-Bad-clause-wild : goal.returns-in-Bad-clause-wild
returns-in-Bad-clause-wild g c = on-ok c.put_ignored.result (λ disks seen wild so. (wild-same g.S.Serving.kit) seen c.args.world.now disks wild)
