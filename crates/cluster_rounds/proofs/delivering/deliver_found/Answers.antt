use Rattle.std.proofs.Common.{Option, subst}
use Rattle.cluster_clients.specs.declared.fetching.Fetched.{Fetched}
use Rattle.cluster_clients.specs.Spelled.{IsFetched}
use Rattle.cluster_rounds.proofs.FetchSteps.{delivers-nothing}
use Rattle.cluster_rounds.proofs.delivering.deliver_found.Goals as goal
use Rattle.cluster_rounds.proofs.WildSteps.{wild-same}

pub returns-in-None-clause-ok : goal.returns-in-None-clause-ok
returns-in-None-clause-ok g c =
    let F : Option Fetched → Type 0 = λ found. IsFetched c.args.place c.args.world.now.net found in
    (delivers-nothing g.S.Serving.kit g.met.S.Serving.laws) c.args.place c.args.world.now c.args.lines.now.items (subst F c.in-None.is c.requires.fetched)

pub deliver_fetched-requires : goal.deliver_fetched-requires
deliver_fetched-requires g c =
    let F : Option Fetched → Type 0 = λ found. IsFetched c.args.place c.args.world.now.net found in
    record { state = c.requires.state; fetched = subst F c.in-Some.is c.requires.fetched }

pub returns-in-None-clause-wild : goal.returns-in-None-clause-wild
returns-in-None-clause-wild g c = λ disks seen wild so. (wild-same g.S.Serving.kit) seen c.args.world.now disks wild
