use Rattle.std.proofs.Common.{Option, Some, ap, subst, sym, ◌∙◌}
use Rattle.std.specs.Prelude.{not}
use Rattle.cluster_clients.specs.declared.fetching.Fetched.{Fetched}
use Rattle.cluster_clients.specs.Spelled.{IsFetched}
use Rattle.cold_servers.specs.Ignoring.{is_asking}
use Rattle.cold_servers.proofs.downing.is_asking.Goals as goal

pub returns-in-None : goal.returns-in-None
returns-in-None c = λ postings spelled.
    let F : Option Fetched → Type 0 = λ found. IsFetched c.args.place c.args.net.now found in
    let none = subst F c.in-None.is c.in-Ok.ensures in
    ap is_asking (sym (none postings spelled))

pub returns-in-Whole : goal.returns-in-Whole
returns-in-Whole c = λ postings spelled.
    let F : Option Fetched → Type 0 = λ found. IsFetched c.args.place c.args.net.now found in
    let S : Fetched → Type 0 = λ fetched. IsFetched c.args.place c.args.net.now (Some fetched) in
    let whole = subst S c.in-Whole.is (subst F c.in-Some.is c.in-Ok.ensures) in
    ap not c.is_for_agent-asking.ensures ∙ ap is_asking (sym (whole.1 postings spelled))

pub returns-in-Bad : goal.returns-in-Bad
returns-in-Bad c = λ postings spelled.
    let F : Option Fetched → Type 0 = λ found. IsFetched c.args.place c.args.net.now found in
    let S : Fetched → Type 0 = λ fetched. IsFetched c.args.place c.args.net.now (Some fetched) in
    let bad = subst S c.in-Bad.is (subst F c.in-Some.is c.in-Ok.ensures) in
    ap is_asking (sym (bad postings spelled).1)
