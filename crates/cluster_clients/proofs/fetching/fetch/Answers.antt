use Rattle.std.proofs.Common.{sym}
use Rattle.cluster_clients.proofs.ReadSteps.{fetches-none, fetches-some}
use Rattle.cluster_clients.proofs.fetching.fetch.Goals as goal

pub returns-in-None : goal.returns-in-None
returns-in-None c = fetches-none c.args.place c.args.net.now (sym c.in-None.ensures)

pub returns-in-Ok : goal.returns-in-Ok
returns-in-Ok c =
    fetches-some c.law_of_spellings.ensures c.args.place c.in-Ok.fetched c.in-Some.bytes.now c.args.net.now c.in-Ok.ensures (sym c.in-Some.ensures)
