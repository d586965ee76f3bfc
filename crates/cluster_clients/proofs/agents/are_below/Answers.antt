use Rattle.std.proofs.Common.{nat_lt, ap, sym, ◌∙◌}
use Rattle.cluster_clients.proofs.Places.{past-cut}
use Rattle.cluster_clients.proofs.agents.are_below.Goals as goal

pub returns-in-Some : goal.returns-in-Some
returns-in-Some c =
    λ less rising. past-cut c.args.client c.args.agents.now c.in-Some.last.now c.in-Some.ensures.value (ap (λ n. nat_lt n c.args.client) (sym c.client.ensures) ∙ less) rising
