use Rattle.std.proofs.Common.{nat_lt, rules, arith}
use Rattle.std.proofs.lemmas.List.Sorted.{IsPartitionPoint-from_clause, IsPartitionedBy-ltb}
use Rattle.client_agent.specs.Seen.{Seen}
use Rattle.cluster_clients.proofs.Places.{never-falling, own-cut}
use Rattle.cluster_clients.proofs.agents.count_below.Goals as goal

pub returns-clause-cut : goal.returns-clause-cut
returns-clause-cut c =
    λ rising.
    let parted = IsPartitionedBy-ltb (λ (one : Seen). one.client) c.args.agents.now c.args.client (never-falling c.args.agents.now rising) in
    IsPartitionPoint-from_clause (λ (one : Seen). nat_lt one.client c.args.client) _ _ c.partition_point.ensures.partitioned parted (λ a r q k. search rules)

pub returns-then-client-clause-cut : goal.returns-then-client-clause-cut
returns-then-client-clause-cut c =
    own-cut c.args.client c.saturating_sub-place.result c.args.agents.now c.index-agents-place.result (omega (arith, c.if-place-agents.true)) c.index-agents-place.is (omega (arith, c.if-client.true, c.client.ensures))
