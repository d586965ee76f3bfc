use Rattle.std.proofs.Common.{sym, nat_lt, rules, arith}
use Rattle.std.proofs.lemmas.List.Sorted.{IsPartitionPoint-from_clause, IsPartitionedBy-ltb}
use Rattle.service_table.specs.declared.caller.ClientWindow.{ClientWindow}
use Rattle.service_parts.proofs.ClientPlaces.{point-is, own-place, non-decreasing}
use Rattle.service_parts.proofs.windows.place_of.Goals as goal

pub returns : goal.returns
returns c =
    let test = λ (x : ClientWindow). nat_lt x.client c.args.client in
    let parted = IsPartitionedBy-ltb (λ (x : ClientWindow). x.client) c.args.callers.now c.args.client (non-decreasing (λ (x : ClientWindow). x.client) c.args.callers.now c.requires) in
    let point = IsPartitionPoint-from_clause test _ _ c.partition_point.ensures.partitioned parted (λ a r q k. search rules) in
    point-is test c.args.callers.now c.partition_point.result c.partition_point.ensures.bound point

pub returns-then-is_for : goal.returns-then-is_for
returns-then-is_for c =
    own-place (λ (x : ClientWindow). x.client) c.args.client c.args.callers.now c.saturating_sub-place.result c.index-callers-place.result c.requires (omega (arith, c.if-place-callers.true)) c.index-callers-place.is (sym c.if-is_for.ensures)
