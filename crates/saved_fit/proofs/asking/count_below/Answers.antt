use Rattle.std.proofs.Common.{nat_lt, rules}
use Rattle.std.proofs.lemmas.List.Sorted.{IsPartitionPoint-from_clause, IsPartitionedBy-ltb}
use Rattle.calls.specs.declared.saved.SavedWindow.{SavedWindow}
use Rattle.saved_fit.proofs.WindowLaws.{never-falling}
use Rattle.saved_fit.proofs.asking.count_below.Goals as goal

pub returns-clause-cut : goal.returns-clause-cut
returns-clause-cut c =
    let parted = IsPartitionedBy-ltb (λ (window : SavedWindow). window.client) c.args.windows.now c.args.client (never-falling c.args.windows.now c.requires) in
    IsPartitionPoint-from_clause (λ (window : SavedWindow). nat_lt window.client c.args.client) _ _ c.partition_point.ensures.partitioned parted (λ a r q k. search rules)
