use Rattle.std.proofs.Common.{rules}
use Rattle.std.specs.Ordering.{is_lt, nat_cmp}
use Rattle.std.specs.Cmp.Lexicographic.{slice_cmp, nat_list_cmp_total}
use Rattle.std.proofs.lemmas.List.Sorted.{IsPartitionPoint-from_clause}
use Rattle.disk_model.proofs.Places.{place_is, rising_partitioned}
use Rattle.disk_model.proofs.Shelving.{names_differ}
use Rattle.disk_model.proofs.entries.place_in.Goals as goal

pub returns-clause-place : goal.returns-clause-place
returns-clause-place c =
    let rising = rising_partitioned nat_list_cmp_total names_differ c.args.name.now c.args.entries.now c.requires in
    place_is nat_list_cmp_total names_differ c.args.name.now c.args.entries.now _ c.partition_point.ensures.bound
    (IsPartitionPoint-from_clause (λ e. is_lt (slice_cmp nat_cmp e.0 c.args.name.now)) _ _ c.partition_point.ensures.partitioned rising (λ a r f called. search rules))
