use Rattle.std.proofs.Common.{rules}
use Rattle.std.proofs.lemmas.List.Sorted.{IsPartitionPoint-from_clause}
use Rattle.alarm_view.specs.declared.place.Place.{Place}
use Rattle.alarm_view.specs.Inside.{point_in, is_below}
use Rattle.alarm_view.proofs.Ranging.{cut-parts}
use Rattle.alarm_view.proofs.search.count_below.Goals as goal

pub returns-clause-point : goal.returns-clause-point
returns-clause-point c =
    IsPartitionPoint-from_clause (λ (x : Place). is_below c.args.cut (point_in x)) _ _ c.partition_point.ensures.partitioned (cut-parts c.args.cut c.args.order.now c.requires) (λ a r q k. search rules)
