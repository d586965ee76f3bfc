use Rattle.std.proofs.Common.{◌≡◌, ◌<◌, nat_lt, true, false, ap, sym, subst, ◌∙◌, arith, rules, length}
use Rattle.std.specs.List.Sorted.{IsPartitionPoint}
use Rattle.std.proofs.lemmas.List.Sorted.{IsPartitionPoint-from_clause, IsPartitionedBy-ltb}
use Rattle.client_set.specs.Members.{Stands}
use Rattle.alarm_view.specs.declared.alarm.KeptAlarm.{KeptAlarm}
use Rattle.alarm_view.proofs.Listing.{Stands-get_or}
use Rattle.alarm_view.proofs.Searching.{ids-non_decreasing, lacks-behind, lacks-other}
use Rattle.alarm_view.proofs.search.of_id.Goals as goal
use Rattle.alarm_view.proofs.search.of_id.Goals.{After-partition_point-place}

-- the ids below the one that is asked for reach to the place
point : (c : After-partition_point-place) → IsPartitionPoint (λ (x : KeptAlarm). nat_lt x.notification.id c.args.id ≡ true) (λ (x : KeptAlarm). nat_lt x.notification.id c.args.id ≡ false) c.args.alarms.now.items c.partition_point-place.result
point c =
    let parted = IsPartitionedBy-ltb (λ (x : KeptAlarm). x.notification.id) c.args.alarms.now.items c.args.id (ids-non_decreasing c.args.alarms.now.items c.requires) in
    IsPartitionPoint-from_clause (λ (x : KeptAlarm). nat_lt x.notification.id c.args.id) _ _ c.partition_point-place.ensures.partitioned parted (λ a r q k. search rules)

pub returns-then-place-len : goal.returns-then-place-len
returns-then-place-len c =
    lacks-behind c.args.id c.args.alarms.now.items c.requires c.partition_point-place.result (point (goal.at.returns-then-place-len c).After-partition_point-place) (omega (arith, c.len.ensures, c.args.alarms.now.ok.0, c.if-place-len.true))

pub returns-then-found-id : goal.returns-then-found-id
returns-then-found-id c =
    let within : c.partition_point-place.result < length c.args.alarms.now.items = omega (arith, c.len.ensures, c.args.alarms.now.ok.0, c.if-place-len.false) in
    lacks-other c.args.id c.args.alarms.now.items c.requires c.partition_point-place.result (point (goal.at.returns-then-found-id c).After-partition_point-place) c.index-alarm.result.now within (λ same. c.if-found-id.true (c.id_of-found.ensures ∙ ap (λ (x : KeptAlarm). x.notification.id) c.index-alarm.ensures ∙ same))

pub returns : goal.returns
returns c =
    let within : c.partition_point-place.result < length c.args.alarms.now.items = omega (arith, c.len.ensures, c.args.alarms.now.ok.0, c.if-place-len.false) in
    let P : KeptAlarm → Type 0 = λ x. Stands x c.args.alarms.now.items in
    record {
      stands = subst P (sym c.index-alarm.ensures) (Stands-get_or c.args.alarms.now.items c.partition_point-place.result c.index-alarm.result.now within);
      same = sym c.id_of-found.ensures ∙ c.if-found-id.false;
    }
