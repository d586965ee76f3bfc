use Rattle.std.proofs.Common.{w64, sym, subst, ◌∙◌}
use Rattle.std.proofs.lemmas.Int.{to_z-of_z}
use Rattle.alarm_view.specs.declared.mode.Direction.TheVariants.{Younger}
use Rattle.alarm_view.specs.declared.mode.SearchMode.TheVariants.{NotificationId}
use Rattle.alarm_view.specs.Alarms.{notifications}
use Rattle.alarm_view.specs.Nearest.{IsNearest, CanStart}
use Rattle.alarm_view.proofs.Searching.{lacks-start, is-start, no-start}
use Rattle.alarm_view.proofs.search.start_of_id.Goals as goal

pub returns-in_default-of_id : goal.returns-in_default-of_id
returns-in_default-of_id c =
    lacks-start c.args.value c.args.filters.now c.args.alarms.now.items c.in-Some.id (c.in-Some.ensures ∙ to_z-of_z w64 c.args.value c.ranges.value) c.in_default-of_id.ensures

pub returns-then-asks_for : goal.returns-then-asks_for
returns-then-asks_for c =
    subst (IsNearest Younger (CanStart NotificationId c.args.value c.args.filters.now) (notifications c.args.alarms.now.items)) (sym c.get.ensures)
    (is-start c.args.value c.args.filters.now c.args.alarms.now.items c.in-Some.id (c.in-Some.ensures ∙ to_z-of_z w64 c.args.value c.ranges.value) c.requires c.in-Some-of_id.alarm.now c.in-Some-of_id.ensures (sym c.asks_for.ensures ∙ c.if-asks_for.true))

pub returns-else-asks_for : goal.returns-else-asks_for
returns-else-asks_for c =
    no-start c.args.value c.args.filters.now c.args.alarms.now.items c.in-Some.id (c.in-Some.ensures ∙ to_z-of_z w64 c.args.value c.ranges.value) c.requires c.in-Some-of_id.alarm.now c.in-Some-of_id.ensures (sym c.asks_for.ensures ∙ c.if-asks_for.false)
