use Rattle.std.proofs.Common.{sym, subst, ◌∙◌}
use Rattle.alarm_view.specs.Alarms.{notifications}
use Rattle.alarm_view.specs.Inside.{point_in, StandsAsked}
use Rattle.alarm_view.proofs.Searching.{not-lacking, asked-here, none-asked}
use Rattle.alarm_view.proofs.search.asked_at.Goals as goal

pub returns-in_default : goal.returns-in_default
returns-in_default c =
    absurd (not-lacking c.args.alarms.now.items c.requires.order c.args.place.now c.requires.stands c.args.filters.now c.in_default.ensures)

pub returns-then-asks_for : goal.returns-then-asks_for
returns-then-asks_for c =
    subst (StandsAsked (notifications c.args.alarms.now.items) (point_in c.args.place.now) c.args.filters.now) (sym c.get.ensures)
    (asked-here c.args.alarms.now.items c.requires.order c.args.place.now c.requires.stands c.args.filters.now c.in-Some.alarm.now c.in-Some.ensures (sym c.asks_for.ensures ∙ c.if-asks_for.true))

pub returns-else-asks_for : goal.returns-else-asks_for
returns-else-asks_for c =
    none-asked c.args.alarms.now.items c.requires.order c.args.place.now c.requires.stands c.args.filters.now c.in-Some.alarm.now c.in-Some.ensures (sym c.asks_for.ensures ∙ c.if-asks_for.false)
