use Rattle.std.proofs.Common.{pos, arith}
use Rattle.alarm_view.specs.declared.place.Place.{Place}
use Rattle.alarm_view.proofs.Searching.{stands-at, none-narrow, none-above, oldest-found}
use Rattle.alarm_view.proofs.search.oldest_within.Goals as goal

abbrev no_place : Place
no_place = record { time = pos 0; id = 0; number = 0 }

pub asked_at-requires-clause-stands : goal.asked_at-requires-clause-stands
asked_at-requires-clause-stands c =
    stands-at c.args.alarms.now.items c.args.order.now c.requires.indexed c.args.low c.args.high c.args.filters.now c.loop-place.place no_place (omega (arith, c.requires.within, c.loop-place-test.true))

pub returns-in-Some : goal.returns-in-Some
returns-in-Some c =
    oldest-found c.args.alarms.now.items c.args.order.now c.requires.indexed c.args.low c.args.high c.requires.within c.args.filters.now c.loop-place.place no_place (omega arith) (omega (arith, c.loop-place-test.true)) c.in-Some.alarm.now c.in-Some.ensures c.loop-place.invariant

pub loop-place-preserved : goal.loop-place-preserved
loop-place-preserved c =
    none-above c.args.alarms.now.items c.args.order.now c.requires.indexed c.args.low c.loop-place.place c.args.filters.now (omega (arith, c.requires.within, c.loop-place-test.true)) no_place c.loop-place.invariant c.in_default.ensures _ (omega arith)

pub returns : goal.returns
returns c =
    none-narrow c.args.alarms.now.items c.args.order.now c.requires.indexed c.args.low c.args.high c.args.filters.now c.loop-place.place (omega (arith, c.loop-place-test.false)) c.loop-place.invariant
