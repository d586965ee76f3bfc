use Rattle.std.proofs.Common.{ℕ, suc, ◌-◌, ◌≡◌, pos, subst, sym, arith}
use Rattle.alarm_view.specs.declared.place.Place.{Place}
use Rattle.alarm_view.specs.Alarms.{notifications}
use Rattle.alarm_view.specs.Nearest.{IsNone}
use Rattle.alarm_view.specs.Inside.{IsAskedWithin}
use Rattle.alarm_view.proofs.Searching.{stands-at, none-below, youngest-found}
use Rattle.alarm_view.proofs.search.youngest_within.Goals as goal

abbrev no_place : Place
no_place = record { time = pos 0; id = 0; number = 0 }

pub asked_at-requires-clause-stands : goal.asked_at-requires-clause-stands
asked_at-requires-clause-stands c =
    stands-at c.args.alarms.now.items c.args.order.now c.requires.indexed c.args.low c.args.high c.args.filters.now (c.loop-left.left - 1) no_place (omega (arith, c.requires.within, c.loop-left.invariant.0, c.loop-left-test.true))

pub returns-in-Some : goal.returns-in-Some
returns-in-Some c =
    let next : suc (c.loop-left.left - 1) ≡ c.loop-left.left = omega (arith, c.loop-left-test.true) in
    let P : ℕ → Type 0 = λ k. IsNone (IsAskedWithin c.args.order.now k c.args.high c.args.filters.now) (notifications c.args.alarms.now.items) in
    youngest-found c.args.alarms.now.items c.args.order.now c.requires.indexed c.args.low c.args.high c.requires.within c.args.filters.now (c.loop-left.left - 1) no_place (omega (arith, c.loop-left-test.true)) (omega (arith, c.loop-left.invariant.0, c.loop-left-test.true)) c.in-Some.alarm.now c.in-Some.ensures (subst P (sym next) c.loop-left.invariant.1)

pub loop-left-preserved : goal.loop-left-preserved
loop-left-preserved c =
    let next : suc (c.loop-left.left - 1) ≡ c.loop-left.left = omega (arith, c.loop-left-test.true) in
    (omega (arith, c.loop-left.invariant.0), none-below c.args.alarms.now.items c.args.order.now c.requires.indexed c.loop-left.left c.args.high c.args.filters.now no_place (c.loop-left.left - 1) next c.loop-left.invariant.1 c.in_default.ensures)

pub returns : goal.returns
returns c = λ alarm stands asked.
    c.loop-left.invariant.1 alarm stands (record {
      place = asked.place;
      from = let from = asked.from in omega (arith, c.loop-left-test.false);
      below = asked.below;
      placed = asked.placed;
      matches = asked.matches;
    })
