use Rattle.std.proofs.Common.{◌≡◌, ap, sym, ◌∙◌, drop, arith}
use Rattle.alarm_view.specs.Alarms.{from_record}
use Rattle.alarm_view.proofs.Indexing.{early, early-within, from_record-drop, order-dropped}
use Rattle.alarm_view.proofs.changing.drop_early.Goals as goal
use Rattle.alarm_view.proofs.changing.drop_early.Goals.{After-remove_front}

pub remove_front-requires : goal.remove_front-requires
remove_front-requires c =
    let most = early-within c.args.number c.args.alarms.now.items in
    omega (arith, c.count_early-count.ensures, most, c.args.alarms.now.ok.0)

-- what is left where some are dropped
left : (c : After-remove_front) → c.remove_front.new.items.items ≡ from_record c.args.number c.args.alarms.now.items
left c =
    c.remove_front.ensures.items ∙ ap (λ k. drop k c.args.alarms.now.items) c.count_early-count.ensures ∙ sym (from_record-drop c.args.number c.args.alarms.now.items c.requires.in_order)

pub returns-then-count-gt0-clause-alarms : goal.returns-then-count-gt0-clause-alarms
returns-then-count-gt0-clause-alarms c =
    left (goal.at.returns-then-count-gt0-clause-alarms c).After-remove_front

pub returns-then-count-gt0-clause-indexed : goal.returns-then-count-gt0-clause-indexed
returns-then-count-gt0-clause-indexed c =
    order-dropped c.args.alarms.now.items c.args.order.now.items c.requires c.args.number _ _ (left (goal.at.returns-then-count-gt0-clause-indexed c).After-remove_front) c.drop_early_places.ensures

pub returns-else-count-gt0-clause-alarms : goal.returns-else-count-gt0-clause-alarms
returns-else-count-gt0-clause-alarms c =
    let none : early c.args.number c.args.alarms.now.items ≡ 0 = omega (arith, c.count_early-count.ensures, c.if-count-gt0.false) in
    sym (from_record-drop c.args.number c.args.alarms.now.items c.requires.in_order ∙ ap (λ k. drop k c.args.alarms.now.items) none)
