use Rattle.std.proofs.Common.{[], ◌++◌, ap, sym, ◌∙◌, subst, append_assoc}
use Rattle.calls.specs.History.{Pushed}
use Rattle.lone_server.specs.Restarting.{TakesAll}
use Rattle.lone_server.proofs.BackSteps.{takes-more, takes-none}
use Rattle.lone_server.proofs.restarting.take_found.Goals as goal

pub loop-entry-init : goal.loop-entry-init
loop-entry-init c =
    let gives = c.into_iter-entry-iterator.ensures.into_iter_gives in
    let lines = c.args.lines.now.items in
    let none = subst (λ (history : Pushed). TakesAll c.args.known [] history.entries lines lines) (sym c.new-history.ensures) (takes-none c.args.known lines) in
    (tt, tt, gives.0 ∙ c.into_vec-entry-items.ensures, none)

pub loop-entry-preserved : goal.loop-entry-preserved
loop-entry-preserved c =
    let now = c.loop-entry.invariant in
    let steps = c.in-Some.ensures.steps in (
      tt,
      tt,
      append_assoc c.loop-entry.yielded _ _ ∙ ap (λ rest. c.loop-entry.yielded ++ rest) (sym steps.0) ∙ now.2,
      takes-more c.args.known c.loop-entry.yielded c.in-Some.entry c.loop-entry.history.entries c.take_one.new.history.entries _ c.loop-entry.lines.items c.take_one.new.lines.items now.3 c.in_ok-take_one.ensures,
    )
