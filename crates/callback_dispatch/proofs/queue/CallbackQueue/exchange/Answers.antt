use Rattle.std.proofs.Common.{rules}
use Rattle.crossbeam_queue.specs.Passes.{view}
use Rattle.callback_dispatch.proofs.Steps.{learns}
use Rattle.callback_dispatch.proofs.Looks.{exactly-told}
use Rattle.callback_dispatch.proofs.Joins.{forks-fed, forks-taken, merges-told}
use Rattle.callback_dispatch.proofs.queue.CallbackQueue.exchange.Goals as goal

pub another-note-requires-clause-rule : goal.another-note-requires-clause-rule
another-note-requires-clause-rule c = forks-taken _ _

pub absorb-requires-clause-rule : goal.absorb-requires-clause-rule
absorb-requires-clause-rule c = merges-told _ _ _ _ (search rules)

pub learn_as-requires-clause-rule : goal.learn_as-requires-clause-rule
learn_as-requires-clause-rule c = learns _ _

pub another-note-requires-2-clause-rule : goal.another-note-requires-2-clause-rule
another-note-requires-2-clause-rule c = forks-fed _ _ (search rules)

pub absorb-requires-2-clause-rule : goal.absorb-requires-2-clause-rule
absorb-requires-2-clause-rule c = merges-told _ _ _ _ (search rules)

pub learn_as-requires-2-clause-rule : goal.learn_as-requires-2-clause-rule
learn_as-requires-2-clause-rule c = learns _ _

pub returns-clause-exact : goal.returns-clause-exact
returns-clause-exact c whole =
    let fed = (view c.another-note-2.new.pass).fed in
    let count = (view c.another-note-2.new.pass).count in
    exactly-told (view c.another-note.new.pass) (view c.another-note-2.result) (view c.absorb-2.new.pass) (view c.learn_as-2.new.pass) fed count c.learn_as-2.ensures.rule.0 c.absorb-2.ensures.rule c.learn_as-2.ensures.queue.1 c.learn_as-2.ensures.rule.1
    (search rules) (search rules) (search rules) (search rules) (search rules)
