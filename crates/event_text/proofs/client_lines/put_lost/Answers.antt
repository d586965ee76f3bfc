use Rattle.event_text.specs.Texts.{lost_lines}
use Rattle.ais_values.proofs.Basics.{OnErr-from}
use Rattle.script_printer.proofs.Chain.{chained}
use Rattle.event_text.proofs.Chain.{none_added, first-added}
use Rattle.event_text.proofs.client_lines.put_lost.Goals as goal

pub returns-in_err-put_lost_of-2-clause-err : goal.returns-in_err-put_lost_of-2-clause-err
unfolding lost_lines
returns-in_err-put_lost_of-2-clause-err c =
    let before = c.args.lines.now.items in
    let after = c.put_lost_of-2.new.lines.items in
    OnErr-from c.from_residual-in_err-put_lost_of-2.result
    (first-added before c.put_lost_of.new.lines.items after _ _ c.in_ok-put_lost_of.ensures.ok
    (none_added _ _ after c.in_err-put_lost_of-2.ensures.err))

pub returns-in_err-put_lost_of-3-clause-err : goal.returns-in_err-put_lost_of-3-clause-err
unfolding lost_lines
returns-in_err-put_lost_of-3-clause-err c =
    let before = c.args.lines.now.items in
    let after = c.put_lost_of-3.new.lines.items in
    OnErr-from c.from_residual-in_err-put_lost_of-3.result
    (first-added before c.put_lost_of.new.lines.items after _ _ c.in_ok-put_lost_of.ensures.ok
    (first-added _ c.put_lost_of-2.new.lines.items after _ _ c.in_ok-put_lost_of-2.ensures.ok
    (none_added _ _ after c.in_err-put_lost_of-3.ensures.err)))

pub returns-in_err-put_lost_of-4-clause-err : goal.returns-in_err-put_lost_of-4-clause-err
unfolding lost_lines
returns-in_err-put_lost_of-4-clause-err c =
    let before = c.args.lines.now.items in
    let after = c.put_lost_of-4.new.lines.items in
    OnErr-from c.from_residual-in_err-put_lost_of-4.result
    (first-added before c.put_lost_of.new.lines.items after _ _ c.in_ok-put_lost_of.ensures.ok
    (first-added _ c.put_lost_of-2.new.lines.items after _ _ c.in_ok-put_lost_of-2.ensures.ok
    (first-added _ c.put_lost_of-3.new.lines.items after _ _ c.in_ok-put_lost_of-3.ensures.ok
    (none_added _ _ after c.in_err-put_lost_of-4.ensures.err))))

pub returns-clause-ok : goal.returns-clause-ok
unfolding lost_lines
returns-clause-ok c =
    let after = c.put_lost_of-5.new.lines.items in
    chained c.args.lines.now.items c.put_lost_of.new.lines.items after _ _ c.in_ok-put_lost_of.ensures.ok
    (chained c.put_lost_of.new.lines.items c.put_lost_of-2.new.lines.items after _ _ c.in_ok-put_lost_of-2.ensures.ok
    (chained c.put_lost_of-2.new.lines.items c.put_lost_of-3.new.lines.items after _ _ c.in_ok-put_lost_of-3.ensures.ok
    (chained c.put_lost_of-3.new.lines.items c.put_lost_of-4.new.lines.items after _ _ c.in_ok-put_lost_of-4.ensures.ok c.in_ok-put_lost_of-5.ensures.ok)))
