use Rattle.ais_values.proofs.Basics.{OnErr-from}
use Rattle.script_printer.proofs.Chain.{chained}
use Rattle.event_text.proofs.Chain.{none_added, first-added}
use Rattle.event_text.proofs.client_lines.put_mask.Goals as goal

pub returns-in_err-put_done-clause-err : goal.returns-in_err-put_done-clause-err
returns-in_err-put_done-clause-err c =
    let after = c.put_done.new.lines.items in
    OnErr-from c.from_residual-in_err-put_done.result
    (first-added c.args.lines.now.items c.put_filter.new.lines.items after _ _ c.in_ok-put_filter.ensures.ok
    (none_added _ _ after c.in_err-put_done.ensures.err))

pub returns-clause-ok : goal.returns-clause-ok
returns-clause-ok c =
    chained c.args.lines.now.items c.put_filter.new.lines.items c.put_done.new.lines.items _ _ c.in_ok-put_filter.ensures.ok c.in_ok-put_done.ensures.ok
