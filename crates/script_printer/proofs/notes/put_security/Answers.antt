use Rattle.script_language.specs.Printing.{body_text}
use Rattle.script_printer.proofs.Chain.{chained, chained_last}
use Rattle.script_printer.proofs.notes.put_security.Goals as goal

pub returns : goal.returns
unfolding body_text
returns c =
    rw (← c.from.ensures, ← c.from-2.ensures)
    (chained c.args.out.now.items _ _ _ _ c.in_ok-put_labelled.ensures
    (chained c.put_labelled.new.out.items _ _ _ _ c.in_ok-put_labelled-2.ensures
    (chained c.put_labelled-2.new.out.items _ _ _ _ c.in_ok-put.ensures
    (chained c.put.new.out.items _ _ _ _ c.in_ok-put_value.ensures
    (chained c.put_value.new.out.items _ _ _ _ c.in_ok-put-2.ensures
    (chained c.put-2.new.out.items _ _ _ _ c.in_ok-put_value-2.ensures
    (chained c.put_value-2.new.out.items _ _ _ _ c.in_ok-put-3.ensures
    (chained_last c.put-3.new.out.items _ _ c.in_ok-put_value-3.ensures))))))))
