use Rattle.script_language.specs.Printing.{heading_text_by}
use Rattle.script_printer.proofs.Chain.{chained, chained_last}
use Rattle.script_printer.proofs.notes.put_heading.Goals as goal

pub returns : goal.returns
unfolding heading_text_by
returns c =
    rw (← c.as_slice.ensures.bytes, ← c.as_slice-2.ensures.bytes, ← c.as_slice-3.ensures, ← c.as_slice-4.ensures.bytes, ← c.as_slice-5.ensures)
    (chained c.args.out.now.items _ _ _ _ c.in_ok-put_labelled.ensures
    (chained c.put_labelled.new.out.items _ _ _ _ c.in_ok-put_labelled-2.ensures
    (chained c.put_labelled-2.new.out.items _ _ _ _ c.in_ok-put_labelled-3.ensures
    (chained c.put_labelled-3.new.out.items _ _ _ _ c.in_ok-put_labelled-4.ensures
    (chained c.put_labelled-4.new.out.items _ _ _ _ c.in_ok-put_time.ensures
    (chained c.put_time.new.out.items _ _ _ _ c.in_ok-put_list.ensures
    (chained c.put_list.new.out.items _ _ _ _ c.in_ok-put_labelled-5.ensures
    (chained_last c.put_labelled-5.new.out.items _ _ c.in_ok-put_list-2.ensures))))))))
