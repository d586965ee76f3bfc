use Rattle.script_language.specs.Printing.{attrs_text}
use Rattle.script_printer.proofs.Chain.{chained, chained_last}
use Rattle.script_printer.proofs.streams.put_attrs.Goals as goal

pub returns : goal.returns
unfolding attrs_text
returns c =
    rw (← c.as_slice.ensures.bytes, ← c.as_slice-2.ensures.bytes, ← c.from.ensures, ← c.from-2.ensures, ← c.full_word.ensures, ← c.from-3.ensures, ← c.as_slice-3.ensures.bytes)
    (chained c.args.out.now.items _ _ _ _ c.in_ok-put_quoted.ensures
    (chained c.put_quoted.new.out.items _ _ _ _ c.in_ok-put_labelled.ensures
    (chained c.put_labelled.new.out.items _ _ _ _ c.in_ok-put_labelled-2.ensures
    (chained c.put_labelled-2.new.out.items _ _ _ _ c.in_ok-put_labelled-3.ensures
    (chained c.put_labelled-3.new.out.items _ _ _ _ c.in_ok-put_labelled-4.ensures
    (chained c.put_labelled-4.new.out.items _ _ _ _ c.in_ok-put.ensures
    (chained c.put.new.out.items _ _ _ _ c.in_ok-put-2.ensures
    (chained c.put-2.new.out.items _ _ _ _ c.in_ok-put_labelled-5.ensures
    (chained_last c.put_labelled-5.new.out.items _ _ c.in_ok-put_format.ensures)))))))))
