use Rattle.std.proofs.Common.{w64}
use Rattle.std.proofs.lemmas.Int.{to_z-of_z}
use Rattle.script_language.specs.Printing.{call_text}
use Rattle.script_printer.proofs.Chain.{chained, chained_last}
use Rattle.script_printer.proofs.asks.put_reader.Goals as goal

pub returns : goal.returns
unfolding call_text
returns c =
    rw (← c.from.ensures, ← to_z-of_z w64 c.args.value c.ranges.value)
    (chained c.args.out.now.items _ _ _ _ c.in_ok-put.ensures
    (chained c.put.new.out.items _ _ _ _ c.in_ok-put_number.ensures
    (chained c.put_number.new.out.items _ _ _ _ c.in_ok-put-2.ensures
    (chained c.put-2.new.out.items _ _ _ _ c.in_ok-put_signed.ensures
    (chained_last c.put_signed.new.out.items _ _ c.in_ok-put_filters.ensures)))))
