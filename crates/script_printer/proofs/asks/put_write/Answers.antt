use Rattle.std.proofs.Common.{w64}
use Rattle.std.proofs.lemmas.Int.{to_z-of_z}
use Rattle.script_language.specs.Printing.{call_text}
use Rattle.script_printer.proofs.Chain.{chained, chained_last}
use Rattle.script_printer.proofs.asks.put_write.Goals as goal

pub returns : goal.returns
unfolding call_text
returns c =
    rw (← c.from.ensures, ← c.as_slice.ensures.bytes, ← to_z-of_z w64 c.args.time c.ranges.time)
    (chained c.args.out.now.items _ _ _ _ c.in_ok-put.ensures
    (chained c.put.new.out.items _ _ _ _ c.in_ok-put_stream.ensures
    (chained c.put_stream.new.out.items _ _ _ _ c.in_ok-put-2.ensures
    (chained c.put-2.new.out.items _ _ _ _ c.in_ok-put_number.ensures
    (chained c.put_number.new.out.items _ _ _ _ c.in_ok-put-3.ensures
    (chained c.put-3.new.out.items _ _ _ _ c.in_ok-put_number-2.ensures
    (chained c.put_number-2.new.out.items _ _ _ _ c.in_ok-put_known_time.ensures
    (chained c.put_known_time.new.out.items _ _ _ _ c.in_ok-put_header.ensures
    (chained c.put_header.new.out.items _ _ _ _ c.in_ok-put-4.ensures
    (chained_last c.put-4.new.out.items _ _ c.in_ok-put_quoted.ensures))))))))))
