use Rattle.std.proofs.Common.{w64}
use Rattle.std.proofs.lemmas.Int.{to_z-of_z}
use Rattle.script_language.specs.Printing.{header_text}
use Rattle.script_printer.proofs.Chain.{chained, chained_last}
use Rattle.script_printer.proofs.streams.put_notified.Goals as goal

pub returns : goal.returns
unfolding header_text
returns c =
    rw (← to_z-of_z w64 c.args.event_time c.ranges.event_time)
    (chained c.args.out.now.items _ _ _ _ c.in_ok-put_labelled.ensures
    (chained c.put_labelled.new.out.items _ _ _ _ c.in_ok-put_labelled-2.ensures
    (chained c.put_labelled-2.new.out.items _ _ _ _ c.in_ok-put_labelled-3.ensures
    (chained c.put_labelled-3.new.out.items _ _ _ _ c.in_ok-put_labelled-4.ensures
    (chained c.put_labelled-4.new.out.items _ _ _ _ c.in_ok-put_labelled-5.ensures
    (chained_last c.put_labelled-5.new.out.items _ _ c.in_ok-put_known_time.ensures))))))
