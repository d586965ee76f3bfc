use Rattle.std.proofs.Common.{w64}
use Rattle.std.proofs.lemmas.Int.{to_z-of_z}
use Rattle.script_language.specs.Printing.{line_text}
use Rattle.script_printer.proofs.Chain.{chained, chained_last}
use Rattle.script_printer.proofs.lines.put_cluster.Goals as goal

pub returns : goal.returns
unfolding line_text
returns c =
    rw (← c.from.ensures, ← c.from-2.ensures, ← to_z-of_z w64 c.args.start c.ranges.start)
    (chained c.args.out.now.items _ _ _ _ c.in_ok-put_labelled.ensures
    (chained c.put_labelled.new.out.items _ _ _ _ c.in_ok-put_labelled-2.ensures
    (chained c.put_labelled-2.new.out.items _ _ _ _ c.in_ok-put_labelled-3.ensures
    (chained c.put_labelled-3.new.out.items _ _ _ _ c.in_ok-put_options.ensures
    (chained c.put_options.new.out.items _ _ _ _ c.in_ok-put_options-2.ensures
    (chained_last c.put_options-2.new.out.items _ _ c.in_ok-put_options-3.ensures))))))
