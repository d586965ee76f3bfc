use Rattle.std.proofs.Common.{get_or, set, ap, ◌∙◌, arith}
use Rattle.std.proofs.lemmas.List.{get_or_default}
use Rattle.std.proofs.lemmas.List.Edits.{map_over_more}
use Rattle.record_print.specs.Printing.{shown_byte}
use Rattle.record_print.proofs.sheet.hide_controls.Goals as goal

pub loop-byte-preserved : goal.loop-byte-preserved
loop-byte-preserved c =
    let byte = get_or c.loop-byte.bytes c.loop-byte.byte-index 0 in
    ap (set c.loop-byte.bytes c.loop-byte.byte-index) c.printed_byte.ensures
    ∙ map_over_more shown_byte c.args.bytes.now c.loop-byte.bytes c.loop-byte.byte-index byte (omega arith) c.loop-byte.invariant (get_or_default c.loop-byte.bytes c.loop-byte.byte-index 0 byte (omega arith))
