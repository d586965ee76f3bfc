use Rattle.std.proofs.Common.{length, ap, sym, ◌∙◌, arith}
use Rattle.record_print.specs.Printing.{printed_record}
use Rattle.record_print.proofs.LineLaws.{length-printed_record}
use Rattle.record_print.proofs.length.printed_length.Goals as goal

pub returns-clause-length : goal.returns-clause-length
returns-clause-length c = λ number low.
    let rec = c.args.rec.now in
    ap (λ pieces. length (printed_record pieces number rec 0)) (sym c.as_slice.ensures)
    ∙ ap length (c.bytes_needed.ensures.same number low)
    ∙ length-printed_record c.as_slice.result.now number rec c.bytes_needed.result (omega (arith, c.bytes_needed.ensures.size.some))
