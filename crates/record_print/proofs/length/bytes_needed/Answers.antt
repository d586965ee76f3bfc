use Rattle.std.proofs.Common.{ap, sym, ◌∙◌, ◌+◌, min}
use Rattle.record_print.specs.Lengths.{pieces_length}
use Rattle.record_print.specs.Printing.{printed_record}
use Rattle.record_print.proofs.LengthLaws.{needed_freely}
use Rattle.record_print.proofs.length.bytes_needed.Goals as goal

pub returns-then-size-eq0-clause-same : goal.returns-then-size-eq0-clause-same
returns-then-size-eq0-clause-same c = λ number low.
    let pieces = c.args.pieces.now in
    let rec = c.args.rec.now in
    ap (λ size. printed_record pieces number rec size) c.if-size-eq0.true
    ∙ needed_freely pieces number rec low c.read_times.ensures c.requires.printable
    ∙ ap (λ names. printed_record pieces number rec (min (pieces_length names rec.body pieces) 16383 + 1)) (sym c.name_lengths.ensures)
    ∙ ap (λ long. printed_record pieces number rec (long + 1)) (sym c.text_length.ensures)
