use Rattle.std.proofs.Common.{ap, sym, ◌+◌, ◌∙◌}
use Rattle.std.specs.Prelude.{min}
use Rattle.record_print.specs.Lengths.{pieces_length}
use Rattle.record_print.proofs.LengthLaws.{length-notified}
use Rattle.record_print.proofs.length.notified_length.Goals as goal

pub returns-clause-length : goal.returns-clause-length
returns-clause-length c = λ number rec low has.
    let body = c.args.body.now in
    let pieces = c.args.expr.now.pieces in
    length-notified pieces number c.args.object.now c.args.notifier.now body rec low has
    ∙ ap (λ names. min (pieces_length names body pieces) 16383 + 1) (sym c.notified.ensures)
    ∙ ap (λ read. min (pieces_length c.notified.result body read) 16383 + 1) (sym c.as_slice.ensures)
    ∙ ap (λ long. long + 1) (sym c.text_length.ensures)
