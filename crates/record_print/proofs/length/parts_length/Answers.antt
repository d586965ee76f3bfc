use Rattle.std.proofs.Common.{ap, sym, ◌+◌, ◌∙◌}
use Rattle.std.specs.Prelude.{min}
use Rattle.record_print.specs.Lengths.{pieces_length}
use Rattle.record_print.proofs.LengthLaws.{length-parts}
use Rattle.record_print.proofs.length.parts_length.Goals as goal

pub returns-clause-length : goal.returns-clause-length
returns-clause-length c = λ number rec low has.
    length-parts c.args.expr.now.pieces number c.args.header.now c.args.body.now rec low has
    ∙ ap (λ names. min (pieces_length names c.args.body.now c.args.expr.now.pieces) 16383 + 1) (sym c.name_lengths.ensures)
    ∙ ap (λ pieces. min (pieces_length c.name_lengths.result c.args.body.now pieces) 16383 + 1) (sym c.as_slice.ensures)
    ∙ ap (λ long. long + 1) (sym c.text_length.ensures)
