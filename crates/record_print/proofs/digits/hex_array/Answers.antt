use Rattle.std.proofs.Common.{◌∙◌, arith}
use Rattle.std.proofs.lemmas.List.{length-set}
use Rattle.record_print.proofs.DigitLaws.{hex_more, hex_all}
use Rattle.record_print.proofs.digits.hex_array.Goals as goal

pub loop-place-preserved : goal.loop-place-preserved
loop-place-preserved g c =
    let before = c.loop-place.invariant in
    record {
      size = length-set c.loop-place.digits c.loop-place.place c.hex_digit.result ∙ before.size;
      digits = hex_more g.row.N c.args.number c.loop-place.place c.hex_digit.result c.loop-place.digits (omega arith) before.size c.hex_digit.ensures before.digits;
    }

pub returns : goal.returns
returns g c =
    hex_all g.row.N c.args.number c.loop-place.place c.loop-place.digits c.loop-place.invariant.size (omega arith) c.loop-place.invariant.digits
