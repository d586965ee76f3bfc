use Rattle.std.proofs.Common.{◌+◌, ◌++◌, sym, ap, subst, arith, length}
use Rattle.trio_lines.specs.Scripts.{AreMasked}
use Rattle.trio_lines.proofs.Masking.{masked-more, room-more, raws-room}
use Rattle.trio_lines.proofs.reading.masked.Goals as goal

pub lines-init : goal.lines-init
lines-init c = record {
  room = omega (arith, raws-room c.args.bytes.now, ap length c.new-out.ensures.items);
  masks = λ tail masks. subst (λ none. AreMasked c.args.bytes.now (none ++ tail)) (sym c.new-out.ensures.items) masks;
}

pub lines-preserved : goal.lines-preserved
lines-preserved c =
    let rest = c.lines.rest.now in
    let after = c.first_line.result.1.now in
    let raw = c.first_line.result.0.now in
    let before = c.lines.out.items in
    let out = c.put_masked.new.out.items in
    record {
      room = room-more rest after raw before out (length c.args.bytes.now + 1) c.first_line.ensures.lines c.in_ok-put_masked.ensures c.lines.invariant.room;
      masks = masked-more c.args.bytes.now rest after raw before out c.first_line.ensures.lines c.in_ok-put_masked.ensures c.lines.invariant.masks;
    }
