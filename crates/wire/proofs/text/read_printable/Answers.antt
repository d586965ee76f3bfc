use Rattle.std.proofs.Common.{◌<◌, ◌+◌, ◌-◌, length, get_or, take, inl, inr, arith}
use Rattle.std.proofs.lemmas.List.{take_more}
use Rattle.std.proofs.lemmas.List.Elements.{All-more}
use Rattle.ais_values.specs.Names.{IsPrintable}
use Rattle.wire_code.specs.Reading.{byte_at}
use Rattle.wire_code.proofs.Loops.{read_more, read_wrong, printable_at, unprintable_at, no_byte_at}
use Rattle.wire.proofs.text.read_printable.Goals as goal

pub returns-then-bytes-i-clause-gives : goal.returns-then-bytes-i-clause-gives
returns-then-bytes-i-clause-gives c = read_wrong (byte_at 32 126) _ (c.args.count - c.loop-i.i) _ _ _ c.loop-i.invariant.0 (omega arith) (no_byte_at c.args.bytes.now c.loop-i.i c.if-bytes-i.true)

pub returns-then-byte-lt32-clause-gives : goal.returns-then-byte-lt32-clause-gives
returns-then-byte-lt32-clause-gives c = read_wrong (byte_at 32 126) _ (c.args.count - c.loop-i.i) _ _ _ c.loop-i.invariant.0 (omega arith) (unprintable_at c.args.bytes.now c.loop-i.i c.if-bytes-i.false (elim c.then-byte-lt32.either [ inl low ↦ inl low | inr high ↦ inr high.1 ]))

pub loop-i-preserved : goal.loop-i-preserved
loop-i-preserved c =
    let bytes = c.args.bytes.now in
    let i = c.loop-i.i in
    let here : i < length bytes = c.if-bytes-i.false in
    let printable : IsPrintable (get_or bytes i 0) = record { low = omega arith; high = omega arith } in (
      read_more (byte_at 32 126) (take i bytes) (take (i + 1) bytes) (c.args.count - i) (c.args.count - (i + 1)) _ _ (get_or bytes i 0) _ c.loop-i.invariant.0 (omega arith) (printable_at bytes i here (omega arith) (omega arith)) (take_more bytes i 0 here),
      All-more IsPrintable bytes i 0 here c.loop-i.invariant.1 printable,
      omega arith,
    )
