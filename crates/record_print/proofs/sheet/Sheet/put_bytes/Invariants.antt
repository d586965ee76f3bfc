use Rattle.std.proofs.Common.{take}
use Rattle.record_print.specs.Printing.{hex_bytes}
use Rattle.record_print.specs.Sheets.{Adds}
use Rattle.record_print.proofs.sheet.Sheet.put_bytes.Given as goal

abbrev pub invariant-loop-byte : goal.invariant-loop-byte
invariant-loop-byte l = Adds l.fn.self l.self (hex_bytes (take l.byte-index l.bytes))
