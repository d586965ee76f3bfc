use Rattle.std.proofs.Common.{◌≡◌, ◌++◌, map, take, drop}
use Rattle.record_print.specs.Printing.{shown_byte}
use Rattle.record_print.proofs.sheet.hide_controls.Given as goal

abbrev pub invariant-loop-byte : goal.invariant-loop-byte
invariant-loop-byte l = l.bytes ≡ map shown_byte (take l.byte-index l.fn.bytes) ++ drop l.byte-index l.fn.bytes
