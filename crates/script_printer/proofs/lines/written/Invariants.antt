use Rattle.std.proofs.Common.{◌≡◌, take}
use Rattle.script_language.specs.Printing.{script_text}
use Rattle.script_printer.proofs.lines.written.Given as goal

abbrev pub invariant-loop-line : goal.invariant-loop-line
invariant-loop-line l = l.out.items ≡ script_text (take l.line-index l.lines)
