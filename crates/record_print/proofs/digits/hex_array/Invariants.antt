use Rattle.std.proofs.Common.{◌≡◌, ◌-◌, ◌++◌, length, take}
use Rattle.record_print.specs.Printing.{hex_digits}
use Rattle.record_print.proofs.digits.hex_array.Given as goal

abbrev pub invariant-loop-place : goal.invariant-loop-place
invariant-loop-place g l = record {
  size : length l.digits ≡ g.row.N;
  digits : take l.place l.digits ++ hex_digits (g.row.N - l.place) l.number ≡ hex_digits g.row.N l.number;
}
