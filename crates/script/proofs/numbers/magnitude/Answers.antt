use Rattle.std.proofs.Common.{arith}
use Rattle.script_grammar.proofs.Digits.{front_digits, front_length}
use Rattle.script.proofs.numbers.magnitude.Goals as goal

pub split_at-requires : goal.split_at-requires
split_at-requires c = omega (arith, front_length c.args.bytes.now, c.digit_count.ensures)

pub value_of-requires : goal.value_of-requires
value_of-requires c = rw (c.split_at.ensures.front, c.digit_count.ensures) (front_digits c.args.bytes.now)
