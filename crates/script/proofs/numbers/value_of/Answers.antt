use Rattle.std.proofs.Common.{◌+◌, ◌∙◌, ap, subst, ◌<◌, ◌^◌, arith}
use Rattle.std.specs.Str.Parse.{digits_value}
use Rattle.std.proofs.lemmas.List.{take_all}
use Rattle.script_grammar.proofs.Digits.{value_step, value_front}
use Rattle.script.proofs.numbers.value_of.Goals as goal

pub returns-in_err-checked_mul : goal.returns-in_err-checked_mul
returns-in_err-checked_mul c = rw c.from_residual.ensures (λ small.
    let i = c.loop-digit.digit-index in
    let step = value_step c.args.digits.now i c.requires c.loop-digit-test.true in
    let front = value_front c.args.digits.now (i + 1) in
    c.in_err-checked_mul.ensures (omega (arith, step, front, c.loop-digit.invariant)))

pub returns-in_err-value : goal.returns-in_err-value
returns-in_err-value c = rw c.from_residual-in_err-value.ensures (λ small.
    let i = c.loop-digit.digit-index in
    let step = value_step c.args.digits.now i c.requires c.loop-digit-test.true in
    let front = value_front c.args.digits.now (i + 1) in
    c.in_err-value.ensures (omega (arith, step, front, c.loop-digit.invariant, c.in_ok-checked_mul.ensures, c.from.ensures)))

pub returns : goal.returns
returns c =
    let whole = c.loop-digit.invariant.0 ∙ ap (digits_value 10) (take_all c.loop-digit.digit-index c.args.digits.now c.loop-digit-test.false) in
    (subst (λ n. n < 2 ^ 64) whole c.loop-digit.invariant.1, whole)
