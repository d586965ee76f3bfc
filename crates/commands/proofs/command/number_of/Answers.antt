use Rattle.std.proofs.Common.{sym, subst, arith}
use Rattle.script_grammar.specs.Values.{IsNumber}
use Rattle.commands.proofs.WordLaws.{number-spelled, number-unspelled}
use Rattle.commands.proofs.command.number_of.Goals as goal

pub returns-in-None : goal.returns-in-None
returns-in-None c =
    sym (number-unspelled c.args.low c.args.high c.args.word.now (λ n spelled. c.in-None.ensures n (subst (IsNumber c.args.low c.args.high n) (sym c.as_bytes.ensures.value) spelled)))

pub returns-in-Some : goal.returns-in-Some
returns-in-Some c =
    sym (number-spelled c.args.low c.args.high c.in-Some.number c.args.word.now (omega arith) (subst (IsNumber c.args.low c.args.high c.in-Some.number) c.as_bytes.ensures.value c.in-Some.ensures))
