use Rattle.std.proofs.Common.{arith}
use Rattle.commands.proofs.DashLaws.{none-of-five, none-of-more, none-of-two}
use Rattle.commands.proofs.command.command_in.Goals as goal

pub returns-in_default-2 : goal.returns-in_default-2
returns-in_default-2 c =
    let low = c.in_default.len_at_least in
    let high = c.in_default.len_below in
    none-of-two (λ word. word.now) c.args.words.now (omega arith) (omega arith)

pub returns-in_default-3 : goal.returns-in_default-3
returns-in_default-3 c =
    let low = c.in_default.len_at_least in
    let high = c.in_default.len_below in
    none-of-five (λ word. word.now) c.args.words.now (omega arith) (omega arith)

pub returns-in_default-4 : goal.returns-in_default-4
returns-in_default-4 c =
    let low = c.in_default.len_at_least in
    none-of-more (λ word. word.now) c.args.words.now (omega arith)
