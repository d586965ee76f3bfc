use Rattle.std.proofs.Common.{◌∙◌, ◌++◌, ap}
use Rattle.std.specs.Prelude.{codes}
use Rattle.std.specs.Fmt.{decimal}
use Rattle.text_commands.specs.Checking.{IsScript}
use Rattle.text_commands.proofs.check.judge.Goals as goal

pub returns-in_ok-end-in-Ok : goal.returns-in_ok-end-in-Ok
returns-in_ok-end-in-Ok c =
    let counts = c.in-Ok.ensures.lines in
    let end = c.in_ok-end-in-Ok.ensures in
    IsScript end.status (record {
      lines = counts.lines;
      script = counts.spelled;
      printed = end.text ∙ ap (λ n. codes "ok " ++ (decimal n ++ codes "\n")) counts.count_is;
    })
