use Rattle.std.proofs.Common.{ap₂, ◌∙◌}
use Rattle.clap.specs.Words.{with_rule}
use Rattle.command_line.proofs.line_command.Goals as goal

pub returns : goal.returns
returns c =
    let first = c.in_ok-command.ensures.shape c.command_word.ensures.local ∙ ap₂ with_rule c.bare_command.ensures c.command_word.ensures.rule in
    c.in_ok-command-2.ensures.shape c.value_words.ensures.local ∙ ap₂ with_rule first c.value_words.ensures.rule
