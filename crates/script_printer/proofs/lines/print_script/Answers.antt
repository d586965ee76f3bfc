use Rattle.std.proofs.Common.{subst, sym, ◌∙◌, ap}
use Rattle.script_language.specs.Scripts.{IsScriptOf}
use Rattle.script_language.specs.Printing.{script_text}
use Rattle.script_language.proofs.LineWriting.{line_written}
use Rattle.script_language.proofs.Again.{script_again}
use Rattle.script_printer.proofs.lines.print_script.Goals as goal

pub returns-in_err-bytes-clause-spelled : goal.returns-in_err-bytes-clause-spelled
returns-in_err-bytes-clause-spelled c = line_written

pub returns-clause-spelled : goal.returns-clause-spelled
returns-clause-spelled c = line_written

pub returns-clause-again : goal.returns-clause-again
returns-clause-again c other script =
    subst (IsScriptOf c.args.lines.now) (sym (c.in_ok-bytes.ensures ∙ ap script_text c.as_slice.ensures)) (script_again c.args.lines.now other script)
