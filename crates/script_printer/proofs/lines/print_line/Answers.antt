use Rattle.script_language.proofs.LineWriting.{line_written}
use Rattle.script_printer.proofs.lines.print_line.Goals as goal

pub returns-clause-spelled : goal.returns-clause-spelled
returns-clause-spelled c = line_written c.args.line.now

pub returns-in_err-put_script_line-clause-spelled : goal.returns-in_err-put_script_line-clause-spelled
returns-in_err-put_script_line-clause-spelled c = line_written c.args.line.now
