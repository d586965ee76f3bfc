use Rattle.trio_lines.proofs.OwnWriting.{trio_line_written}
use Rattle.trio_lines.proofs.printing.put_trio_line.Goals as goal

pub returns-clause-spelled : goal.returns-clause-spelled
returns-clause-spelled c = trio_line_written c.args.line.now
