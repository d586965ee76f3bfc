use Rattle.script.proofs.FirstLine.{first_and_rest, one_line}
use Rattle.script.proofs.reader.first_line.Goals as goal

pub returns-then-end-bytes-clause-lines : goal.returns-then-end-bytes-clause-lines
returns-then-end-bytes-clause-lines c = first_and_rest c.args.bytes.now c.line_length-end.result c.requires c.line_length-end.ensures

pub returns-else-end-bytes-clause-lines : goal.returns-else-end-bytes-clause-lines
returns-else-end-bytes-clause-lines c = one_line c.args.bytes.now c.line_length-end.result c.requires c.line_length-end.ensures c.if-end-bytes.false
