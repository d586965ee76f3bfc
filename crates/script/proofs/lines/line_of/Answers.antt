use Rattle.script.proofs.LineFronts.{whole_line, more_behind, no_line}
use Rattle.script.proofs.lines.line_of.Goals as goal

pub returns-in-Err : goal.returns-in-Err
returns-in-Err c = no_line c.args.raw.now c.in-Err.trouble c.in-Err.ensures

pub returns-then-is_empty : goal.returns-then-is_empty
returns-then-is_empty c = whole_line c.args.raw.now c.in-Ok.found.1.now c.in-Ok.found.0 c.is_empty.result c.in-Ok.ensures c.is_empty.ensures c.if-is_empty.true

pub returns-else-is_empty : goal.returns-else-is_empty
returns-else-is_empty c = more_behind c.args.raw.now c.in-Ok.found.1.now c.in-Ok.found.0 c.is_empty.result c.in-Ok.ensures c.is_empty.ensures c.if-is_empty.false
