use Rattle.std.proofs.Common.{rules}
use Rattle.script.proofs.Parts.{heading_by}
use Rattle.script.proofs.notes.heading.Goals as goal

pub returns-in_err-origin : goal.returns-in_err-origin
returns-in_err-origin c = rw (heading_by c.args.bytes.now) (search rules)

pub returns-in_err-correlated : goal.returns-in_err-correlated
returns-in_err-correlated c = rw (heading_by c.args.bytes.now) (search rules)

pub returns-in_err-text : goal.returns-in_err-text
returns-in_err-text c = rw (heading_by c.args.bytes.now) (search rules)

pub returns-in_err-info : goal.returns-in_err-info
returns-in_err-info c = rw (heading_by c.args.bytes.now) (search rules)

pub returns : goal.returns
returns c = rw (heading_by c.args.bytes.now) (search rules)
