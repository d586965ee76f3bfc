use Rattle.std.proofs.Common.{rules}
use Rattle.script.proofs.Parts.{write_by}
use Rattle.script.proofs.asks.write.Goals as goal

pub returns-in_err-stream : goal.returns-in_err-stream
returns-in_err-stream c = rw (write_by c.args.bytes.now) (search rules)

pub returns-in_err-options : goal.returns-in_err-options
returns-in_err-options c = rw (write_by c.args.bytes.now) (search rules)

pub returns-in_err-header : goal.returns-in_err-header
returns-in_err-header c = rw (write_by c.args.bytes.now) (search rules)

pub returns-in_err-body : goal.returns-in_err-body
returns-in_err-body c = rw (write_by c.args.bytes.now) (search rules)

pub returns : goal.returns
returns c = rw (write_by c.args.bytes.now) (search rules)
