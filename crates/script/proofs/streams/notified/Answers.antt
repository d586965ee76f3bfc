use Rattle.std.proofs.Common.{rules}
use Rattle.script.proofs.Parts.{notified_by}
use Rattle.script.proofs.streams.notified.Goals as goal

pub returns-in_err-id : goal.returns-in_err-id
returns-in_err-id c = rw (notified_by c.args.bytes.now) (search rules)

pub returns-in_err-origin : goal.returns-in_err-origin
returns-in_err-origin c = rw (notified_by c.args.bytes.now) (search rules)

pub returns : goal.returns
returns c = rw (notified_by c.args.bytes.now) (search rules)
