use Rattle.std.proofs.Common.{rules}
use Rattle.script.proofs.Parts.{filter_by}
use Rattle.script.proofs.filters.filter.Goals as goal

pub returns-in_err-subjects : goal.returns-in_err-subjects
returns-in_err-subjects c = rw (filter_by c.args.bytes.now) (search rules)

pub returns-in_err-reasons : goal.returns-in_err-reasons
returns-in_err-reasons c = rw (filter_by c.args.bytes.now) (search rules)

pub returns : goal.returns
returns c = rw (filter_by c.args.bytes.now) (search rules)
