use Rattle.std.proofs.Common.{rules}
use Rattle.script.proofs.Parts.{attrs_by}
use Rattle.script.proofs.streams.attrs.Goals as goal

pub returns-in_err-file : goal.returns-in_err-file
returns-in_err-file c = rw (attrs_by c.args.bytes.now) (search rules)

pub returns-in_err-path : goal.returns-in_err-path
returns-in_err-path c = rw (attrs_by c.args.bytes.now) (search rules)

pub returns-in_err-bounds : goal.returns-in_err-bounds
returns-in_err-bounds c = rw (attrs_by c.args.bytes.now) (search rules)

pub returns-in_err-expr : goal.returns-in_err-expr
returns-in_err-expr c = rw (attrs_by c.args.bytes.now) (search rules)

pub returns : goal.returns
returns c = rw (attrs_by c.args.bytes.now) (search rules)
