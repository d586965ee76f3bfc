use Rattle.std.proofs.Common.{rules}
use Rattle.script.proofs.Parts.{security_by}
use Rattle.script.proofs.notes.security.Goals as goal

pub returns-in_err-cause : goal.returns-in_err-cause
returns-in_err-cause c = rw (security_by c.args.bytes.now) (search rules)

pub returns-in_err-detector : goal.returns-in_err-detector
returns-in_err-detector c = rw (security_by c.args.bytes.now) (search rules)

pub returns-in_err-user : goal.returns-in_err-user
returns-in_err-user c = rw (security_by c.args.bytes.now) (search rules)

pub returns-in_err-provider : goal.returns-in_err-provider
returns-in_err-provider c = rw (security_by c.args.bytes.now) (search rules)

pub returns : goal.returns
returns c = rw (security_by c.args.bytes.now) (search rules)
