use Rattle.std.proofs.Common.{sym, ap, Some}
use Rattle.script.proofs.Names.{kept, never_err}
use Rattle.script.proofs.quoted.name_of.Goals as goal

pub returns-in-Ok : goal.returns-in-Ok
returns-in-Ok c = rw (kept c.args.bytes.now (λ no. never_err _ _ (c.in-Ok.ensures.refused.1 no))) (ap Some (sym c.in-Ok.ensures.ok))
