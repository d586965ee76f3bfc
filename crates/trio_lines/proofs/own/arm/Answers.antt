use Rattle.std.proofs.Common.{sym}
use Rattle.trio_lines.proofs.OwnRules.{arm_read, arm_unread}
use Rattle.trio_lines.proofs.own.arm.Goals as goal

pub returns-in-Some : goal.returns-in-Some
returns-in-Some c = sym (arm_read c.in-Some.k c.args.bytes.now c.in-Some.ensures)

pub returns-in-None : goal.returns-in-None
returns-in-None c = sym (arm_unread c.args.bytes.now c.in-None.ensures)
