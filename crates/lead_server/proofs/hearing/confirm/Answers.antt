use Rattle.std.proofs.Common.{sym}
use Rattle.lead_server.proofs.ConfirmSteps.{confirms-so}
use Rattle.lead_server.proofs.hearing.confirm.Goals as goal

pub returns-then-is_acknowledged-clause-ok : goal.returns-then-is_acknowledged-clause-ok
returns-then-is_acknowledged-clause-ok c =
    confirms-so c.role.result c.args.message.now c.args.active.now c.take_waiting.new.self (sym c.role.ensures) (sym c.if-is_acknowledged.ensures) c.take_waiting.ensures.now

pub returns-then-is_acknowledged-clause-room : goal.returns-then-is_acknowledged-clause-room
returns-then-is_acknowledged-clause-room c = c.has_room.ensures.0 c.if-not-has_room.false

pub returns-in-Ok-clause-ok : goal.returns-in-Ok-clause-ok
returns-in-Ok-clause-ok c = record { moment = _; heard = c.in-Ok.heard; received = c.in-Ok.ensures.ok }

pub returns-in-Ok-clause-room : goal.returns-in-Ok-clause-room
returns-in-Ok-clause-room c = c.has_room.ensures.0 c.if-not-has_room.false
