use Rattle.service_parts.proofs.Lookups.{taken-reply}
use Rattle.service_parts.proofs.windows.take_reply.Goals as goal

pub returns : goal.returns
returns c = taken-reply c.args.reply c.args.window.now c.take.new.self c.next-next.ensures.stands c.take.ensures
