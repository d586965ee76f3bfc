use Rattle.journal_start.proofs.FollowLaws.{followed-none, followed-some, reads-none, reads-some}
use Rattle.journal_start.proofs.replaying.follow.Goals as goal

pub take_next-requires-clause-admits : goal.take_next-requires-clause-admits
take_next-requires-clause-admits c = (reads-some c.args.text.now c.args.node.now _ c.in-Ok-Some.message c.in-Ok-Some.field-0-is c.in-Ok-Some.ensures).admits

pub returns-in-Ok-None : goal.returns-in-Ok-None
returns-in-Ok-None c =
    followed-none c.args.text.now c.args.node.now c.args.node.now c.args.entries.now.items c.args.entries.now.items c.args.number.now
    (reads-none c.args.text.now c.args.node.now _ c.in-Ok-None.field-0-is c.in-Ok-None.ensures)

pub returns-in-Ok-add : goal.returns-in-Ok-add
returns-in-Ok-add c =
    followed-some c.in-Ok-Some.message c.args.text.now c.args.node.now c.take_next.new.node c.in-Ok.entry c.args.entries.now.items c.add.new.entries.items c.number_behind.result
    (reads-some c.args.text.now c.args.node.now _ c.in-Ok-Some.message c.in-Ok-Some.field-0-is c.in-Ok-Some.ensures) c.in-Ok.ensures c.in-Ok-add.ensures c.number_behind.ensures
