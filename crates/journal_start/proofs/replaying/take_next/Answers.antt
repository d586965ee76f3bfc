use Rattle.journal_start.proofs.FollowLaws.{receives-room}
use Rattle.journal_start.proofs.replaying.take_next.Goals as goal

pub receive-requires-clause-receive : goal.receive-requires-clause-receive
receive-requires-clause-receive c = (receives-room c.args.message.now c.args.node.now _ c.requires.follows c.requires.admits).0

pub receive-requires-clause-few : goal.receive-requires-clause-few
receive-requires-clause-few c = (receives-room c.args.message.now c.args.node.now (Rattle.std.specs.Prelude.pos 0) c.requires.follows c.requires.admits).1
