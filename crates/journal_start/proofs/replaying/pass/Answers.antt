use Rattle.journal_start.proofs.ReplayLaws.{passed-empty, passed-other, passed-some}
use Rattle.journal_start.proofs.replaying.pass.Goals as goal

pub returns-then-is_empty : goal.returns-then-is_empty
returns-then-is_empty c =
    passed-empty c.args.rest.now c.in-Some.found.0.now c.in-Some.found.1.now c.args.node.now c.args.entries.now.items c.args.number.now c.is_empty.result c.in-Some.ensures c.is_empty.ensures c.if-is_empty.true

pub returns-then-known : goal.returns-then-known
returns-then-known c =
    passed-some c.args.rest.now c.in-Some.found.0.now c.in-Some.found.1.now c.args.node.now c.follow.new.node c.args.entries.now.items c.follow.new.entries.items c.args.number.now c.follow.new.number
    c.is_empty.result c.in-Ok.known c.in-Some.ensures c.is_empty.ensures c.if-is_empty.false c.if-known.true c.in-Ok.ensures

pub returns-else-known : goal.returns-else-known
returns-else-known c =
    passed-other c.args.rest.now c.in-Some.found.0.now c.in-Some.found.1.now c.args.node.now c.follow.new.node c.args.entries.now.items c.follow.new.entries.items c.args.number.now c.follow.new.number
    c.in-Ok.known c.in-Some.ensures c.if-known.false c.in-Ok.ensures
