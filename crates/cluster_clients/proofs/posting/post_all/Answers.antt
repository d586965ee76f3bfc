use Rattle.std.proofs.lemmas.List.{take_all}
use Rattle.wire.specs.MessageSpelling.{MessageInRange}
use Rattle.cluster_clients.proofs.PostAllSteps.{posts-stopped, all-read, posts-none_yet, posts-one_more, posts-whole}
use Rattle.cluster_clients.proofs.posting.post_all.Goals as goal

pub loop-message-init : goal.loop-message-init
loop-message-init c = posts-none_yet c.args.net.now c.args.lines.now.items

pub post-requires : goal.post-requires
post-requires c =
    all-read MessageInRange c.args.messages.now c.loop-message.message-index c.message-item.result c.loop-message-test.true c.message-item.is c.requires

pub loop-message-preserved : goal.loop-message-preserved
loop-message-preserved c =
    posts-one_more c.args.messages.now c.loop-message.message-index c.message-item.result c.args.net.now c.loop-message.net c.post.new.net c.args.lines.now.items c.loop-message.lines.items c.post.new.lines.items c.loop-message-test.true c.message-item.is c.loop-message.invariant c.in-Ok.ensures.ok

pub returns-clause-ok : goal.returns-clause-ok
returns-clause-ok c =
    posts-whole c.args.messages.now c.loop-message.message-index c.args.net.now c.loop-message.net c.args.lines.now.items c.loop-message.lines.items (take_all c.loop-message.message-index c.args.messages.now c.loop-message-test.false) c.loop-message.invariant

pub returns-in-Err-clause-err : goal.returns-in-Err-clause-err
returns-in-Err-clause-err c =
    posts-stopped c.args.messages.now c.loop-message.message-index c.message-item.result c.args.net.now c.loop-message.net c.post.new.net c.args.lines.now.items c.loop-message.lines.items c.loop-message-test.true c.message-item.is c.loop-message.invariant c.in-Err.ensures.err
