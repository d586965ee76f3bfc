use Rattle.std.proofs.Common.{◌+◌, List, [], ◌∷◌, ◌++◌, ap, sym, ◌∙◌, subst, take}
use Rattle.std.proofs.lemmas.List.{take_all, take_more}
use Rattle.wire.specs.MessageSpelling.{MessageInRange}
use Rattle.wire.specs.declared.message.Message.{Message}
use Rattle.cluster_clients.proofs.PostAllSteps.{all-read}
use Rattle.cold_servers.specs.Ignoring.{IgnoresAll}
use Rattle.cold_servers.proofs.DownSteps.{ignores-more, ignores-none}
use Rattle.cold_servers.proofs.downing.ignore_all.Goals as goal

pub loop-message-init : goal.loop-message-init
loop-message-init c = ignores-none c.args.net.now c.args.lines.now.items

pub number_in-requires : goal.number_in-requires
number_in-requires c = all-read MessageInRange c.args.messages.now c.loop-message.message-index c.message-item.result c.loop-message-test.true c.message-item.is c.requires

pub loop-message-preserved : goal.loop-message-preserved
loop-message-preserved c =
    let messages = c.args.messages.now in
    let front = take c.loop-message.message-index messages in
    let more = take_more messages c.loop-message.message-index c.message-item.result c.loop-message-test.true ∙ ap (λ (m : Message). front ++ m ∷ []) (sym c.message-item.is) in
    ignores-more (take (c.loop-message.message-index + 1) messages) front c.message-item.result c.args.net.now c.args.lines.now.items c.loop-message.lines.items c.put_ignored.new.lines.items c.in_ok-place.place more c.loop-message.invariant c.in_ok-place.ensures c.in_ok-put_ignored.ensures.ok

pub returns : goal.returns
returns c = subst (λ (ms : List Message). IgnoresAll ms c.args.net.now c.args.lines.now.items c.loop-message.lines.items) (take_all c.loop-message.message-index c.args.messages.now c.loop-message-test.false) c.loop-message.invariant
