use Rattle.std.proofs.lemmas.List.{take_all}
use Rattle.std.proofs.Common.{⊎_elim}
use Rattle.wire.specs.MessageSpelling.{MessageInRange}
use Rattle.cluster_rounds.proofs.resending.hear_all.Goals as goal
use Rattle.cluster_clients.proofs.DispatchSteps.{on-err}
use Rattle.cluster_clients.proofs.PostAllSteps.{all-read}
use Rattle.cluster_rounds.proofs.BrokenClients.{hears-stop, hears-stop-within}
use Rattle.cluster_rounds.proofs.ChainSteps.{all-range, hears-none_yet, hears-one_more, hears-whole, still-standing}
use Rattle.cluster_rounds.specs.Wild.{AllPosted, Posted, always}
use Rattle.cluster_rounds.proofs.WildSteps.{All-at, all-posted-range, asks-from, wild-both, wild-same}

pub loop-message-init : goal.loop-message-init
loop-message-init g c = ((hears-none_yet g.S.Serving.kit g.met.S.Serving.laws) c.args.world.now c.args.lines.now.items, λ disks seen wild so. (wild-same g.S.Serving.kit) seen c.args.world.now disks wild)

pub number_in-requires : goal.number_in-requires
number_in-requires g c =
    all-read MessageInRange c.args.messages.now c.loop-message.message-index c.message-item.result c.loop-message-test.true c.message-item.is (⊎_elim (λ has. (all-range g.S.Serving.kit g.met.S.Serving.laws) c.args.messages.now c.args.world.now has) (λ wild. all-posted-range wild.1.seen c.args.world.now c.args.messages.now wild.1.wild.clients wild.1.wild.shows wild.1.so) c.requires)

pub hear-requires : goal.hear-requires
hear-requires g c = record {
  state = (asks-from g.S.Serving.kit) (AllPosted c.args.messages.now) always c.args.world.now c.loop-message.world c.requires
      (λ has. (still-standing g.S.Serving.kit g.met.S.Serving.laws) c.args.messages.now c.loop-message.message-index c.args.world.now c.loop-message.world c.args.lines.now.items c.loop-message.lines.items has c.loop-message.invariant.0)
      (λ disks seen wild so. (c.loop-message.invariant.1 disks seen wild so, tt));
  range = all-read MessageInRange c.args.messages.now c.loop-message.message-index c.message-item.result c.loop-message-test.true c.message-item.is (⊎_elim (λ has. (all-range g.S.Serving.kit g.met.S.Serving.laws) c.args.messages.now c.args.world.now has) (λ wild. all-posted-range wild.1.seen c.args.world.now c.args.messages.now wild.1.wild.clients wild.1.wild.shows wild.1.so) c.requires);
}

pub loop-message-preserved : goal.loop-message-preserved
loop-message-preserved g c = (
  (hears-one_more g.S.Serving.kit g.met.S.Serving.laws) c.args.messages.now c.loop-message.message-index c.in_ok-place.place c.message-item.result c.args.world.now c.loop-message.world c.hear.new.world c.args.lines.now.items c.loop-message.lines.items c.hear.new.lines.items c.loop-message-test.true c.message-item.is c.loop-message.invariant.0 c.in_ok-place.ensures c.in-Ok.ensures.ok,
  λ disks seen wild so.
      let before_it = c.loop-message.invariant.1 disks seen wild so in
      let one = c.message-item.result in
      (wild-both g.S.Serving.kit) seen c.loop-message.world c.hear.new.world disks disks before_it (c.in-Ok.ensures.wild disks before_it.now before_it.wild (before_it.net one (All-at (λ message. Posted message seen) c.loop-message.message-index c.args.messages.now one so c.loop-message-test.true c.message-item.is))),
)

pub returns-clause-ok : goal.returns-clause-ok
returns-clause-ok g c =
    (hears-whole g.S.Serving.kit g.met.S.Serving.laws) c.args.messages.now c.loop-message.message-index c.args.world.now c.loop-message.world c.args.lines.now.items c.loop-message.lines.items (take_all c.loop-message.message-index c.args.messages.now c.loop-message-test.false) c.loop-message.invariant.0

pub returns-in_err-place-clause-err : goal.returns-in_err-place-clause-err
returns-in_err-place-clause-err g c =
    on-err c.from_residual.result ((hears-stop g.S.Serving.kit g.met.S.Serving.laws) c.args.messages.now c.loop-message.message-index c.args.world.now c.loop-message.world c.args.lines.now.items c.loop-message.lines.items c.loop-message.invariant.0)

pub returns-in-Err-clause-err : goal.returns-in-Err-clause-err
returns-in-Err-clause-err g c =
    (hears-stop-within g.S.Serving.kit g.met.S.Serving.laws) c.args.messages.now c.loop-message.message-index c.message-item.result c.args.world.now c.loop-message.world c.hear.new.world c.args.lines.now.items c.loop-message.lines.items c.loop-message-test.true c.message-item.is c.loop-message.invariant.0 c.in-Err.ensures.err

pub returns-clause-wild : goal.returns-clause-wild
returns-clause-wild g c = λ disks seen wild so. c.loop-message.invariant.1 disks seen wild so
