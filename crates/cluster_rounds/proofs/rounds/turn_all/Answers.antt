use Rattle.std.proofs.Common.{◌+◌, Bool, take, sym, subst}
use Rattle.std.proofs.lemmas.List.{take_all}
use Rattle.std.specs.Prelude.{Err}
use Rattle.cluster_rounds.proofs.rounds.turn_all.Goals as goal
use Rattle.cluster_rounds.specs.Came.{Comes}
use Rattle.cluster_rounds.specs.Rounds.{EndsTurn, EndsTurns, IsIdleWithAll, turn_by, turns_by}
use Rattle.cluster_rounds.specs.Worlds.{StandsIn}
use Rattle.cluster_rounds.proofs.CameSteps.{off-after, on-after}
use Rattle.cluster_rounds.proofs.TurnSteps.{loop-begins, loop-comes, turns-end, turns-lead}
use Rattle.cluster_rounds.specs.Wild.{AllPosted, Posted}
use Rattle.cluster_rounds.proofs.WildSteps.{All-at, asks-on, goes-off, wild-both, wild-same}
use Rattle.cluster_rounds.proofs.CountSteps.{counts-after}

pub loop-message-init : goal.loop-message-init
loop-message-init g c =
    let held = g.S.Serving.kit.see (g.D.SharedDisk.seen c.args.disk.now) (g.J.SharedDisk.seen c.args.beside.now) in (
      (loop-begins g.S.Serving.kit g.met.S.Serving.laws) (IsIdleWithAll c.args.messages.now) (turn_by g.S.Serving.kit) c.args.world.now c.args.lines.now.items held,
      λ seen wild so. (wild-same g.S.Serving.kit) seen c.args.world.now held wild,
      g.met.S.Serving.laws.stands held,
    )

pub turn-requires : goal.turn-requires
turn-requires g c =
    let held = g.S.Serving.kit.see (g.D.SharedDisk.seen c.args.disk.now) (g.J.SharedDisk.seen c.args.beside.now) in
    let told = g.S.Serving.kit.see (g.D.SharedDisk.seen c.loop-message.disk) (g.J.SharedDisk.seen c.loop-message.beside) in
    let messages = c.args.messages.now in
    let index = c.loop-message.message-index in
    let one = c.message-item.result in
    (asks-on g.S.Serving.kit) (AllPosted messages) (Posted one) c.args.world.now c.loop-message.world held told c.requires
    (λ has. (on-after g.S.Serving.kit g.met.S.Serving.laws) (IsIdleWithAll messages) (StandsIn one) ((turns_by g.S.Serving.kit) (take index messages)) c.args.world.now c.loop-message.world c.args.lines.now.items c.loop-message.lines.items c.loop-message.loud held told ((turns-lead g.S.Serving.kit g.met.S.Serving.laws) messages index one c.loop-message-test.true c.message-item.is) has c.loop-message.invariant.0)
    (λ seen wild so. let before_it = c.loop-message.invariant.1 seen wild so in (before_it, before_it.net one (All-at (λ message. Posted message seen) index messages one so c.loop-message-test.true c.message-item.is)))

pub loop-message-preserved : goal.loop-message-preserved
loop-message-preserved g c =
    let told = g.S.Serving.kit.see (g.D.SharedDisk.seen c.loop-message.disk) (g.J.SharedDisk.seen c.loop-message.beside) in
    let messages = c.args.messages.now in
    let index = c.loop-message.message-index in
    let one = c.message-item.result in
    let old = c.args.world.now in
    let new = c.turn.new.world in
    let before = c.args.lines.now.items in
    let after = c.turn.new.lines.items in
    let held = g.S.Serving.kit.see (g.D.SharedDisk.seen c.args.disk.now) (g.J.SharedDisk.seen c.args.beside.now) in
    let left = g.S.Serving.kit.see (g.D.SharedDisk.seen c.turn.new.disk) (g.J.SharedDisk.seen c.turn.new.beside) in
    let comes = (loop-comes g.S.Serving.kit g.met.S.Serving.laws) (IsIdleWithAll messages) StandsIn (turn_by g.S.Serving.kit) messages index one old c.loop-message.world new before c.loop-message.lines.items after c.loop-message.loud c.in-Ok.more held told left ((turns-lead g.S.Serving.kit g.met.S.Serving.laws) messages index one c.loop-message-test.true c.message-item.is) c.loop-message-test.true c.message-item.is c.loop-message.invariant.0 c.in-Ok.ensures.ok in (
      subst (λ (b : Bool). (Comes g.S.Serving.kit) (IsIdleWithAll messages) ((turns_by g.S.Serving.kit) (take (index + 1) messages)) old new before after b held left) (sym c.either-loud.ensures) comes,
      λ seen wild so.
          let before_it = c.loop-message.invariant.1 seen wild so in
          (wild-both g.S.Serving.kit) seen c.loop-message.world new told left before_it (c.in-Ok.ensures.wild before_it.now before_it.wild (before_it.net one (All-at (λ message. Posted message seen) index messages one so c.loop-message-test.true c.message-item.is))),
      g.met.S.Serving.laws.further held told left c.loop-message.invariant.2 c.in-Ok.ensures.counts,
    )

pub returns-clause-ok : goal.returns-clause-ok
returns-clause-ok g c =
    let messages = c.args.messages.now in
    subst (λ l. (Comes g.S.Serving.kit) (IsIdleWithAll messages) ((turns_by g.S.Serving.kit) l) c.args.world.now c.loop-message.world c.args.lines.now.items c.loop-message.lines.items c.loop-message.loud (g.S.Serving.kit.see (g.D.SharedDisk.seen c.args.disk.now) (g.J.SharedDisk.seen c.args.beside.now)) (g.S.Serving.kit.see (g.D.SharedDisk.seen c.loop-message.disk) (g.J.SharedDisk.seen c.loop-message.beside))) (take_all c.loop-message.message-index messages c.loop-message-test.false) c.loop-message.invariant.0

pub returns-in-Err-clause-err : goal.returns-in-Err-clause-err
returns-in-Err-clause-err g c =
    let messages = c.args.messages.now in
    let index = c.loop-message.message-index in
    let one = c.message-item.result in
    (off-after g.S.Serving.kit g.met.S.Serving.laws) (IsIdleWithAll messages) (StandsIn one) ((EndsTurn g.S.Serving.kit) one) ((EndsTurns g.S.Serving.kit) messages) ((turns_by g.S.Serving.kit) (take index messages)) c.in-Err.answer c.args.world.now c.loop-message.world c.turn.new.world c.args.lines.now.items c.loop-message.lines.items c.turn.new.lines.items c.loop-message.loud (g.S.Serving.kit.see (g.D.SharedDisk.seen c.args.disk.now) (g.J.SharedDisk.seen c.args.beside.now)) (g.S.Serving.kit.see (g.D.SharedDisk.seen c.loop-message.disk) (g.J.SharedDisk.seen c.loop-message.beside)) (g.S.Serving.kit.see (g.D.SharedDisk.seen c.turn.new.disk) (g.J.SharedDisk.seen c.turn.new.beside)) ((turns-end g.S.Serving.kit g.met.S.Serving.laws) messages index one c.loop-message-test.true c.message-item.is) ((turns-lead g.S.Serving.kit g.met.S.Serving.laws) messages index one c.loop-message-test.true c.message-item.is) c.loop-message.invariant.0 c.in-Err.ensures.err

pub returns-clause-wild : goal.returns-clause-wild
returns-clause-wild g c = λ seen wild so. c.loop-message.invariant.1 seen wild so

pub returns-in-Err-clause-wild : goal.returns-in-Err-clause-wild
returns-in-Err-clause-wild g c =
    let messages = c.args.messages.now in
    let one = c.message-item.result in
    (goes-off g.S.Serving.kit) Bool Bool (AllPosted messages) (Posted one) c.in-Err.answer c.args.world.now c.loop-message.world c.turn.new.world (g.S.Serving.kit.see (g.D.SharedDisk.seen c.args.disk.now) (g.J.SharedDisk.seen c.args.beside.now)) (g.S.Serving.kit.see (g.D.SharedDisk.seen c.loop-message.disk) (g.J.SharedDisk.seen c.loop-message.beside)) (g.S.Serving.kit.see (g.D.SharedDisk.seen c.turn.new.disk) (g.J.SharedDisk.seen c.turn.new.beside)) (λ seen wild so. c.loop-message.invariant.1 seen wild so) (λ one_world two_world grows so. grows one (All-at (λ message. Posted message one_world) c.loop-message.message-index messages one so c.loop-message-test.true c.message-item.is)) c.in-Err.ensures.wild

pub returns-in-Err-clause-counts : goal.returns-in-Err-clause-counts
returns-in-Err-clause-counts g c = (counts-after g.S.Serving.kit g.met.S.Serving.laws) {T = Bool} (Err c.in-Err.answer) (g.S.Serving.kit.see (g.D.SharedDisk.seen c.args.disk.now) (g.J.SharedDisk.seen c.args.beside.now)) (g.S.Serving.kit.see (g.D.SharedDisk.seen c.loop-message.disk) (g.J.SharedDisk.seen c.loop-message.beside)) (g.S.Serving.kit.see (g.D.SharedDisk.seen c.turn.new.disk) (g.J.SharedDisk.seen c.turn.new.beside)) c.loop-message.invariant.2 c.in-Err.ensures.counts

pub returns-clause-counts : goal.returns-clause-counts
returns-clause-counts g c = c.loop-message.invariant.2
