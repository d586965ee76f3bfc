use Rattle.std.proofs.Common.{◌≡◌, ◌+◌, Bool, ◌||◌, List, length, take, ap, sym, ◌∙◌, subst, arith}
use Rattle.std.proofs.Math.Seq.{take-length}
use Rattle.wire.specs.declared.message.Message.{Message}
use Rattle.cluster_rounds.proofs.rounds.take_items.Goals as goal
use Rattle.cluster_rounds.specs.Rounds.{IsIdleWithItems, IsItem, Plays, item_taken, items_taken}
use Rattle.cluster_rounds.specs.Worlds.{StandsIn}
use Rattle.cluster_rounds.proofs.ArmedSteps.{items-keep}
use Rattle.cluster_rounds.proofs.CameSteps.{plays-lack}
use Rattle.cluster_rounds.proofs.RoundSteps.{item-plays, items-reach, loop-plays, stands-of, state-so}
use Rattle.cluster_rounds.proofs.TurnSteps.{items-lead}
use Rattle.cluster_rounds.specs.Wild.{AllPosted, Posted}
use Rattle.cluster_rounds.proofs.WildSteps.{All-at, asks-from, wild-both}

pub take-requires : goal.take-requires
take-requires g c =
    let items = c.args.items.now in
    let index = c.loop-item.item-index in
    let one = c.item-item.result in
    (asks-from g.S.Serving.kit) (AllPosted items) (Posted one) c.args.world.now c.loop-item.world c.requires
    (λ has. (stands-of g.S.Serving.kit g.met.S.Serving.laws) one c.loop-item.world ((state-so g.S.Serving.kit g.met.S.Serving.laws) (IsIdleWithItems items) (λ state. StandsIn one state × IsItem one) ((items_taken g.S.Serving.kit) (take index items)) c.args.world.now c.loop-item.world c.args.lines.now.items c.loop-item.lines.items c.loop-item.loud ((items-reach g.S.Serving.kit g.met.S.Serving.laws) items index one c.loop-item-test.true c.item-item.is) has c.loop-item.invariant.0))
    (λ disks seen wild so. let before_it = c.loop-item.invariant.1 disks seen wild so in (before_it, before_it.net one (All-at (λ message. Posted message seen) index items one so c.loop-item-test.true c.item-item.is)))

pub loop-item-preserved : goal.loop-item-preserved
loop-item-preserved g c =
    let items = c.args.items.now in
    let index = c.loop-item.item-index in
    let one = c.item-item.result in
    let old = c.args.world.now in
    let new = c.take.new.world in
    let before = c.args.lines.now.items in
    let after = c.take.new.lines.items in
    let taken = (item-plays g.S.Serving.kit g.met.S.Serving.laws) one c.loop-item.world new c.loop-item.lines.items after c.in-Ok.more c.in-Ok.ensures.ok in
    let plays : (Plays g.S.Serving.kit) (IsIdleWithItems items) ((items_taken g.S.Serving.kit) (take (index + 1) items)) old new before after (c.loop-item.loud || c.in-Ok.more) = (loop-plays g.S.Serving.kit g.met.S.Serving.laws) (IsIdleWithItems items) (λ item state. StandsIn item state × IsItem item) (item_taken g.S.Serving.kit) items index one old c.loop-item.world new before c.loop-item.lines.items after c.loop-item.loud c.in-Ok.more ((items-reach g.S.Serving.kit g.met.S.Serving.laws) items index one c.loop-item-test.true c.item-item.is) c.loop-item-test.true c.item-item.is c.loop-item.invariant.0 taken in (
      subst (λ (b : Bool). (Plays g.S.Serving.kit) (IsIdleWithItems items) ((items_taken g.S.Serving.kit) (take (index + 1) items)) old new before after b) (sym c.either-loud.ensures) plays,
      λ disks seen wild so.
          let before_it = c.loop-item.invariant.1 disks seen wild so in
          (wild-both g.S.Serving.kit) seen c.loop-item.world new disks disks before_it (c.in-Ok.ensures.wild disks before_it.now before_it.wild (before_it.net one (All-at (λ message. Posted message seen) index items one so c.loop-item-test.true c.item-item.is))),
    )

pub returns-clause-ok : goal.returns-clause-ok
returns-clause-ok g c =
    let items = c.args.items.now in
    let all : c.loop-item.item-index ≡ length items = omega (arith, c.loop-item-test.false, c.loop-item.auto.item-index-end) in
    subst (λ (l : List Message). (Plays g.S.Serving.kit) (IsIdleWithItems items) ((items_taken g.S.Serving.kit) l) c.args.world.now c.loop-item.world c.args.lines.now.items c.loop-item.lines.items c.loop-item.loud) (ap (λ n. take n items) all ∙ take-length items) c.loop-item.invariant.0

pub returns-in-Err-clause-err : goal.returns-in-Err-clause-err
returns-in-Err-clause-err g c =
    let items = c.args.items.now in
    let index = c.loop-item.item-index in
    let one = c.item-item.result in
    (plays-lack g.S.Serving.kit g.met.S.Serving.laws) (IsIdleWithItems items) (StandsIn one) ((items_taken g.S.Serving.kit) (take index items)) c.args.world.now c.loop-item.world c.take.new.world c.args.lines.now.items c.loop-item.lines.items c.loop-item.loud ((items-lead g.S.Serving.kit g.met.S.Serving.laws) items index one c.loop-item-test.true c.item-item.is) ((items-keep g.S.Serving.kit g.met.S.Serving.laws) (take index items)) c.loop-item.invariant.0 c.in-Err.ensures.err

pub returns-clause-wild : goal.returns-clause-wild
returns-clause-wild g c = λ disks seen wild so. c.loop-item.invariant.1 disks seen wild so
