use Rattle.std.proofs.Common.{Bool, ◌||◌, ap, sym, ◌∙◌, subst}
use Rattle.cluster_rounds.proofs.rounds.turn.Goals as goal
use Rattle.cluster_rounds.specs.Came.{Comes}
use Rattle.cluster_rounds.specs.Rounds.{EndsTurn, turn_by}
use Rattle.cluster_rounds.specs.Worlds.{StandsIn}
use Rattle.cluster_rounds.proofs.ArmedSteps.{state-told}
use Rattle.cluster_rounds.proofs.CameSteps.{alone-off}
use Rattle.cluster_rounds.proofs.RoundSteps.{heard-ready, state-on}
use Rattle.cluster_rounds.proofs.TurnSteps.{turn-comes, turn-drain-off, turn-on, turn-take-lacks}
use Rattle.cluster_rounds.proofs.WildSteps.{asks-of, asks-on, goes-off, wild-both, wild-same}
use Rattle.cluster_rounds.specs.Wild.{Posted, always}

pub hear_so-requires : goal.hear_so-requires
hear_so-requires g c =
    let held = g.S.Serving.kit.see (g.D.SharedDisk.seen c.args.disk.now) (g.J.SharedDisk.seen c.args.beside.now) in
    (asks-of g.S.Serving.kit) (Posted c.args.message.now) (Posted c.args.message.now) c.args.world.now c.args.world.now held held c.requires
    (λ has. (state-told g.S.Serving.kit g.met.S.Serving.laws) (StandsIn c.args.message.now) c.args.world.now held has)
    (λ seen wild so. ((wild-same g.S.Serving.kit) seen c.args.world.now held wild, so))

pub drain-requires : goal.drain-requires
drain-requires g c =
    let message = c.args.message.now in
    let held = g.S.Serving.kit.see (g.D.SharedDisk.seen c.args.disk.now) (g.J.SharedDisk.seen c.args.beside.now) in
    (asks-on g.S.Serving.kit) (Posted message) always c.args.world.now c.hear_so.new.world held held c.requires
    (λ has. (state-on g.S.Serving.kit g.met.S.Serving.laws) (StandsIn message) c.hear_so.new.world held ((heard-ready g.S.Serving.kit g.met.S.Serving.laws) message c.args.world.now c.hear_so.new.world c.args.lines.now.items c.hear_so.new.lines.items c.in-Ok.heard held has c.in-Ok.ensures.ok))
    (λ seen wild so. (c.in-Ok.ensures.wild held seen wild so, tt))

pub take_answer-requires : goal.take_answer-requires
take_answer-requires g c =
    let held = g.S.Serving.kit.see (g.D.SharedDisk.seen c.args.disk.now) (g.J.SharedDisk.seen c.args.beside.now) in
    let left = g.S.Serving.kit.see (g.D.SharedDisk.seen c.drain.new.disk) (g.J.SharedDisk.seen c.drain.new.beside) in
    let message = c.args.message.now in
    (asks-of g.S.Serving.kit) (Posted message) (Posted message) c.args.world.now c.drain.new.world held left c.requires
    (λ has. let heard = (heard-ready g.S.Serving.kit g.met.S.Serving.laws) message c.args.world.now c.hear_so.new.world c.args.lines.now.items c.hear_so.new.lines.items c.in-Ok.heard held has c.in-Ok.ensures.ok in (state-told g.S.Serving.kit g.met.S.Serving.laws) (StandsIn message) c.drain.new.world left ((turn-on g.S.Serving.kit g.met.S.Serving.laws) message c.hear_so.new.world c.drain.new.world c.hear_so.new.lines.items c.drain.new.lines.items c.in-Ok-drain.drained held left heard c.in-Ok-drain.ensures.ok))
    (λ seen wild so.
    let first = c.in-Ok.ensures.wild held seen wild so in
    let both = (wild-both g.S.Serving.kit) seen c.hear_so.new.world c.drain.new.world held left first (c.in-Ok-drain.ensures.wild first.now first.wild tt) in
    (both, both.net message so))

pub returns-in-Ok-take_answer-clause-ok : goal.returns-in-Ok-take_answer-clause-ok
returns-in-Ok-take_answer-clause-ok g c =
    let message = c.args.message.now in
    let old = c.args.world.now in
    let new = c.take_answer.new.world in
    let before = c.args.lines.now.items in
    let after = c.take_answer.new.lines.items in
    let held = g.S.Serving.kit.see (g.D.SharedDisk.seen c.args.disk.now) (g.J.SharedDisk.seen c.args.beside.now) in
    let left = g.S.Serving.kit.see (g.D.SharedDisk.seen c.drain.new.disk) (g.J.SharedDisk.seen c.drain.new.beside) in
    let comes = (turn-comes g.S.Serving.kit g.met.S.Serving.laws) message old c.hear_so.new.world c.drain.new.world new before c.hear_so.new.lines.items c.drain.new.lines.items after c.in-Ok.heard c.in-Ok-drain.drained c.in-Ok-take_answer.taken held left c.in-Ok.ensures.ok c.in-Ok-drain.ensures.ok c.in-Ok-take_answer.ensures.ok in
    subst (λ (b : Bool). (Comes g.S.Serving.kit) (StandsIn message) ((turn_by g.S.Serving.kit) message) old new before after b held left) (sym (c.either-in-Ok-take_answer.ensures ∙ ap (λ b. b || c.in-Ok-take_answer.taken) c.either.ensures)) comes

pub returns-in-Err-clause-err : goal.returns-in-Err-clause-err
returns-in-Err-clause-err g c =
    let message = c.args.message.now in
    (alone-off g.S.Serving.kit g.met.S.Serving.laws) (StandsIn message) ((EndsTurn g.S.Serving.kit) message) c.args.world.now c.hear_so.new.world c.args.lines.now.items c.hear_so.new.lines.items (g.S.Serving.kit.see (g.D.SharedDisk.seen c.args.disk.now) (g.J.SharedDisk.seen c.args.beside.now)) c.in-Err.ensures.err

pub returns-in-Err-drain-clause-err : goal.returns-in-Err-drain-clause-err
returns-in-Err-drain-clause-err g c =
    (turn-drain-off g.S.Serving.kit g.met.S.Serving.laws) c.args.message.now c.in-Err-drain.answer c.args.world.now c.hear_so.new.world c.drain.new.world c.args.lines.now.items c.hear_so.new.lines.items c.drain.new.lines.items c.in-Ok.heard (g.S.Serving.kit.see (g.D.SharedDisk.seen c.args.disk.now) (g.J.SharedDisk.seen c.args.beside.now)) (g.S.Serving.kit.see (g.D.SharedDisk.seen c.drain.new.disk) (g.J.SharedDisk.seen c.drain.new.beside)) c.in-Ok.ensures.ok c.in-Err-drain.ensures.err

pub returns-in-Err-take_answer-clause-err : goal.returns-in-Err-take_answer-clause-err
returns-in-Err-take_answer-clause-err g c =
    (turn-take-lacks g.S.Serving.kit g.met.S.Serving.laws) c.args.message.now c.args.world.now c.hear_so.new.world c.drain.new.world c.take_answer.new.world c.args.lines.now.items c.hear_so.new.lines.items c.drain.new.lines.items c.take_answer.new.lines.items c.in-Ok.heard c.in-Ok-drain.drained (g.S.Serving.kit.see (g.D.SharedDisk.seen c.args.disk.now) (g.J.SharedDisk.seen c.args.beside.now)) (g.S.Serving.kit.see (g.D.SharedDisk.seen c.drain.new.disk) (g.J.SharedDisk.seen c.drain.new.beside)) c.in-Ok.ensures.ok c.in-Ok-drain.ensures.ok c.in-Err-take_answer.ensures.err

pub returns-in-Ok-take_answer-clause-wild : goal.returns-in-Ok-take_answer-clause-wild
returns-in-Ok-take_answer-clause-wild g c = λ seen wild so.
    let message = c.args.message.now in
    let held = g.S.Serving.kit.see (g.D.SharedDisk.seen c.args.disk.now) (g.J.SharedDisk.seen c.args.beside.now) in
    let left = g.S.Serving.kit.see (g.D.SharedDisk.seen c.drain.new.disk) (g.J.SharedDisk.seen c.drain.new.beside) in
    let first = c.in-Ok.ensures.wild held seen wild so in
    let both = (wild-both g.S.Serving.kit) seen c.hear_so.new.world c.drain.new.world held left first (c.in-Ok-drain.ensures.wild first.now first.wild tt) in
    (wild-both g.S.Serving.kit) seen c.drain.new.world c.take_answer.new.world left left both (c.in-Ok-take_answer.ensures.wild left both.now both.wild (both.net message so))

pub returns-in-Err-drain-clause-wild : goal.returns-in-Err-drain-clause-wild
returns-in-Err-drain-clause-wild g c =
    let held = g.S.Serving.kit.see (g.D.SharedDisk.seen c.args.disk.now) (g.J.SharedDisk.seen c.args.beside.now) in
    let left = g.S.Serving.kit.see (g.D.SharedDisk.seen c.drain.new.disk) (g.J.SharedDisk.seen c.drain.new.beside) in
    (goes-off g.S.Serving.kit) Bool Bool (Posted c.args.message.now) always c.in-Err-drain.answer c.args.world.now c.hear_so.new.world c.drain.new.world held held left (λ seen wild so. c.in-Ok.ensures.wild held seen wild so) (λ one two grows so. tt) c.in-Err-drain.ensures.wild
