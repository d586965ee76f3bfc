use Rattle.std.proofs.Common.{Bool, ◌||◌, ap, sym, ◌∙◌, subst}
use Rattle.cluster_rounds.proofs.rounds.round.Goals as goal
use Rattle.cluster_rounds.specs.Came.{Comes}
use Rattle.cluster_rounds.specs.Rounds.{round_by}
use Rattle.cluster_rounds.specs.Worlds.{IsIdle, any_state}
use Rattle.cluster_rounds.proofs.ArmedSteps.{state-told}
use Rattle.cluster_rounds.proofs.TurnSteps.{round-comes, round-on, round-push-lacks, round-push-on, round-start-off, round-turn-off}
use Rattle.cluster_rounds.proofs.WildSteps.{asks-of, asks-on, goes-off, wild-both}
use Rattle.cluster_rounds.specs.Wild.{always}

pub turn_each-requires : goal.turn_each-requires
turn_each-requires g c =
    let held = g.S.Serving.kit.see (g.D.SharedDisk.seen c.args.disk.now) (g.J.SharedDisk.seen c.args.beside.now) in
    let left = g.S.Serving.kit.see (g.D.SharedDisk.seen c.drain.new.disk) (g.J.SharedDisk.seen c.drain.new.beside) in
    (asks-on g.S.Serving.kit) always always c.args.world.now c.drain.new.world held left c.requires
    (λ has. (round-on g.S.Serving.kit g.met.S.Serving.laws) c.args.world.now c.drain.new.world c.args.lines.now.items c.drain.new.lines.items c.in-Ok.drained held left has c.in-Ok.ensures.ok)
    (λ seen wild so. (c.in-Ok.ensures.wild seen wild tt, tt))

pub push_round-requires : goal.push_round-requires
push_round-requires g c =
    let held = g.S.Serving.kit.see (g.D.SharedDisk.seen c.args.disk.now) (g.J.SharedDisk.seen c.args.beside.now) in
    let told = g.S.Serving.kit.see (g.D.SharedDisk.seen c.drain.new.disk) (g.J.SharedDisk.seen c.drain.new.beside) in
    let left = g.S.Serving.kit.see (g.D.SharedDisk.seen c.turn_each.new.disk) (g.J.SharedDisk.seen c.turn_each.new.beside) in
    (asks-of g.S.Serving.kit) always always c.args.world.now c.turn_each.new.world held left c.requires
    (λ has. let idle = (round-on g.S.Serving.kit g.met.S.Serving.laws) c.args.world.now c.drain.new.world c.args.lines.now.items c.drain.new.lines.items c.in-Ok.drained held told has c.in-Ok.ensures.ok in (state-told g.S.Serving.kit g.met.S.Serving.laws) IsIdle c.turn_each.new.world left ((round-push-on g.S.Serving.kit g.met.S.Serving.laws) c.drain.new.world c.turn_each.new.world c.drain.new.lines.items c.turn_each.new.lines.items c.in-Ok-turn_each.turned told left idle c.in-Ok-turn_each.ensures.ok))
    (λ seen wild so.
    let first = c.in-Ok.ensures.wild seen wild tt in
    ((wild-both g.S.Serving.kit) seen c.drain.new.world c.turn_each.new.world told left first (c.in-Ok-turn_each.ensures.wild first.now first.wild tt), tt))

pub returns-in-Ok-push_round-clause-ok : goal.returns-in-Ok-push_round-clause-ok
returns-in-Ok-push_round-clause-ok g c =
    let old = c.args.world.now in
    let new = c.push_round.new.world in
    let before = c.args.lines.now.items in
    let after = c.push_round.new.lines.items in
    let held = g.S.Serving.kit.see (g.D.SharedDisk.seen c.args.disk.now) (g.J.SharedDisk.seen c.args.beside.now) in
    let left = g.S.Serving.kit.see (g.D.SharedDisk.seen c.turn_each.new.disk) (g.J.SharedDisk.seen c.turn_each.new.beside) in
    let comes = (round-comes g.S.Serving.kit g.met.S.Serving.laws) old c.drain.new.world c.turn_each.new.world new before c.drain.new.lines.items c.turn_each.new.lines.items after c.in-Ok.drained c.in-Ok-turn_each.turned c.in-Ok-push_round.taken held (g.S.Serving.kit.see (g.D.SharedDisk.seen c.drain.new.disk) (g.J.SharedDisk.seen c.drain.new.beside)) left c.in-Ok.ensures.ok c.in-Ok-turn_each.ensures.ok c.in-Ok-push_round.ensures.ok in
    subst (λ (b : Bool). (Comes g.S.Serving.kit) any_state (round_by g.S.Serving.kit) old new before after b held left) (sym (c.either-in-Ok-push_round.ensures ∙ ap (λ b. b || c.in-Ok-push_round.taken) c.either.ensures)) comes

pub returns-in-Err-clause-err : goal.returns-in-Err-clause-err
returns-in-Err-clause-err g c =
    (round-start-off g.S.Serving.kit g.met.S.Serving.laws) c.in-Err.answer c.args.world.now c.drain.new.world c.args.lines.now.items c.drain.new.lines.items (g.S.Serving.kit.see (g.D.SharedDisk.seen c.args.disk.now) (g.J.SharedDisk.seen c.args.beside.now)) (g.S.Serving.kit.see (g.D.SharedDisk.seen c.drain.new.disk) (g.J.SharedDisk.seen c.drain.new.beside)) c.in-Err.ensures.err

pub returns-in-Err-turn_each-clause-err : goal.returns-in-Err-turn_each-clause-err
returns-in-Err-turn_each-clause-err g c =
    (round-turn-off g.S.Serving.kit g.met.S.Serving.laws) c.in-Err-turn_each.answer c.args.world.now c.drain.new.world c.turn_each.new.world c.args.lines.now.items c.drain.new.lines.items c.turn_each.new.lines.items c.in-Ok.drained (g.S.Serving.kit.see (g.D.SharedDisk.seen c.args.disk.now) (g.J.SharedDisk.seen c.args.beside.now)) (g.S.Serving.kit.see (g.D.SharedDisk.seen c.drain.new.disk) (g.J.SharedDisk.seen c.drain.new.beside)) (g.S.Serving.kit.see (g.D.SharedDisk.seen c.turn_each.new.disk) (g.J.SharedDisk.seen c.turn_each.new.beside)) c.in-Ok.ensures.ok c.in-Err-turn_each.ensures.err

pub returns-in-Err-push_round-clause-err : goal.returns-in-Err-push_round-clause-err
returns-in-Err-push_round-clause-err g c =
    (round-push-lacks g.S.Serving.kit g.met.S.Serving.laws) c.args.world.now c.drain.new.world c.turn_each.new.world c.push_round.new.world c.args.lines.now.items c.drain.new.lines.items c.turn_each.new.lines.items c.push_round.new.lines.items c.in-Ok.drained c.in-Ok-turn_each.turned (g.S.Serving.kit.see (g.D.SharedDisk.seen c.args.disk.now) (g.J.SharedDisk.seen c.args.beside.now)) (g.S.Serving.kit.see (g.D.SharedDisk.seen c.drain.new.disk) (g.J.SharedDisk.seen c.drain.new.beside)) (g.S.Serving.kit.see (g.D.SharedDisk.seen c.turn_each.new.disk) (g.J.SharedDisk.seen c.turn_each.new.beside)) c.in-Ok.ensures.ok c.in-Ok-turn_each.ensures.ok c.in-Err-push_round.ensures.err

pub returns-in-Ok-push_round-clause-wild : goal.returns-in-Ok-push_round-clause-wild
returns-in-Ok-push_round-clause-wild g c = λ seen wild so.
    let middle = g.S.Serving.kit.see (g.D.SharedDisk.seen c.drain.new.disk) (g.J.SharedDisk.seen c.drain.new.beside) in
    let left = g.S.Serving.kit.see (g.D.SharedDisk.seen c.turn_each.new.disk) (g.J.SharedDisk.seen c.turn_each.new.beside) in
    let first = c.in-Ok.ensures.wild seen wild tt in
    let both = (wild-both g.S.Serving.kit) seen c.drain.new.world c.turn_each.new.world middle left first (c.in-Ok-turn_each.ensures.wild first.now first.wild tt) in
    (wild-both g.S.Serving.kit) seen c.turn_each.new.world c.push_round.new.world left left both (c.in-Ok-push_round.ensures.wild left both.now both.wild tt)

pub returns-in-Err-turn_each-clause-wild : goal.returns-in-Err-turn_each-clause-wild
returns-in-Err-turn_each-clause-wild g c =
    (goes-off g.S.Serving.kit) Bool Bool always always c.in-Err-turn_each.answer c.args.world.now c.drain.new.world c.turn_each.new.world (g.S.Serving.kit.see (g.D.SharedDisk.seen c.args.disk.now) (g.J.SharedDisk.seen c.args.beside.now)) (g.S.Serving.kit.see (g.D.SharedDisk.seen c.drain.new.disk) (g.J.SharedDisk.seen c.drain.new.beside)) (g.S.Serving.kit.see (g.D.SharedDisk.seen c.turn_each.new.disk) (g.J.SharedDisk.seen c.turn_each.new.beside)) (λ seen wild so. c.in-Ok.ensures.wild seen wild tt) (λ one two grows so. tt) c.in-Err-turn_each.ensures.wild
