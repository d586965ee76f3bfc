use Rattle.std.proofs.Common.{Bool, true, subst}
use Rattle.std.specs.Prelude.{Err}
use Rattle.disk_model.specs.declared.answers.DiskAnswer.TheVariants.{Memory}
use Rattle.cluster_rounds.proofs.settling.settle.Goals as goal
use Rattle.cluster_rounds.specs.Settling.{SettlesSo}
use Rattle.cluster_rounds.specs.Rounds.{EndsRound}
use Rattle.cluster_rounds.specs.Worlds.{any_state}
use Rattle.cluster_rounds.proofs.BrokenClients.{same-breaks-if}
use Rattle.cluster_rounds.proofs.CameSteps.{alone-off}
use Rattle.cluster_rounds.proofs.SettleSteps.{settling-begins, settling-ends, settling-next, settling-off, settling-on}
use Rattle.cluster_rounds.specs.Wild.{always}
use Rattle.cluster_rounds.proofs.WildSteps.{asks-on, goes-off, wild-both, wild-same}
use Rattle.cluster_rounds.proofs.CountSteps.{counts-after}

pub loop-round-init : goal.loop-round-init
loop-round-init g c =
    let held = g.S.Serving.kit.see (g.D.SharedDisk.seen c.args.disk.now) (g.J.SharedDisk.seen c.args.beside.now) in (
      (settling-begins g.S.Serving.kit g.met.S.Serving.laws) c.args.world.now c.args.lines.now.items held,
      λ seen wild. (wild-same g.S.Serving.kit) seen c.args.world.now held wild,
      g.met.S.Serving.laws.stands held,
    )

pub round-requires : goal.round-requires
round-requires g c =
    let held = g.S.Serving.kit.see (g.D.SharedDisk.seen c.args.disk.now) (g.J.SharedDisk.seen c.args.beside.now) in
    let told = g.S.Serving.kit.see (g.D.SharedDisk.seen c.loop-round.disk) (g.J.SharedDisk.seen c.loop-round.beside) in
    (asks-on g.S.Serving.kit) always always c.args.world.now c.loop-round.world held told c.requires
    (λ has. (settling-on g.S.Serving.kit g.met.S.Serving.laws) c.args.world.now c.loop-round.world c.args.lines.now.items c.loop-round.lines.items true held told has c.loop-round.invariant.0)
    (λ seen wild so. (c.loop-round.invariant.1 seen wild, tt))

pub loop-round-preserved : goal.loop-round-preserved
loop-round-preserved g c =
    let held = g.S.Serving.kit.see (g.D.SharedDisk.seen c.args.disk.now) (g.J.SharedDisk.seen c.args.beside.now) in
    let told = g.S.Serving.kit.see (g.D.SharedDisk.seen c.loop-round.disk) (g.J.SharedDisk.seen c.loop-round.beside) in
    let left = g.S.Serving.kit.see (g.D.SharedDisk.seen c.round.new.disk) (g.J.SharedDisk.seen c.round.new.beside) in
    let next = (settling-next g.S.Serving.kit g.met.S.Serving.laws) c.args.world.now c.loop-round.world c.round.new.world c.args.lines.now.items c.loop-round.lines.items c.round.new.lines.items c.in-Ok.loud held told left c.loop-round.invariant.0 c.in-Ok.ensures.ok in (
      subst (λ (b : Bool). (SettlesSo g.S.Serving.kit) c.args.world.now c.round.new.world c.args.lines.now.items c.round.new.lines.items b held left) c.if-not-loud.false next,
      λ seen wild. let before_it = c.loop-round.invariant.1 seen wild in (wild-both g.S.Serving.kit) seen c.loop-round.world c.round.new.world told left before_it (c.in-Ok.ensures.wild before_it.now before_it.wild tt),
      g.met.S.Serving.laws.further held told left c.loop-round.invariant.2 c.in-Ok.ensures.counts,
    )

pub returns-then-not-loud-clause-ok : goal.returns-then-not-loud-clause-ok
returns-then-not-loud-clause-ok g c =
    let held = g.S.Serving.kit.see (g.D.SharedDisk.seen c.args.disk.now) (g.J.SharedDisk.seen c.args.beside.now) in
    let left = g.S.Serving.kit.see (g.D.SharedDisk.seen c.round.new.disk) (g.J.SharedDisk.seen c.round.new.beside) in
    let next = (settling-next g.S.Serving.kit g.met.S.Serving.laws) c.args.world.now c.loop-round.world c.round.new.world c.args.lines.now.items c.loop-round.lines.items c.round.new.lines.items c.in-Ok.loud held (g.S.Serving.kit.see (g.D.SharedDisk.seen c.loop-round.disk) (g.J.SharedDisk.seen c.loop-round.beside)) left c.loop-round.invariant.0 c.in-Ok.ensures.ok in
    (settling-ends g.S.Serving.kit g.met.S.Serving.laws) c.args.world.now c.round.new.world c.args.lines.now.items c.round.new.lines.items c.in-Ok.loud held left c.if-not-loud.true next

pub returns-then-not-loud-clause-wild : goal.returns-then-not-loud-clause-wild
returns-then-not-loud-clause-wild g c = λ seen wild so.
    let before_it = c.loop-round.invariant.1 seen wild in
    (wild-both g.S.Serving.kit) seen c.loop-round.world c.round.new.world (g.S.Serving.kit.see (g.D.SharedDisk.seen c.loop-round.disk) (g.J.SharedDisk.seen c.loop-round.beside)) (g.S.Serving.kit.see (g.D.SharedDisk.seen c.round.new.disk) (g.J.SharedDisk.seen c.round.new.beside)) before_it (c.in-Ok.ensures.wild before_it.now before_it.wild tt)

pub returns-in-Err-clause-err : goal.returns-in-Err-clause-err
returns-in-Err-clause-err g c =
    (settling-off g.S.Serving.kit g.met.S.Serving.laws) c.in-Err.answer c.args.world.now c.loop-round.world c.round.new.world c.args.lines.now.items c.loop-round.lines.items c.round.new.lines.items (g.S.Serving.kit.see (g.D.SharedDisk.seen c.args.disk.now) (g.J.SharedDisk.seen c.args.beside.now)) (g.S.Serving.kit.see (g.D.SharedDisk.seen c.loop-round.disk) (g.J.SharedDisk.seen c.loop-round.beside)) (g.S.Serving.kit.see (g.D.SharedDisk.seen c.round.new.disk) (g.J.SharedDisk.seen c.round.new.beside)) c.loop-round.invariant.0 c.in-Err.ensures.err

pub returns-in-Err-clause-wild : goal.returns-in-Err-clause-wild
returns-in-Err-clause-wild g c =
    (goes-off g.S.Serving.kit) Bool (Unit {0}) always always c.in-Err.answer c.args.world.now c.loop-round.world c.round.new.world (g.S.Serving.kit.see (g.D.SharedDisk.seen c.args.disk.now) (g.J.SharedDisk.seen c.args.beside.now)) (g.S.Serving.kit.see (g.D.SharedDisk.seen c.loop-round.disk) (g.J.SharedDisk.seen c.loop-round.beside)) (g.S.Serving.kit.see (g.D.SharedDisk.seen c.round.new.disk) (g.J.SharedDisk.seen c.round.new.beside)) (λ seen wild so. c.loop-round.invariant.1 seen wild) (λ one two grows so. tt) c.in-Err.ensures.wild

-- no round is left: that is told as memory that ran out
pub returns-clause-err : goal.returns-clause-err
returns-clause-err g c =
    let told = g.S.Serving.kit.see (g.D.SharedDisk.seen c.loop-round.disk) (g.J.SharedDisk.seen c.loop-round.beside) in
    let now = c.loop-round.world in
    let between = c.loop-round.lines.items in
    (settling-off g.S.Serving.kit g.met.S.Serving.laws) Memory c.args.world.now now now c.args.lines.now.items between between (g.S.Serving.kit.see (g.D.SharedDisk.seen c.args.disk.now) (g.J.SharedDisk.seen c.args.beside.now)) told told c.loop-round.invariant.0
    ((alone-off g.S.Serving.kit g.met.S.Serving.laws) any_state (EndsRound g.S.Serving.kit) now now between between told ((same-breaks-if g.S.Serving.kit g.met.S.Serving.laws) any_state now))

pub returns-in-Err-clause-counts : goal.returns-in-Err-clause-counts
returns-in-Err-clause-counts g c = (counts-after g.S.Serving.kit g.met.S.Serving.laws) {T = Bool} (Err c.in-Err.answer) (g.S.Serving.kit.see (g.D.SharedDisk.seen c.args.disk.now) (g.J.SharedDisk.seen c.args.beside.now)) (g.S.Serving.kit.see (g.D.SharedDisk.seen c.loop-round.disk) (g.J.SharedDisk.seen c.loop-round.beside)) (g.S.Serving.kit.see (g.D.SharedDisk.seen c.round.new.disk) (g.J.SharedDisk.seen c.round.new.beside)) c.loop-round.invariant.2 c.in-Err.ensures.counts

pub returns-clause-counts : goal.returns-clause-counts
returns-clause-counts g c = c.loop-round.invariant.2

pub returns-then-not-loud-clause-counts : goal.returns-then-not-loud-clause-counts
returns-then-not-loud-clause-counts g c = g.met.S.Serving.laws.further (g.S.Serving.kit.see (g.D.SharedDisk.seen c.args.disk.now) (g.J.SharedDisk.seen c.args.beside.now)) (g.S.Serving.kit.see (g.D.SharedDisk.seen c.loop-round.disk) (g.J.SharedDisk.seen c.loop-round.beside)) (g.S.Serving.kit.see (g.D.SharedDisk.seen c.round.new.disk) (g.J.SharedDisk.seen c.round.new.beside)) c.loop-round.invariant.2 c.in-Ok.ensures.counts
