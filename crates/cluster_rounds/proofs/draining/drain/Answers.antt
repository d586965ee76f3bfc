use Rattle.std.proofs.Common.{◌≡◌, Bool, ◌||◌, nat_lt, length, true, false, sym, ◌∙◌, ap, subst, arith, ◌+◌}
use Rattle.std.specs.Prelude.{Err}
use Rattle.cluster_rounds.specs.Worlds.{any_state}
use Rattle.cluster_rounds.specs.Rounds.{advances_by}
use Rattle.cluster_rounds.specs.Came.{Comes, Advances}
use Rattle.cluster_rounds.proofs.TurnSteps.{steps-begin, steps-further, steps-on, steps-drain, steps-over, steps-off}
use Rattle.cluster_rounds.proofs.draining.drain.Goals as goal
use Rattle.cluster_rounds.proofs.WildSteps.{asks-on, wild-same, wild-both, goes-off}
use Rattle.cluster_rounds.specs.Wild.{always}
use Rattle.cluster_rounds.proofs.CountSteps.{counts-after}

pub loop-step-init : goal.loop-step-init
loop-step-init g c =
    let held = g.S.Serving.kit.see (g.D.SharedDisk.seen c.args.disk.now) (g.J.SharedDisk.seen c.args.beside.now) in (
      (steps-begin g.S.Serving.kit g.met.S.Serving.laws) c.args.world.now c.args.lines.now.items held,
      λ seen wild. (wild-same g.S.Serving.kit) seen c.args.world.now held wild,
      g.met.S.Serving.laws.stands held,
    )

pub advance-requires : goal.advance-requires
advance-requires g c =
    let held = g.S.Serving.kit.see (g.D.SharedDisk.seen c.args.disk.now) (g.J.SharedDisk.seen c.args.beside.now) in
    let told = g.S.Serving.kit.see (g.D.SharedDisk.seen c.loop-step.disk) (g.J.SharedDisk.seen c.loop-step.beside) in
    (asks-on g.S.Serving.kit) always always c.args.world.now c.loop-step.world held told c.requires
    (λ has. (steps-on g.S.Serving.kit g.met.S.Serving.laws) c.loop-step._step c.args.world.now c.loop-step.world c.args.lines.now.items c.loop-step.lines.items c.loop-step.loud held told has c.loop-step.invariant.0)
    (λ seen wild so. (c.loop-step.invariant.1 seen wild, tt))

pub loop-step-preserved : goal.loop-step-preserved
loop-step-preserved g c =
    let old = c.args.world.now in
    let now = c.loop-step.world in
    let new = c.advance.new.world in
    let before = c.args.lines.now.items in
    let between = c.loop-step.lines.items in
    let after = c.advance.new.lines.items in
    let held = g.S.Serving.kit.see (g.D.SharedDisk.seen c.args.disk.now) (g.J.SharedDisk.seen c.args.beside.now) in
    let told = g.S.Serving.kit.see (g.D.SharedDisk.seen c.loop-step.disk) (g.J.SharedDisk.seen c.loop-step.beside) in
    let left = g.S.Serving.kit.see (g.D.SharedDisk.seen c.advance.new.disk) (g.J.SharedDisk.seen c.advance.new.beside) in
    let step = c.loop-step._step in
    let went : (Advances g.S.Serving.kit) true now new between after told left = subst (λ (b : Bool). (Advances g.S.Serving.kit) b now new between after told left) c.if-went.true c.in-Ok.ensures.ok in
    let comes = (steps-further g.S.Serving.kit g.met.S.Serving.laws) step (step + 1) old now new before between after c.loop-step.loud held told left (omega arith) c.loop-step.invariant.0 went in
    let grew : nat_lt c.len-entries.result c.len.result ≡ nat_lt (length now.history.entries) (length new.history.entries) = λ i. nat_lt (c.len-entries.ensures i) (c.len.ensures i) in (
      subst (λ (b : Bool). (Comes g.S.Serving.kit) any_state ((advances_by g.S.Serving.kit) (step + 1)) old new before after b held left) (sym (c.either-loud.ensures ∙ ap (λ b. c.loop-step.loud || b) grew)) comes,
      λ seen wild. let before_it = c.loop-step.invariant.1 seen wild in (wild-both g.S.Serving.kit) seen now new told left before_it (c.in-Ok.ensures.wild before_it.now before_it.wild tt),
      g.met.S.Serving.laws.further held told left c.loop-step.invariant.2 c.in-Ok.ensures.counts,
    )

pub returns-else-went-clause-ok : goal.returns-else-went-clause-ok
returns-else-went-clause-ok g c =
    let now = c.loop-step.world in
    let new = c.advance.new.world in
    let between = c.loop-step.lines.items in
    let after = c.advance.new.lines.items in
    let told = g.S.Serving.kit.see (g.D.SharedDisk.seen c.loop-step.disk) (g.J.SharedDisk.seen c.loop-step.beside) in
    let left = g.S.Serving.kit.see (g.D.SharedDisk.seen c.advance.new.disk) (g.J.SharedDisk.seen c.advance.new.beside) in
    let stuck : (Advances g.S.Serving.kit) false now new between after told left = subst (λ (b : Bool). (Advances g.S.Serving.kit) b now new between after told left) c.if-went.false c.in-Ok.ensures.ok in
    (steps-over g.S.Serving.kit g.met.S.Serving.laws) c.loop-step._step c.args.world.now now new c.args.lines.now.items between after c.loop-step.loud (g.S.Serving.kit.see (g.D.SharedDisk.seen c.args.disk.now) (g.J.SharedDisk.seen c.args.beside.now)) told left (omega (arith, c.loop-step-test.true, c.steps-step-end.ensures)) c.loop-step.invariant.0 stuck

pub returns-clause-ok : goal.returns-clause-ok
returns-clause-ok g c =
    (steps-drain g.S.Serving.kit g.met.S.Serving.laws) c.loop-step._step c.args.world.now c.loop-step.world c.args.lines.now.items c.loop-step.lines.items c.loop-step.loud (g.S.Serving.kit.see (g.D.SharedDisk.seen c.args.disk.now) (g.J.SharedDisk.seen c.args.beside.now)) (g.S.Serving.kit.see (g.D.SharedDisk.seen c.loop-step.disk) (g.J.SharedDisk.seen c.loop-step.beside)) (omega (arith, c.loop-step-test.false, c.steps-step-end.ensures)) c.loop-step.invariant.0

pub returns-in-Err-clause-err : goal.returns-in-Err-clause-err
returns-in-Err-clause-err g c =
    (steps-off g.S.Serving.kit g.met.S.Serving.laws) c.loop-step._step c.in-Err.answer c.args.world.now c.loop-step.world c.advance.new.world c.args.lines.now.items c.loop-step.lines.items c.advance.new.lines.items c.loop-step.loud (g.S.Serving.kit.see (g.D.SharedDisk.seen c.args.disk.now) (g.J.SharedDisk.seen c.args.beside.now)) (g.S.Serving.kit.see (g.D.SharedDisk.seen c.loop-step.disk) (g.J.SharedDisk.seen c.loop-step.beside)) (g.S.Serving.kit.see (g.D.SharedDisk.seen c.advance.new.disk) (g.J.SharedDisk.seen c.advance.new.beside)) (omega (arith, c.loop-step-test.true, c.steps-step-end.ensures)) c.loop-step.invariant.0 c.in-Err.ensures.err

pub returns-else-went-clause-wild : goal.returns-else-went-clause-wild
returns-else-went-clause-wild g c = λ seen wild so.
    let before_it = c.loop-step.invariant.1 seen wild in
    (wild-both g.S.Serving.kit) seen c.loop-step.world c.advance.new.world (g.S.Serving.kit.see (g.D.SharedDisk.seen c.loop-step.disk) (g.J.SharedDisk.seen c.loop-step.beside)) (g.S.Serving.kit.see (g.D.SharedDisk.seen c.advance.new.disk) (g.J.SharedDisk.seen c.advance.new.beside)) before_it (c.in-Ok.ensures.wild before_it.now before_it.wild tt)

pub returns-clause-wild : goal.returns-clause-wild
returns-clause-wild g c = λ seen wild so. c.loop-step.invariant.1 seen wild

pub returns-in-Err-clause-wild : goal.returns-in-Err-clause-wild
returns-in-Err-clause-wild g c =
    (goes-off g.S.Serving.kit) Bool Bool always always c.in-Err.answer c.args.world.now c.loop-step.world c.advance.new.world (g.S.Serving.kit.see (g.D.SharedDisk.seen c.args.disk.now) (g.J.SharedDisk.seen c.args.beside.now)) (g.S.Serving.kit.see (g.D.SharedDisk.seen c.loop-step.disk) (g.J.SharedDisk.seen c.loop-step.beside)) (g.S.Serving.kit.see (g.D.SharedDisk.seen c.advance.new.disk) (g.J.SharedDisk.seen c.advance.new.beside)) (λ seen wild so. c.loop-step.invariant.1 seen wild) (λ one two grows so. tt) c.in-Err.ensures.wild

pub returns-in-Err-clause-counts : goal.returns-in-Err-clause-counts
returns-in-Err-clause-counts g c = (counts-after g.S.Serving.kit g.met.S.Serving.laws) {T = Bool} (Err c.in-Err.answer) (g.S.Serving.kit.see (g.D.SharedDisk.seen c.args.disk.now) (g.J.SharedDisk.seen c.args.beside.now)) (g.S.Serving.kit.see (g.D.SharedDisk.seen c.loop-step.disk) (g.J.SharedDisk.seen c.loop-step.beside)) (g.S.Serving.kit.see (g.D.SharedDisk.seen c.advance.new.disk) (g.J.SharedDisk.seen c.advance.new.beside)) c.loop-step.invariant.2 c.in-Err.ensures.counts

pub returns-clause-counts : goal.returns-clause-counts
returns-clause-counts g c = c.loop-step.invariant.2

pub returns-else-went-clause-counts : goal.returns-else-went-clause-counts
returns-else-went-clause-counts g c = g.met.S.Serving.laws.further (g.S.Serving.kit.see (g.D.SharedDisk.seen c.args.disk.now) (g.J.SharedDisk.seen c.args.beside.now)) (g.S.Serving.kit.see (g.D.SharedDisk.seen c.loop-step.disk) (g.J.SharedDisk.seen c.loop-step.beside)) (g.S.Serving.kit.see (g.D.SharedDisk.seen c.advance.new.disk) (g.J.SharedDisk.seen c.advance.new.beside)) c.loop-step.invariant.2 c.in-Ok.ensures.counts
