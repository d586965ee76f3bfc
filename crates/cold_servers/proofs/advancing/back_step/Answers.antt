use Rattle.std.proofs.Common.{◌≡◌, Bool, [], ap, subst, sym}
use Rattle.std.specs.Prelude.{IfErr, IfOk}
use Rattle.cluster_rounds.specs.declared.cluster.Cluster.{Cluster}
use Rattle.cluster_rounds.specs.Came.{Advances, ComesOff}
use Rattle.cluster_rounds.specs.Rounds.{EndsStep}
use Rattle.cluster_rounds.specs.Wild.{GoesWild, StandsOn, always}
use Rattle.cluster_rounds.specs.Worlds.{any_state}
use Rattle.lone_server.specs.declared.lone.Lone.{Lone}
use Rattle.cold_servers.specs.declared.solo.Solo.{Solo}
use Rattle.lone_server.specs.Working.{HearsBack}
use Rattle.cold_servers.specs.ColdKit.{cold_kit}
use Rattle.cold_servers.specs.ColdLaws.{cold_laws}
use Rattle.cold_servers.specs.ColdSeen.{ColdSeen}
use Rattle.cold_servers.specs.Steps.{AreUp}
use Rattle.cold_servers.proofs.AdvanceSteps.{back-comes, back-off, world-same}
use Rattle.cold_servers.proofs.SilentLines.{back-ok}
use Rattle.cold_servers.proofs.SilentWorlds.{back-on}
use Rattle.cold_servers.proofs.advancing.back_step.Goals as goal

pub hear_back-requires : goal.hear_back-requires
hear_back-requires g c =
    back-ok c.args.world.now (cold_kit.see (g.D.SharedDisk.seen c.args.disk.now) (g.J.SharedDisk.seen c.args.beside.now)) c.requires.state c.requires.up

pub returns-in-Err-clause-err : goal.returns-in-Err-clause-err
returns-in-Err-clause-err g c =
    let held : ColdSeen = cold_kit.see (g.D.SharedDisk.seen c.args.disk.now) (g.J.SharedDisk.seen c.args.beside.now) in
    back-off c.args.world.now c.hear_back.new.servers c.args.lines.now.items c.args.lines.now.items held (ap (λ (lone : Lone). lone.armed) c.in-Err.ensures.err.is)

pub returns-in-Err-clause-counts : goal.returns-in-Err-clause-counts
returns-in-Err-clause-counts g c = cold_laws.stands (cold_kit.see (g.D.SharedDisk.seen c.args.disk.now) (g.J.SharedDisk.seen c.args.beside.now))

pub returns-then-heard-clause-ok : goal.returns-then-heard-clause-ok
returns-then-heard-clause-ok g c =
    let held : ColdSeen = cold_kit.see (g.D.SharedDisk.seen c.args.disk.now) (g.J.SharedDisk.seen c.args.beside.now) in
    let H : Bool → Type 0 = λ went. HearsBack went c.args.world.now.servers.lone c.hear_back.new.servers in
    back-comes c.args.world.now c.hear_back.new.servers c.args.lines.now.items held c.requires.up.states (subst H c.if-heard.true c.in-Ok.ensures.ok)

pub returns-then-heard-clause-wild : goal.returns-then-heard-clause-wild
returns-then-heard-clause-wild g c =
    let held : ColdSeen = cold_kit.see (g.D.SharedDisk.seen c.args.disk.now) (g.J.SharedDisk.seen c.args.beside.now) in
    λ seen wild so. back-on c.in-Ok.heard c.args.world.now c.hear_back.new.servers held c.requires.up c.in-Ok.ensures.ok seen wild

pub returns-then-heard-clause-counts : goal.returns-then-heard-clause-counts
returns-then-heard-clause-counts g c = cold_laws.stands (cold_kit.see (g.D.SharedDisk.seen c.args.disk.now) (g.J.SharedDisk.seen c.args.beside.now))

-- nothing came back
pub work_step-requires : goal.work_step-requires
work_step-requires g c =
    let held : ColdSeen = cold_kit.see (g.D.SharedDisk.seen c.args.disk.now) (g.J.SharedDisk.seen c.args.beside.now) in
    let H : Bool → Type 0 = λ went. HearsBack went c.args.world.now.servers.lone c.hear_back.new.servers in
    let none = subst H c.if-heard.false c.in-Ok.ensures.ok in
    let same = world-same c.args.world.now c.hear_back.new.servers none.1 in
    record {
      state = subst (λ (w : Cluster Solo). StandsOn cold_kit any_state always w held) (sym same) c.requires.state;
      up = subst (λ (w : Cluster Solo). AreUp w) (sym same) c.requires.up;
      link = subst (λ (s : Lone). s.link ≡ []) (sym none.1) c.requires.link;
      back = subst (λ (s : Lone). s.back ≡ []) (sym none.1) none.0;
    }

pub returns-clause-ok : goal.returns-clause-ok
returns-clause-ok g c =
    let held : ColdSeen = cold_kit.see (g.D.SharedDisk.seen c.args.disk.now) (g.J.SharedDisk.seen c.args.beside.now) in
    let left : ColdSeen = cold_kit.see (g.D.SharedDisk.seen c.work_step.new.disk) (g.J.SharedDisk.seen c.work_step.new.beside) in
    let H : Bool → Type 0 = λ went. HearsBack went c.args.world.now.servers.lone c.hear_back.new.servers in
    let none = subst H c.if-heard.false c.in-Ok.ensures.ok in
    let same = world-same c.args.world.now c.hear_back.new.servers none.1 in
    subst (λ (w : Cluster Solo). IfOk c.work_step.result (λ went. Advances cold_kit went w c.work_step.new.world c.args.lines.now.items c.work_step.new.lines.items held left)) same c.work_step.ensures.ok

pub returns-clause-err : goal.returns-clause-err
returns-clause-err g c =
    let held : ColdSeen = cold_kit.see (g.D.SharedDisk.seen c.args.disk.now) (g.J.SharedDisk.seen c.args.beside.now) in
    let left : ColdSeen = cold_kit.see (g.D.SharedDisk.seen c.work_step.new.disk) (g.J.SharedDisk.seen c.work_step.new.beside) in
    let H : Bool → Type 0 = λ went. HearsBack went c.args.world.now.servers.lone c.hear_back.new.servers in
    let none = subst H c.if-heard.false c.in-Ok.ensures.ok in
    let same = world-same c.args.world.now c.hear_back.new.servers none.1 in
    subst (λ (w : Cluster Solo). IfErr c.work_step.result (λ answer. ComesOff cold_kit any_state (EndsStep cold_kit) answer w c.work_step.new.world c.args.lines.now.items c.work_step.new.lines.items held left)) same c.work_step.ensures.err

pub returns-clause-wild : goal.returns-clause-wild
returns-clause-wild g c =
    let held : ColdSeen = cold_kit.see (g.D.SharedDisk.seen c.args.disk.now) (g.J.SharedDisk.seen c.args.beside.now) in
    let left : ColdSeen = cold_kit.see (g.D.SharedDisk.seen c.work_step.new.disk) (g.J.SharedDisk.seen c.work_step.new.beside) in
    let H : Bool → Type 0 = λ went. HearsBack went c.args.world.now.servers.lone c.hear_back.new.servers in
    let none = subst H c.if-heard.false c.in-Ok.ensures.ok in
    let same = world-same c.args.world.now c.hear_back.new.servers none.1 in
    subst (λ (w : Cluster Solo). GoesWild cold_kit always c.work_step.result w c.work_step.new.world held left) same c.work_step.ensures.wild
