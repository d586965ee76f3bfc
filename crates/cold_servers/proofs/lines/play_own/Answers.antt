use Rattle.std.proofs.Common.{◌≡◌, false, refl, sym, subst}
use Rattle.std.specs.Prelude.{Ok}
use Rattle.script_lines.specs.declared.line.Line.{Line}
use Rattle.script_lines.specs.declared.line.Line.TheVariants.{Disarm}
use Rattle.cluster_lines.specs.Lines.{shows_files}
use Rattle.cold_servers.specs.ColdKit.{cold_kit}
use Rattle.cold_servers.specs.ColdSeen.{ColdSeen}
use Rattle.cold_servers.specs.Steps.{IsRefusedUp, PlaysUp}
use Rattle.cold_servers.proofs.OwnLines.{disarm-line}
use Rattle.cold_servers.proofs.lines.play_own.Goals as goal

pub mirror_line-requires : goal.mirror_line-requires
mirror_line-requires g c = record { state = c.requires.state; up = c.requires.up; line = c.in-Mirror.is }

pub ack_line-requires : goal.ack_line-requires
ack_line-requires g c = record { state = c.requires.state; up = c.requires.up; line = c.in-Ack.is }

pub work_line-requires : goal.work_line-requires
work_line-requires g c = record { state = c.requires.state; up = c.requires.up; line = c.in-Work.is }

pub crash_line-requires : goal.crash_line-requires
crash_line-requires g c = record { state = c.requires.state; up = c.requires.up; line = c.in-Crash.is }

pub arm_line-requires : goal.arm_line-requires
arm_line-requires g c = record { state = c.requires.state; up = c.requires.up; range = c.requires.range; line = c.in-Arm.is }

pub refuse_line-requires : goal.refuse_line-requires
refuse_line-requires g c =
    let is = sym c.in-Restart.is in
    record {
      state = c.requires.state;
      up = c.requires.up;
      shown = subst (λ (next : Line). shows_files next ≡ false) is refl;
      refused = subst (λ (next : Line). IsRefusedUp next c.args.world.now) is (λ setup state good shows shelf device. refl);
    }

pub returns-in-Disarm : goal.returns-in-Disarm
returns-in-Disarm g c =
    let old = c.args.world.now in
    let new = c.disarm.new.world in
    let lines = c.args.lines.now.items in
    let held : ColdSeen = cold_kit.see (g.D.SharedDisk.seen c.args.disk.now) (g.J.SharedDisk.seen c.args.beside.now) in
    let left : ColdSeen = cold_kit.see (g.D.SharedDisk.seen c.disarm.new.disk) (g.J.SharedDisk.seen c.disarm.new.beside) in
    let line : PlaysUp {T = Unit {0}} (Ok _) Disarm old new lines lines held left = record {
      states = λ has. disarm-line _ old new lines held left has c.requires.up.states (c.disarm.ensures.states lines);
      wild = λ seen wild so. c.disarm.ensures.wild seen wild;
      counts = c.disarm.ensures.counts;
    }
    in
    subst (λ (next : Line). PlaysUp {T = Unit {0}} (Ok _) next old new lines lines held left) (sym c.in-Disarm.is) line
