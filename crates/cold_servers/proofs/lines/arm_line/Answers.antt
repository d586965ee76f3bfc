use Rattle.std.proofs.Common.{◌≡◌, false, ap, refl, sym, subst, ◌∙◌}
use Rattle.std.specs.Prelude.{Ok}
use Rattle.script_lines.specs.declared.line.Line.{Line}
use Rattle.script_lines.specs.declared.line.Line.TheVariants.{Arm}
use Rattle.script_lines.specs.declared.line.Server.{Server}
use Rattle.script_lines.specs.declared.line.Server.TheVariants.{A, B}
use Rattle.cluster_lines.specs.Lines.{IsInRange, shows_files}
use Rattle.cold_servers.specs.ColdKit.{cold_kit}
use Rattle.cold_servers.specs.ColdSeen.{ColdSeen}
use Rattle.cold_servers.specs.Steps.{IsRefusedUp, PlaysUp}
use Rattle.cold_servers.proofs.OwnLines.{arm-disk-line, arm-journal-line}
use Rattle.cold_servers.proofs.lines.arm_line.Goals as goal

pub arm_disk-requires : goal.arm_disk-requires
arm_disk-requires g c = record { up = c.requires.up; some = subst IsInRange c.requires.line c.requires.range }

pub arm_journal-requires : goal.arm_journal-requires
arm_journal-requires g c = record { up = c.requires.up; some = subst IsInRange c.requires.line c.requires.range }

pub returns-in-A : goal.returns-in-A
returns-in-A g c =
    let old = c.args.world.now in
    let lines = c.args.lines.now.items in
    let held : ColdSeen = cold_kit.see (g.D.SharedDisk.seen c.args.disk.now) (g.J.SharedDisk.seen c.args.beside.now) in
    let left : ColdSeen = cold_kit.see (g.D.SharedDisk.seen c.arm_disk.new.disk) (g.J.SharedDisk.seen c.arm_disk.new.beside) in
    let line : PlaysUp {T = Unit {0}} (Ok _) (Arm A c.args.count) old c.arm_disk.new.world lines lines held left = record {
      states = λ has. arm-disk-line _ c.args.count old c.arm_disk.new.world lines held left (subst IsInRange c.requires.line c.requires.range) has c.requires.up.states (c.arm_disk.ensures.states lines);
      wild = λ seen wild so. c.arm_disk.ensures.wild seen wild;
      counts = c.arm_disk.ensures.counts;
    }
    in
    subst (λ (next : Line). PlaysUp {T = Unit {0}} (Ok _) next old c.arm_disk.new.world lines lines held left) (sym (c.requires.line ∙ ap (λ (s : Server). Arm s c.args.count) c.in-A.is)) line

pub returns-in-B : goal.returns-in-B
returns-in-B g c =
    let old = c.args.world.now in
    let lines = c.args.lines.now.items in
    let held : ColdSeen = cold_kit.see (g.D.SharedDisk.seen c.args.disk.now) (g.J.SharedDisk.seen c.args.beside.now) in
    let left : ColdSeen = cold_kit.see (g.D.SharedDisk.seen c.arm_journal.new.disk) (g.J.SharedDisk.seen c.arm_journal.new.beside) in
    let line : PlaysUp {T = Unit {0}} (Ok _) (Arm B c.args.count) old c.arm_journal.new.world lines lines held left = record {
      states = λ has. arm-journal-line _ c.args.count old c.arm_journal.new.world lines held left (subst IsInRange c.requires.line c.requires.range) has c.requires.up.states (c.arm_journal.ensures.states lines);
      wild = λ seen wild so. c.arm_journal.ensures.wild seen wild;
      counts = c.arm_journal.ensures.counts;
    }
    in
    subst (λ (next : Line). PlaysUp {T = Unit {0}} (Ok _) next old c.arm_journal.new.world lines lines held left) (sym (c.requires.line ∙ ap (λ (s : Server). Arm s c.args.count) c.in-B.is)) line

pub refuse_line-requires : goal.refuse_line-requires
refuse_line-requires g c =
    let some = subst IsInRange c.requires.line c.requires.range in
    let is = sym (c.requires.line ∙ ap (λ (s : Server). Arm s c.args.count) c.in-C.is) in
    record {
      state = c.requires.state;
      up = c.requires.up;
      shown = subst (λ (next : Line). shows_files next ≡ false) is refl;
      refused = subst (λ (next : Line). IsRefusedUp next c.args.world.now) is (λ setup state good shows shelf device. (some, refl));
    }
