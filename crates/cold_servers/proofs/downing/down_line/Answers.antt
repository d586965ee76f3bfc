use Rattle.std.proofs.Common.{refl, sym, subst}
use Rattle.std.specs.Prelude.{Ok}
use Rattle.std.specs.Result.{is_ok}
use Rattle.script_lines.specs.declared.line.Line.{Line}
use Rattle.cluster_clients.proofs.DispatchSteps.{on-err}
use Rattle.cluster_clients.specs.Looks.{FileCalls, ListCalls}
use Rattle.cluster_rounds.proofs.WildSteps.{on-ok}
use Rattle.cluster_rounds.proofs.BrokenClients.{same-breaks}
use Rattle.cluster_lines.specs.Playing.{LooksBy}
use Rattle.cluster_lines.proofs.LineBroken.{looked-read}
use Rattle.cluster_lines.proofs.LineSteps.{looks-alone, shows-none}
use Rattle.cluster_lines.proofs.WildLines.{ends-wild, same-wild, shown-wild}
use Rattle.cold_servers.specs.ColdKit.{cold_kit}
use Rattle.cold_servers.specs.ColdLaws.{cold_laws}
use Rattle.cold_servers.specs.ColdSeen.{ColdSeen}
use Rattle.cold_servers.specs.Down.{PlaysDownLine}
use Rattle.cold_servers.proofs.DownSteps.{cat-down, deliver-line, disarm-down, down-refused, files-down, leads-refused, resend-line}
use Rattle.cold_servers.proofs.SilentLines.{stands-of}
use Rattle.cold_servers.proofs.downing.down_line.Goals as goal

pub deliver_line-requires : goal.deliver_line-requires
deliver_line-requires g c = record {
  state = stands-of c.args.world.now (cold_kit.see (g.D.SharedDisk.seen c.args.disk.now) (g.J.SharedDisk.seen c.args.beside.now)) c.requires.state;
  line = c.in-Deliver.is;
}

pub resend_line-requires : goal.resend_line-requires
resend_line-requires g c = stands-of c.args.world.now (cold_kit.see (g.D.SharedDisk.seen c.args.disk.now) (g.J.SharedDisk.seen c.args.beside.now)) c.requires.state

pub show_file-requires : goal.show_file-requires
show_file-requires g c = c.in-Cat.is

pub returns-in-Deliver-clause-played : goal.returns-in-Deliver-clause-played
returns-in-Deliver-clause-played g c =
    let old = c.args.world.now in
    let before = c.args.lines.now.items in
    let one = g.D.SharedDisk.seen c.args.disk.now in
    let beside = g.J.SharedDisk.seen c.args.beside.now in
    let held : ColdSeen = cold_kit.see one beside in
    let new = c.deliver_line.new.world in
    let after = c.deliver_line.new.lines.items in
    subst (λ (next : Line). PlaysDownLine c.as_answer.result next old new before after held held) (sym c.in-Deliver.is)
    (deliver-line c.deliver_line.result c.as_answer.result c.in-Deliver.place old new before after held c.as_answer.ensures c.requires.down.states c.deliver_line.ensures.ok c.deliver_line.ensures.err)

pub returns-in-Deliver-clause-looks : goal.returns-in-Deliver-clause-looks
returns-in-Deliver-clause-looks g c =
    subst (λ (next : Line). LooksBy next (g.D.SharedDisk.seen c.args.disk.now).files (is_ok c.as_answer.result) (g.D.SharedDisk.seen c.args.disk.now).tally (g.D.SharedDisk.seen c.args.disk.now).tally) (sym c.in-Deliver.is) (λ shared. refl)

pub returns-in-Resend-clause-played : goal.returns-in-Resend-clause-played
returns-in-Resend-clause-played g c =
    let old = c.args.world.now in
    let before = c.args.lines.now.items in
    let one = g.D.SharedDisk.seen c.args.disk.now in
    let beside = g.J.SharedDisk.seen c.args.beside.now in
    let held : ColdSeen = cold_kit.see one beside in
    let new = c.resend_line.new.world in
    let after = c.resend_line.new.lines.items in
    subst (λ (next : Line). PlaysDownLine c.as_answer-in-Resend.result next old new before after held held) (sym c.in-Resend.is)
    (resend-line c.resend_line.result c.as_answer-in-Resend.result c.in-Resend.client old new before after held c.as_answer-in-Resend.ensures c.requires.down.states c.resend_line.ensures.ok c.resend_line.ensures.err)

pub returns-in-Resend-clause-looks : goal.returns-in-Resend-clause-looks
returns-in-Resend-clause-looks g c =
    subst (λ (next : Line). LooksBy next (g.D.SharedDisk.seen c.args.disk.now).files (is_ok c.as_answer-in-Resend.result) (g.D.SharedDisk.seen c.args.disk.now).tally (g.D.SharedDisk.seen c.args.disk.now).tally) (sym c.in-Resend.is) (λ shared. refl)

pub returns-in-Files-clause-played : goal.returns-in-Files-clause-played
returns-in-Files-clause-played g c =
    let old = c.args.world.now in
    let before = c.args.lines.now.items in
    let one = g.D.SharedDisk.seen c.args.disk.now in
    let beside = g.J.SharedDisk.seen c.args.beside.now in
    let held : ColdSeen = cold_kit.see one beside in
    let two = g.D.SharedDisk.seen c.show_files.new.disk in
    let after = c.show_files.new.lines.items in
    let it = c.show_files.ensures in
    subst (λ (next : Line). PlaysDownLine c.show_files.result next old old before after held (cold_kit.see two beside)) (sym c.in-Files.is)
    (files-down c.show_files.result old before after one two beside c.requires.down.states it.ok it.stays it.same it.cause it.never_stopped it.stops it.looks)

pub returns-in-Files-clause-looks : goal.returns-in-Files-clause-looks
returns-in-Files-clause-looks g c =
    subst (λ (next : Line). LooksBy next (g.D.SharedDisk.seen c.args.disk.now).files (is_ok c.show_files.result) (g.D.SharedDisk.seen c.args.disk.now).tally (g.D.SharedDisk.seen c.show_files.new.disk).tally) (sym c.in-Files.is) c.show_files.ensures.looks

pub returns-in-Cat-clause-played : goal.returns-in-Cat-clause-played
returns-in-Cat-clause-played g c =
    let old = c.args.world.now in
    let before = c.args.lines.now.items in
    let one = g.D.SharedDisk.seen c.args.disk.now in
    let beside = g.J.SharedDisk.seen c.args.beside.now in
    let held : ColdSeen = cold_kit.see one beside in
    let two = g.D.SharedDisk.seen c.show_file.new.disk in
    let after = c.show_file.new.lines.items in
    let it = c.show_file.ensures in
    subst (λ (next : Line). PlaysDownLine c.show_file.result next old old before after held (cold_kit.see two beside)) (sym c.in-Cat.is)
    (cat-down c.show_file.result c.in-Cat.name old before after one two beside c.requires.down.states it.ok it.stays it.same it.cause it.never_stopped it.stops it.looks)

pub returns-in-Cat-clause-looks : goal.returns-in-Cat-clause-looks
returns-in-Cat-clause-looks g c =
    subst (λ (next : Line). LooksBy next (g.D.SharedDisk.seen c.args.disk.now).files (is_ok c.show_file.result) (g.D.SharedDisk.seen c.args.disk.now).tally (g.D.SharedDisk.seen c.show_file.new.disk).tally) (sym c.in-Cat.is) c.show_file.ensures.looks

pub returns-in-Disarm-clause-played : goal.returns-in-Disarm-clause-played
returns-in-Disarm-clause-played g c =
    let old = c.args.world.now in
    let before = c.args.lines.now.items in
    let one = g.D.SharedDisk.seen c.args.disk.now in
    let beside = g.J.SharedDisk.seen c.args.beside.now in
    let held : ColdSeen = cold_kit.see one beside in
    let left : ColdSeen = cold_kit.see (g.D.SharedDisk.seen c.disarm.new.disk) (g.J.SharedDisk.seen c.disarm.new.beside) in
    subst (λ (next : Line). PlaysDownLine (Ok _) next old c.disarm.new.world before before held left) (sym c.in-Disarm.is)
    (disarm-down _ old c.disarm.new.world before held left c.requires.down.states (c.disarm.ensures.states before) c.disarm.ensures.counts)

pub returns-in-Disarm-clause-looks : goal.returns-in-Disarm-clause-looks
returns-in-Disarm-clause-looks g c =
    subst (λ (next : Line). LooksBy next (g.D.SharedDisk.seen c.args.disk.now).files _ (g.D.SharedDisk.seen c.args.disk.now).tally (g.D.SharedDisk.seen c.disarm.new.disk).tally) (sym c.in-Disarm.is) (λ own. cc)

pub returns-in_default-clause-played : goal.returns-in_default-clause-played
returns-in_default-clause-played g c =
    let old = c.args.world.now in
    let before = c.args.lines.now.items in
    let one = g.D.SharedDisk.seen c.args.disk.now in
    let beside = g.J.SharedDisk.seen c.args.beside.now in
    let held : ColdSeen = cold_kit.see one beside in
    let it = c.in_default in
    down-refused c.refuse.result c.as_answer-in_default.result c.args.line.now old before c.refuse.new.lines.items held (shows-none c.args.line.now it.not-Files it.not-Cat) c.as_answer-in_default.ensures c.requires.down.states
    (leads-refused c.args.line.now c.requires.line it.not-Deliver it.not-Resend it.not-Files it.not-Cat it.not-Disarm) c.refuse.ensures.ok (on-err c.refuse.result ((same-breaks cold_kit cold_laws) old))

pub returns-in_default-clause-looks : goal.returns-in_default-clause-looks
returns-in_default-clause-looks g c =
    looks-alone c.args.line.now (g.D.SharedDisk.seen c.args.disk.now).files (is_ok c.as_answer-in_default.result) (g.D.SharedDisk.seen c.args.disk.now).tally c.in_default.not-Files c.in_default.not-Cat

pub returns-in-Deliver-clause-wild : goal.returns-in-Deliver-clause-wild
returns-in-Deliver-clause-wild g c =
    let held : ColdSeen = cold_kit.see (g.D.SharedDisk.seen c.args.disk.now) (g.J.SharedDisk.seen c.args.beside.now) in
    (ends-wild cold_kit cold_laws) c.deliver_line.result c.as_answer.result c.args.world.now c.deliver_line.new.world held c.as_answer.ensures c.deliver_line.ensures.wild

pub returns-in-Resend-clause-wild : goal.returns-in-Resend-clause-wild
returns-in-Resend-clause-wild g c =
    let held : ColdSeen = cold_kit.see (g.D.SharedDisk.seen c.args.disk.now) (g.J.SharedDisk.seen c.args.beside.now) in
    (ends-wild cold_kit cold_laws) c.resend_line.result c.as_answer-in-Resend.result c.args.world.now c.resend_line.new.world held c.as_answer-in-Resend.ensures c.resend_line.ensures.wild

pub returns-in-Files-clause-wild : goal.returns-in-Files-clause-wild
returns-in-Files-clause-wild g c =
    let one = g.D.SharedDisk.seen c.args.disk.now in
    let two = g.D.SharedDisk.seen c.show_files.new.disk in
    let it = c.show_files.ensures in
    (shown-wild cold_kit cold_laws) c.show_files.result c.args.world.now one two (g.J.SharedDisk.seen c.args.beside.now)
    (looked-read one two (ListCalls one.files) (is_ok c.show_files.result) it.same it.stops it.looks)

pub returns-in-Cat-clause-wild : goal.returns-in-Cat-clause-wild
returns-in-Cat-clause-wild g c =
    let one = g.D.SharedDisk.seen c.args.disk.now in
    let two = g.D.SharedDisk.seen c.show_file.new.disk in
    let it = c.show_file.ensures in
    (shown-wild cold_kit cold_laws) c.show_file.result c.args.world.now one two (g.J.SharedDisk.seen c.args.beside.now)
    (looked-read one two (FileCalls c.in-Cat.name one.files) (is_ok c.show_file.result) it.same it.stops it.looks)

pub returns-in-Disarm-clause-wild : goal.returns-in-Disarm-clause-wild
returns-in-Disarm-clause-wild g c = λ seen wild so. c.disarm.ensures.wild seen wild

pub returns-in_default-clause-wild : goal.returns-in_default-clause-wild
returns-in_default-clause-wild g c =
    let held : ColdSeen = cold_kit.see (g.D.SharedDisk.seen c.args.disk.now) (g.J.SharedDisk.seen c.args.beside.now) in
    (ends-wild cold_kit cold_laws) c.refuse.result c.as_answer-in_default.result c.args.world.now c.args.world.now held c.as_answer-in_default.ensures
    (on-ok c.refuse.result ((same-wild cold_kit cold_laws) c.args.world.now))
