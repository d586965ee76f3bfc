use Rattle.std.proofs.Common.{◌≡◌, false, refl, sym, subst}
use Rattle.script_lines.specs.declared.line.Line.{Line}
use Rattle.script_lines.specs.declared.line.Line.TheVariants.{Work}
use Rattle.cluster_lines.specs.Lines.{shows_files}
use Rattle.cluster_lines.proofs.StopSteps.{stop-counts}
use Rattle.cluster_rounds.specs.declared.cluster.Cluster.{Cluster}
use Rattle.cold_servers.specs.declared.solo.Solo.{Solo}
use Rattle.cold_servers.specs.ColdKit.{cold_kit}
use Rattle.cold_servers.specs.ColdSeen.{ColdSeen}
use Rattle.cold_servers.specs.Steps.{IsRefusedUp, PlaysUp}
use Rattle.cold_servers.proofs.OwnLines.{work-refused}
use Rattle.cold_servers.proofs.OwnSteps.{work-line}
use Rattle.cold_servers.proofs.AdvanceSteps.{work-counts}
use Rattle.cold_servers.proofs.SilentLines.{replies-ok}
use Rattle.cold_servers.proofs.SilentWorlds.{stop-wild, works-wild}
use Rattle.cold_servers.proofs.lines.work_line.Goals as goal

pub refuse_line-requires : goal.refuse_line-requires
refuse_line-requires g c = record {
  state = c.requires.state;
  up = c.requires.up;
  shown = subst (λ (next : Line). shows_files next ≡ false) (sym c.requires.line) refl;
  refused = subst (λ (next : Line). IsRefusedUp next c.args.world.now) (sym c.requires.line)
      (work-refused c.args.world.now c.requires.up.states (λ some. let is = c.ready.ensures.1 some in let no = c.if-not-ready.true in cc));
}

pub work_entry-requires : goal.work_entry-requires
work_entry-requires g c =
    let ready = c.if-not-ready.ensures.0 refl in
    record {
      hand = ready.0;
      ready = ready.1;
      range = replies-ok c.args.world.now (cold_kit.see (g.D.SharedDisk.seen c.args.disk.now) (g.J.SharedDisk.seen c.args.beside.now)) c.requires.state c.requires.up ready.0 ready.1;
    }

pub returns : goal.returns
returns g c =
    let old = c.args.world.now in
    let servers = c.work_entry.new.servers in
    let net = c.work_entry.new.net in
    let before = c.args.lines.now.items in
    let after = c.work_entry.new.lines.items in
    let new : Cluster Solo = record old { servers = record { lone = servers }; net = net } in
    let held : ColdSeen = cold_kit.see (g.D.SharedDisk.seen c.args.disk.now) (g.J.SharedDisk.seen c.args.beside.now) in
    let left : ColdSeen = cold_kit.see (g.D.SharedDisk.seen c.work_entry.new.disk) (g.J.SharedDisk.seen c.work_entry.new.beside) in
    let it = c.work_entry.ensures in
    let ready = c.if-not-ready.ensures.0 refl in
    let line : PlaysUp c.done_at_stop.result Work old new before after held left = record {
      states = λ has. work-line _ old servers net before after held left has c.requires.up.states ready.0 ready.1 c.work_entry.result c.done_at_stop.result c.done_at_stop.ensures it.ok it.err it.disks it.cause it.stop;
      wild = stop-wild c.work_entry.result c.done_at_stop.result old new held left c.done_at_stop.ensures (works-wild _ _ old servers net before after held left c.work_entry.result c.requires.up ready.0 ready.1 it.ok it.err it.disks);
      counts = stop-counts cold_kit c.work_entry.result c.done_at_stop.result held left c.done_at_stop.ensures (work-counts _ c.work_entry.result held left it.disks it.cause);
    }
    in
    subst (λ (next : Line). PlaysUp c.done_at_stop.result next old new before after held left) (sym c.requires.line) line
