use Rattle.std.proofs.Common.{◌≡◌, false, [], refl, sym, subst}
use Rattle.script_lines.specs.declared.line.Line.{Line}
use Rattle.script_lines.specs.declared.line.Line.TheVariants.{Mirror}
use Rattle.cluster_lines.specs.Lines.{shows_files}
use Rattle.cluster_lines.proofs.StopSteps.{stop-counts}
use Rattle.cluster_rounds.specs.declared.cluster.Cluster.{Cluster}
use Rattle.cold_servers.specs.declared.solo.Solo.{Solo}
use Rattle.cold_servers.specs.ColdKit.{cold_kit}
use Rattle.cold_servers.specs.ColdSeen.{ColdSeen}
use Rattle.cold_servers.specs.Steps.{IsRefusedUp, PlaysUp}
use Rattle.cold_servers.proofs.OwnLines.{mirror-refused}
use Rattle.cold_servers.proofs.OwnSteps.{mirror-line}
use Rattle.cold_servers.proofs.AdvanceSteps.{join-counts}
use Rattle.cold_servers.proofs.SilentLines.{link-ok}
use Rattle.cold_servers.proofs.SilentWorlds.{joins-wild, stop-wild}
use Rattle.cold_servers.proofs.lines.mirror_line.Goals as goal

pub refuse_line-requires : goal.refuse_line-requires
refuse_line-requires g c = record {
  state = c.requires.state;
  up = c.requires.up;
  shown = subst (λ (next : Line). shows_files next ≡ false) (sym c.requires.line) refl;
  refused = subst (λ (next : Line). IsRefusedUp next c.args.world.now) (sym c.requires.line) (mirror-refused c.args.world.now c.requires.up.states (c.if-is_clear.ensures.0 refl));
}

pub join_journal-requires : goal.join_journal-requires
join_journal-requires g c =
    link-ok c.args.world.now (cold_kit.see (g.D.SharedDisk.seen c.args.disk.now) (g.J.SharedDisk.seen c.args.beside.now)) c.requires.state c.requires.up

pub returns : goal.returns
returns g c =
    let old = c.args.world.now in
    let servers = c.join_journal.new.servers in
    let history = c.join_journal.new.history in
    let before = c.args.lines.now.items in
    let after = c.join_journal.new.lines.items in
    let new : Cluster Solo = record old { servers = record { lone = servers }; history = history } in
    let held : ColdSeen = cold_kit.see (g.D.SharedDisk.seen c.args.disk.now) (g.J.SharedDisk.seen c.args.beside.now) in
    let left : ColdSeen = cold_kit.see (g.D.SharedDisk.seen c.join_journal.new.disk) (g.J.SharedDisk.seen c.join_journal.new.beside) in
    let it = c.join_journal.ensures in
    let some : old.servers.lone.link ≡ [] → ⊥ = λ none. let told = c.is_clear.ensures.1 none in let no = c.if-is_clear.false in cc in
    let line : PlaysUp c.done_at_stop.result Mirror old new before after held left = record {
      states = λ has. mirror-line old servers history before after held left has c.requires.up.states c.join_journal.result c.done_at_stop.result some c.done_at_stop.ensures it.ok it.err it.disks it.cause it.stop;
      wild = stop-wild c.join_journal.result c.done_at_stop.result old new held left c.done_at_stop.ensures (joins-wild old servers history before after held left c.join_journal.result c.requires.up it.ok it.err it.disks);
      counts = stop-counts cold_kit c.join_journal.result c.done_at_stop.result held left c.done_at_stop.ensures (join-counts _ _ _ _ c.join_journal.result held left it.disks it.cause);
    }
    in
    subst (λ (next : Line). PlaysUp c.done_at_stop.result next old new before after held left) (sym c.requires.line) line
