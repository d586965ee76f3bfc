use Rattle.std.proofs.Common.{◌≡◌, false, [], refl, ap, sym, subst}
use Rattle.std.specs.Prelude.{Ok}
use Rattle.script_lines.specs.declared.line.Line.{Line}
use Rattle.script_lines.specs.declared.line.Line.TheVariants.{Ack}
use Rattle.cluster_lines.specs.Lines.{shows_files}
use Rattle.cluster_rounds.specs.declared.cluster.Cluster.{Cluster}
use Rattle.lone_server.specs.declared.lone.Lone.{Lone}
use Rattle.cold_servers.specs.declared.solo.Solo.{Solo}
use Rattle.cold_servers.specs.ColdKit.{cold_kit}
use Rattle.cold_servers.specs.ColdLaws.{cold_laws}
use Rattle.cold_servers.specs.ColdSeen.{ColdSeen}
use Rattle.cold_servers.specs.Steps.{IsRefusedUp, PlaysUp}
use Rattle.cold_servers.proofs.OwnLines.{ack-line, ack-off, ack-refused}
use Rattle.cold_servers.proofs.SilentLines.{back-ok}
use Rattle.cold_servers.proofs.SilentWorlds.{back-on}
use Rattle.cold_servers.proofs.lines.ack_line.Goals as goal

pub refuse_line-requires : goal.refuse_line-requires
refuse_line-requires g c = record {
  state = c.requires.state;
  up = c.requires.up;
  shown = subst (λ (next : Line). shows_files next ≡ false) (sym c.requires.line) refl;
  refused = subst (λ (next : Line). IsRefusedUp next c.args.world.now) (sym c.requires.line) (ack-refused c.args.world.now c.requires.up.states (c.if-is_clear.ensures.0 refl));
}

pub hear_back-requires : goal.hear_back-requires
hear_back-requires g c =
    back-ok c.args.world.now (cold_kit.see (g.D.SharedDisk.seen c.args.disk.now) (g.J.SharedDisk.seen c.args.beside.now)) c.requires.state c.requires.up

pub returns-in-Ok : goal.returns-in-Ok
returns-in-Ok g c =
    let old = c.args.world.now in
    let servers = c.hear_back.new.servers in
    let lines = c.args.lines.now.items in
    let new : Cluster Solo = record old { servers = record { lone = servers } } in
    let held : ColdSeen = cold_kit.see (g.D.SharedDisk.seen c.args.disk.now) (g.J.SharedDisk.seen c.args.beside.now) in
    let some : old.servers.lone.back ≡ [] → ⊥ = λ none. let told = c.is_clear.ensures.1 none in let no = c.if-is_clear.false in cc in
    let line : PlaysUp {T = Unit {0}} (Ok _) Ack old new lines lines held held = record {
      states = λ has. ack-line _ old servers lines held has c.requires.up.states _ some c.in-Ok.ensures.ok;
      wild = λ seen wild so. back-on _ old servers held c.requires.up c.in-Ok.ensures.ok seen wild;
      counts = cold_laws.stands held;
    }
    in
    subst (λ (next : Line). PlaysUp {T = Unit {0}} (Ok _) next old new lines lines held held) (sym c.requires.line) line

pub returns-in-Err : goal.returns-in-Err
returns-in-Err g c =
    let old = c.args.world.now in
    let held : ColdSeen = cold_kit.see (g.D.SharedDisk.seen c.args.disk.now) (g.J.SharedDisk.seen c.args.beside.now) in
    record {
      states = λ has. ack-off c.args.line.now old c.hear_back.new.servers c.args.lines.now.items held (ap (λ (lone : Lone). lone.armed) c.in-Err.ensures.err.is);
      wild = tt;
      counts = cold_laws.stands held;
    }
