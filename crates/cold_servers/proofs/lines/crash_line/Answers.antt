use Rattle.std.proofs.Common.{◌≡◌, false, ap, refl, sym, subst, ◌∙◌}
use Rattle.std.proofs.lemmas.Result.{on_err_weaker}
use Rattle.script_lines.specs.declared.line.Line.{Line}
use Rattle.script_lines.specs.declared.line.Line.TheVariants.{Crash}
use Rattle.script_lines.specs.declared.line.Server.TheVariants.{A}
use Rattle.cluster_lines.specs.Lines.{shows_files}
use Rattle.cold_servers.specs.ColdKit.{cold_kit}
use Rattle.cold_servers.specs.ColdSeen.{ColdSeen}
use Rattle.cold_servers.specs.Steps.{IsRefusedUp, PlaysUp}
use Rattle.cold_servers.proofs.OwnLines.{crash-line}
use Rattle.cold_servers.proofs.SilentLines.{outlives-ends, stays-ends}
use Rattle.cold_servers.proofs.lines.crash_line.Goals as goal

pub returns-in-A : goal.returns-in-A
returns-in-A g c =
    let old = c.args.world.now in
    let new = c.crash.new.world in
    let before = c.args.lines.now.items in
    let after = c.crash.new.lines.items in
    let held : ColdSeen = cold_kit.see (g.D.SharedDisk.seen c.args.disk.now) (g.J.SharedDisk.seen c.args.beside.now) in
    let left : ColdSeen = cold_kit.see (g.D.SharedDisk.seen c.crash.new.disk) (g.J.SharedDisk.seen c.crash.new.beside) in
    let line : PlaysUp c.as_answer.result (Crash A) old new before after held left = record {
      states = λ has. crash-line c.crash.result c.as_answer.result old new before after held left c.as_answer.ensures has c.requires.up.states c.crash.ensures.ok
          (on_err_weaker c.crash.result (λ kept. (kept.0, λ i. record { disk = kept.2 i; journal = kept.3 i })) c.crash.ensures.err);
      wild = stays-ends c.crash.result c.as_answer.result old new held left c.as_answer.ensures c.crash.ensures.wild;
      counts = outlives-ends c.crash.result c.as_answer.result held left c.as_answer.ensures c.crash.ensures.counts;
    }
    in
    subst (λ (next : Line). PlaysUp c.as_answer.result next old new before after held left) (sym (c.requires.line ∙ ap Crash c.in-A.is)) line

pub refuse_line-requires : goal.refuse_line-requires
refuse_line-requires g c =
    let is = sym (c.requires.line ∙ ap Crash c.in-B.is) in
    record {
      state = c.requires.state;
      up = c.requires.up;
      shown = subst (λ (next : Line). shows_files next ≡ false) is refl;
      refused = subst (λ (next : Line). IsRefusedUp next c.args.world.now) is (λ setup state good shows shelf device. refl);
    }

pub refuse_line-requires-in-C : goal.refuse_line-requires-in-C
refuse_line-requires-in-C g c =
    let is = sym (c.requires.line ∙ ap Crash c.in-C.is) in
    record {
      state = c.requires.state;
      up = c.requires.up;
      shown = subst (λ (next : Line). shows_files next ≡ false) is refl;
      refused = subst (λ (next : Line). IsRefusedUp next c.args.world.now) is (λ setup state good shows shelf device. refl);
    }
