use Rattle.std.proofs.Common.{ℕ, inl, inr, List, refl, subst}
use Rattle.played_runs.specs.declared.ending.Status8.TheVariants.{ScriptRefused}
use Rattle.played_runs.specs.Edges.{edge}
use Rattle.played_runs.specs.Writing.{IsNone, IsText, Reaching}
use Rattle.played_runs.proofs.EndingSteps.{lacked, text-ends}
use Rattle.played_runs.proofs.WritingSteps.{written-as}
use Rattle.script_inputs.specs.Inputs.{bad_line}
use Rattle.script_language.specs.Scripts.{IsScriptOf}
use Rattle.cold_runs.specs.Ends.{ColdEnds, ColdLacks, RisesCold}
use Rattle.cold_runs.specs.Stages.{BothGoneOn, LeavesBoth, cold_stage}
use Rattle.cold_runs.proofs.ScriptSteps.{can-play}
use Rattle.cold_runs.specs.CommandSteps.{BytesEnd, BytesLack, FailsCold}
use Rattle.cold_runs.proofs.CommandSteps.{both-on, play-bytes}
use Rattle.cold_runs.proofs.command.play_bytes.Goals as goal

pub play_cold-requires-clause-script : goal.play_cold-requires-clause-script
play_cold-requires-clause-script g c κs within = can-play c.in-Ok.lines c.as_slice.result.now c.in-Ok.ensures.lines

pub returns-in-Ok : goal.returns-in-Ok
returns-in-Ok g c =
    let sink = edge g.K.Sink.written g.K.Sink.faults c.args.out.now c.play_cold.new.out in
    let stage = cold_stage sink g.D.SharedDisk.seen c.args.disk.now c.play_cold.new.disk g.J.SharedDisk.seen c.args.journal.now c.play_cold.new.journal c.args.cold.now c.play_cold.new.world in
    let lines = c.in-Ok.lines in
    let bytes = c.args.bytes.items in
    let script = subst (λ (one : List ℕ). IsScriptOf lines one) c.as_slice.ensures.value c.in-Ok.ensures.lines in
    let E : Reaching = λ reached text. ColdEnds lines stage.scene reached text × RisesCold reached stage.scene in
    let F : Reaching = λ reached text. BytesEnd bytes stage reached text × RisesCold reached stage.scene in
    let L : List ℕ → Type 0 = λ text. ColdLacks lines stage.scene text × BothGoneOn stage.scene in
    let M : List ℕ → Type 0 = λ text. BytesLack bytes stage text × BothGoneOn stage.scene in
    written-as E F L M sink c.play_cold.result (play-bytes stage bytes lines script) (λ text lacks. (inr (lines, script, lacks.0), lacks.1)) c.play_cold.ensures

pub returns-in-Err-Memory : goal.returns-in-Err-Memory
returns-in-Err-Memory g c =
    let sink = edge g.K.Sink.written g.K.Sink.faults c.args.out.now c.args.out.now in
    let stage = cold_stage sink g.D.SharedDisk.seen c.args.disk.now c.args.disk.now g.J.SharedDisk.seen c.args.journal.now c.args.journal.now c.args.cold.now c.args.cold.now in
    let all : LeavesBoth stage = record { disk = refl; journal = refl; world = refl } in
    let bytes = c.args.bytes.items in
    lacked (λ reached text. BytesEnd bytes stage reached text × RisesCold reached stage.scene) (λ text. BytesLack bytes stage text × BothGoneOn stage.scene) sink (inl (refl, all), both-on stage all) refl

pub returns : goal.returns
returns g c =
    let sink = edge g.K.Sink.written g.K.Sink.faults c.args.out.now c.write_bad.new.out in
    let stage = cold_stage sink g.D.SharedDisk.seen c.args.disk.now c.args.disk.now g.J.SharedDisk.seen c.args.journal.now c.args.journal.now c.args.cold.now c.args.cold.now in
    let all : LeavesBoth stage = record { disk = refl; journal = refl; world = refl } in
    let line = c.in-Err-Bad.line in
    let why = c.in-Err-Bad.why in
    let text = bad_line line why in
    let bytes = c.args.bytes.items in
    let E : Reaching = λ reached text. BytesEnd bytes stage reached text × RisesCold reached stage.scene in
    let L : List ℕ → Type 0 = λ text. BytesLack bytes stage text × BothGoneOn stage.scene in
    let read : FailsCold c.as_slice.result.now text = record {
      number = line;
      reason = why;
      bad = rw c.in-Err-Bad.field-0-is at c.in-Err-Bad.ensures.fault;
      none = λ lines script. let no = rw c.in-Err-Bad.field-0-is at (c.in-Err-Bad.ensures.every_script lines script) in absurd cc;
      printed = refl;
    } in
    let fails = subst (λ (one : List ℕ). FailsCold one text) c.as_slice.ensures.value read in
    written-as (IsText ScriptRefused text) E IsNone L sink c.write_bad.result (text-ends E ScriptRefused text ((all, fails), both-on stage all)) (λ one none. (inl (none, all), both-on stage all)) c.write_bad.ensures
