use Rattle.std.proofs.Common.{ℕ, List, inl, inr, refl, subst}
use Rattle.played_runs.specs.declared.ending.Status8.TheVariants.{ScriptRefused}
use Rattle.played_runs.specs.Edges.{edge, fault_count, stage}
use Rattle.played_runs.specs.Writing.{Counting, IsNone, IsText, Standing, unasked}
use Rattle.played_runs.proofs.CountSteps.{on-same}
use Rattle.played_runs.proofs.EndingSteps.{lacked, text-ends}
use Rattle.played_runs.proofs.WritingSteps.{ended-as, written-as}
use Rattle.played_runs.specs.Ends.{PlayEnds, PlayLacks}
use Rattle.script_language.specs.Scripts.{IsScriptOf}
use Rattle.script_inputs.specs.Inputs.{bad_line}
use Rattle.script_runs.specs.Reading.{ScriptFails}
use Rattle.script_runs.specs.Scripting.{BytesEnd, BytesLack}
use Rattle.script_runs.proofs.ReadingSteps.{play-bytes}
use Rattle.script_runs.proofs.ScriptSteps.{can-play}
use Rattle.script_runs.proofs.scripting.run_bytes.Goals as goal

pub play-requires : goal.play-requires
play-requires g c =
    c.requires.play.can _ _ _ _ (can-play g.W.Playable.game c.requires.lines c.in-Ok.lines c.as_slice.result.now c.in-Ok.ensures.lines) c.requires.empty c.requires.unarmed

pub returns-in-Ok : goal.returns-in-Ok
returns-in-Ok g c =
    let sink = edge g.K.Sink.written g.K.Sink.faults c.args.out.now c.play.new.arg3 in
    let scene = stage sink g.D.SharedDisk.seen c.args.disk.now c.play.new.arg4 c.args.world.now c.play.new.arg5 in
    let lines = c.in-Ok.lines in
    let bytes = c.args.bytes.items in
    let script = subst (λ (one : List ℕ). IsScriptOf lines one) c.as_slice.ensures.value c.in-Ok.ensures.lines in
    ended-as unasked (fault_count scene.disk) (PlayEnds g.W.Playable.game lines scene) ((BytesEnd g.W.Playable.game) bytes scene) (PlayLacks g.W.Playable.game lines scene) ((BytesLack g.W.Playable.game) bytes scene) sink c.play.result (play-bytes g.W.Playable.game scene bytes lines script) (λ text lacks. inr (lines, script, lacks)) (c.requires.play.does _ _ _ _ _ _ _ _ c.play.ensures)

pub returns-in-Err-Memory : goal.returns-in-Err-Memory
returns-in-Err-Memory g c = lacked _ _ _ (inl (refl, record { disk = refl; world = refl }), refl, on-same (g.D.SharedDisk.seen c.args.disk.now).faults) refl

pub returns : goal.returns
returns g c =
    let sink = edge g.K.Sink.written g.K.Sink.faults c.args.out.now c.write_bad.new.out in
    let scene = stage sink g.D.SharedDisk.seen c.args.disk.now c.args.disk.now c.args.world.now c.args.world.now in
    let disk = fault_count scene.disk in
    let line = c.in-Err-Bad.line in
    let why = c.in-Err-Bad.why in
    let text = bad_line line why in
    let bytes = c.args.bytes.items in
    let E = Counting unasked disk ((BytesEnd g.W.Playable.game) bytes scene) in
    let read : ScriptFails c.as_slice.result.now text = record {
      number = line;
      reason = why;
      bad = rw c.in-Err-Bad.field-0-is at c.in-Err-Bad.ensures.fault;
      none = λ lines script. let no = rw c.in-Err-Bad.field-0-is at (c.in-Err-Bad.ensures.every_script lines script) in absurd cc;
      printed = refl;
    } in
    let fails = subst (λ (one : List ℕ). ScriptFails one text) c.as_slice.ensures.value read in
    written-as (IsText ScriptRefused text) E IsNone (Standing unasked disk ((BytesLack g.W.Playable.game) bytes scene)) sink c.write_bad.result (text-ends E ScriptRefused text ((record { disk = refl; world = refl }, fails), (refl, refl)))
    (λ one none. (inl (none, record { disk = refl; world = refl }), refl, on-same (g.D.SharedDisk.seen c.args.disk.now).faults)) c.write_bad.ensures
