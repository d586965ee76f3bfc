use Rattle.std.proofs.Common.{ℕ, List, inl, inr, refl, subst}
use Rattle.played_runs.specs.declared.ending.Status8.TheVariants.{ScriptRefused}
use Rattle.played_runs.specs.Edges.{edge, fault_count, stage}
use Rattle.played_runs.specs.Writing.{Counting, IsNone, IsText, Standing, unasked}
use Rattle.played_runs.proofs.CountSteps.{on-same}
use Rattle.played_runs.proofs.EndingSteps.{lacked, text-ends}
use Rattle.played_runs.proofs.WritingSteps.{ended-as, written-as}
use Rattle.played_runs.specs.Ends.{PlayEnds, PlayLacks}
use Rattle.script_inputs.specs.Inputs.{bad_line}
use Rattle.trio_lines.specs.Scripts.{IsTrioOf}
use Rattle.spare_server.specs.Game.{trio_game}
use Rattle.trio_runs.specs.Endings.{TrioFails}
use Rattle.trio_runs.specs.CommandSteps.{BytesEnd, BytesLack}
use Rattle.trio_runs.proofs.CommandSteps.{play-bytes}
use Rattle.trio_runs.proofs.command.play_bytes.Goals as goal

pub play_trio-requires-clause-script : goal.play_trio-requires-clause-script
play_trio-requires-clause-script g c κs within = c.law_of_trio_scripts.ensures c.in-Ok.lines c.as_slice.result.now c.in-Ok.ensures.lines

pub returns-in-Ok : goal.returns-in-Ok
returns-in-Ok g c =
    let sink = edge g.K.Sink.written g.K.Sink.faults c.args.out.now c.play_trio.new.out in
    let scene = stage sink g.D.SharedDisk.seen c.args.disk.now c.play_trio.new.disk c.args.trio.now c.play_trio.new.world in
    let lines = c.in-Ok.lines in
    let bytes = c.args.bytes.items in
    let script = subst (λ (one : List ℕ). IsTrioOf lines one) c.as_slice.ensures.value c.in-Ok.ensures.lines in
    ended-as unasked (fault_count scene.disk) (PlayEnds trio_game lines scene) (BytesEnd bytes scene) (PlayLacks trio_game lines scene) (BytesLack bytes scene) sink c.play_trio.result (play-bytes scene bytes lines script) (λ text lacks. inr (lines, script, lacks)) c.play_trio.ensures

pub returns-in-Err-Memory : goal.returns-in-Err-Memory
returns-in-Err-Memory g c = lacked _ _ _ (inl (refl, record { disk = refl; world = refl }), refl, on-same (g.D.SharedDisk.seen c.args.disk.now).faults) refl

pub returns : goal.returns
returns g c =
    let sink = edge g.K.Sink.written g.K.Sink.faults c.args.out.now c.write_bad.new.out in
    let scene = stage sink g.D.SharedDisk.seen c.args.disk.now c.args.disk.now c.args.trio.now c.args.trio.now in
    let disk = fault_count scene.disk in
    let line = c.in-Err-Bad.line in
    let why = c.in-Err-Bad.why in
    let text = bad_line line why in
    let bytes = c.args.bytes.items in
    let E = Counting unasked disk (BytesEnd bytes scene) in
    let read : TrioFails c.as_slice.result.now text = record {
      number = line;
      reason = why;
      bad = rw c.in-Err-Bad.field-0-is at c.in-Err-Bad.ensures.fault;
      none = λ lines script. let no = rw c.in-Err-Bad.field-0-is at (c.in-Err-Bad.ensures.every_script lines script) in absurd cc;
      printed = refl;
    } in
    let fails = subst (λ (one : List ℕ). TrioFails one text) c.as_slice.ensures.value read in
    written-as (IsText ScriptRefused text) E IsNone (Standing unasked disk (BytesLack bytes scene)) sink c.write_bad.result (text-ends E ScriptRefused text ((record { disk = refl; world = refl }, fails), (refl, refl)))
    (λ one none. (inl (none, record { disk = refl; world = refl }), refl, on-same (g.D.SharedDisk.seen c.args.disk.now).faults)) c.write_bad.ensures
