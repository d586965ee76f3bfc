use Rattle.std.proofs.Common.{◌≡◌, ℕ, List, None, map, refl, sym}
use Rattle.std.specs.Prelude.{string_bytes}
use Rattle.played_runs.specs.Edges.{disk_edge, edge, fault_count}
use Rattle.played_runs.specs.Writing.{Counting, Standing}
use Rattle.played_runs.proofs.CountSteps.{on-same}
use Rattle.played_runs.proofs.EndingSteps.{end-written}
use Rattle.aisrun.specs.Edges.{around}
use Rattle.commands.specs.Commands.{command_of}
use Rattle.aisrun.specs.Endings.{Ends}
use Rattle.aisrun.specs.RunSteps.{OfOther, WordsLack, beside}
use Rattle.aisrun.proofs.Asking.{unknown}
use Rattle.aisrun.proofs.EndingSteps.{usage-run}
use Rattle.aisrun.proofs.WordEndings.{early-end, other-lacks}
use Rattle.aisrun.proofs.run.run_words.Goals as goal

pub run_command-requires-clause-asked : goal.run_command-requires-clause-asked
run_command-requires-clause-asked g c κs within = rw c.in-Ok-Some.field-0-is at c.in-Ok-Some.ensures

pub returns-in-Ok-None : goal.returns-in-Ok-None
returns-in-Ok-None g c =
    let words : List (List ℕ) = map (λ word. string_bytes word) c.args.words.now in
    let asked : command_of words ≡ None = sym (rw c.in-Ok-None.field-0-is at c.in-Ok-None.ensures) in
    let source = edge g.S.Source.left g.S.Source.faults c.args.source.now c.args.source.now in
    let sink = edge g.K.Sink.written g.K.Sink.faults c.args.out.now c.write_end.new.out in
    let disk = disk_edge g.D.SharedDisk.seen c.args.disk.now c.args.disk.now in
    let run = around words source sink g.D.SharedDisk.seen c.args.disk.now c.args.disk.now c.args.world.now c.args.world.now in
    let other = unknown words asked in
    OfOther other (end-written (Counting (fault_count source) (fault_count disk) (Ends run)) (Standing (fault_count source) (fault_count disk) (WordsLack run)) c.usage.result sink c.write_end.result c.write_end.ensures (usage-run run asked (record { disk = refl; world = refl }) refl c.usage.result c.usage.ensures.status c.usage.ensures.text) (other-lacks run other (record { disk = refl; world = refl }) refl, refl, on-same (g.D.SharedDisk.seen c.args.disk.now).faults)) (refl {a = c.args.trio.now}) (refl {a = c.args.journal.now}, refl {a = c.args.cold.now})

pub returns-in-Err : goal.returns-in-Err
returns-in-Err g c =
    let words : List (List ℕ) = map (λ word. string_bytes word) c.args.words.now in
    let source = edge g.S.Source.left g.S.Source.faults c.args.source.now c.args.source.now in
    let sink = edge g.K.Sink.written g.K.Sink.faults c.args.out.now c.args.out.now in
    let run = around words source sink g.D.SharedDisk.seen c.args.disk.now c.args.disk.now c.args.world.now c.args.world.now in
    let other = beside c.args.trio.now c.args.trio.now g.J.SharedDisk.seen c.args.journal.now c.args.journal.now c.args.cold.now c.args.cold.now in
    early-end run other (record { disk = refl; world = refl }) refl refl refl (refl, refl)
