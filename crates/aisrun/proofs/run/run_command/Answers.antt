use Rattle.std.proofs.Common.{ℕ, List, [], ◌≡◌, map, Option, Some, refl, ap, sym, ◌∙◌, subst}
use Rattle.std.specs.Prelude.{IfOk, string_bytes}
use Rattle.load_lines.specs.Lines.{load_lines}
use Rattle.played_runs.specs.Edges.{disk_edge, edge, fault_count, stage}
use Rattle.played_runs.specs.Writing.{Counting, Ended, IsNone, Standing, unasked}
use Rattle.played_runs.proofs.CountSteps.{on-same}
use Rattle.played_runs.proofs.EndingSteps.{end-written}
use Rattle.played_runs.proofs.WritingSteps.{ended-alone, ended-as, ended-read}
use Rattle.aisrun.specs.Edges.{around}
use Rattle.commands.specs.declared.command.Command.{Command}
use Rattle.commands.specs.declared.command.Command.TheVariants.{Run, Check, Cold, Recover, Trio, Expr, Gen, Load, Scan}
use Rattle.text_commands.specs.Checking.{CheckEnds, ExprEnds}
use Rattle.commands.specs.Commands.{command_of, text_of, wanted_of}
use Rattle.aisrun.specs.Endings.{Ends, LacksBy}
use Rattle.world_runs.specs.Loads.{LoadEnds, LoadWants}
use Rattle.aisrun.specs.RunSteps.{InputEnds, InputLacks, OfCold, OfOther, OfRecover, OfTrio, WordsLack}
use Rattle.text_commands.specs.ScanSteps.{ScanEnds, ScanLacks}
use Rattle.text_commands.proofs.CheckSteps.{ok-ends}
use Rattle.aisrun.proofs.EndingSteps.{check-run, expr-run, input-lack, input-run}
use Rattle.aisrun.proofs.GeneratingLaws.{gen-run}
use Rattle.aisrun.proofs.ScanEndings.{scan-lack, scan-run}
use Rattle.aisrun.proofs.LoadEndings.{load-lack, load-run}
use Rattle.aisrun.proofs.Asking.{others}
use Rattle.aisrun.proofs.run.run_command.Goals as goal

pub returns-in-Run : goal.returns-in-Run
returns-in-Run g c =
    let words : List (List ℕ) = map (λ word. string_bytes word) c.args.words.now in
    let asked : command_of words ≡ Some Run = sym c.requires.asked ∙ ap Some c.in-Run.is in
    let source = edge g.S.Source.left g.S.Source.faults c.args.source.now c.run_script.new.source in
    let sink = edge g.K.Sink.written g.K.Sink.faults c.args.out.now c.run_script.new.out in
    let disk = disk_edge g.D.SharedDisk.seen c.args.disk.now c.run_script.new.disk in
    let scene = stage sink g.D.SharedDisk.seen c.args.disk.now c.run_script.new.disk c.args.world.now c.run_script.new.world in
    let run = around words source sink g.D.SharedDisk.seen c.args.disk.now c.run_script.new.disk c.args.world.now c.run_script.new.world in
    OfOther (others words Run (λ e. cc) (λ e. cc) (λ e. cc) asked) (ended-as (fault_count source) (fault_count disk) (InputEnds source scene) (Ends run) (InputLacks source scene) (WordsLack run) sink c.run_script.result (input-run run asked) (input-lack run asked) c.run_script.ensures) (refl {a = c.args.trio.now}) (refl {a = c.args.journal.now}, refl {a = c.args.cold.now})

pub returns-in-Check : goal.returns-in-Check
returns-in-Check g c =
    let words : List (List ℕ) = map (λ word. string_bytes word) c.args.words.now in
    let asked : command_of words ≡ Some Check = sym c.requires.asked ∙ ap Some c.in-Check.is in
    let source = edge g.S.Source.left g.S.Source.faults c.args.source.now c.run_check.new.source in
    let sink = edge g.K.Sink.written g.K.Sink.faults c.args.out.now c.run_check.new.out in
    let disk = disk_edge g.D.SharedDisk.seen c.args.disk.now c.args.disk.now in
    let run = around words source sink g.D.SharedDisk.seen c.args.disk.now c.args.disk.now c.args.world.now c.args.world.now in
    OfOther (others words Check (λ e. cc) (λ e. cc) (λ e. cc) asked) (ended-alone (fault_count source) (fault_count disk) (CheckEnds source) (Ends run) IsNone (WordsLack run) sink c.run_check.result refl (check-run run asked (record { disk = refl; world = refl })) (λ text none. subst (λ (o : Option Command). LacksBy o run text) (sym asked) (none, record { disk = refl; world = refl })) c.run_check.ensures) (refl {a = c.args.trio.now}) (refl {a = c.args.journal.now}, refl {a = c.args.cold.now})

pub returns-in-Cold : goal.returns-in-Cold
returns-in-Cold g c =
    let words : List (List ℕ) = map (λ word. string_bytes word) c.args.words.now in
    let asked : command_of words ≡ Some Cold = sym c.requires.asked ∙ ap Some c.in-Cold.is in
    OfCold asked (record { ends = c.run_cold.ensures.ends; faults = c.run_cold.ensures.faults; completes = c.run_cold.ensures.completes; accepts = c.run_cold.ensures.accepts }) (refl {a = c.args.world.now}) (refl {a = c.args.trio.now})

pub returns-in-Recover : goal.returns-in-Recover
returns-in-Recover g c =
    let words : List (List ℕ) = map (λ word. string_bytes word) c.args.words.now in
    let asked : command_of words ≡ Some Recover = sym c.requires.asked ∙ ap Some c.in-Recover.is in
    OfRecover asked (refl {a = c.args.source.now}) (c.recover.ensures c.args.cold.now) (refl {a = c.args.world.now}) (refl {a = c.args.trio.now})

pub returns-in-Trio : goal.returns-in-Trio
returns-in-Trio g c =
    let words : List (List ℕ) = map (λ word. string_bytes word) c.args.words.now in
    let asked : command_of words ≡ Some Trio = sym c.requires.asked ∙ ap Some c.in-Trio.is in
    OfTrio asked (record { ends = c.run_trio.ensures.ends; faults = c.run_trio.ensures.faults; completes = c.run_trio.ensures.completes }) (refl {a = c.args.world.now}) (refl {a = c.args.journal.now}, refl {a = c.args.cold.now})

pub returns-in-Expr : goal.returns-in-Expr
returns-in-Expr g c =
    let words : List (List ℕ) = map (λ word. string_bytes word) c.args.words.now in
    let kind = c.in-Expr.kind in
    let asked : command_of words ≡ Some (Expr kind) = sym c.requires.asked ∙ ap Some c.in-Expr.is in
    let source = edge g.S.Source.left g.S.Source.faults c.args.source.now c.args.source.now in
    let sink = edge g.K.Sink.written g.K.Sink.faults c.args.out.now c.write_end.new.out in
    let disk = disk_edge g.D.SharedDisk.seen c.args.disk.now c.args.disk.now in
    let run = around words source sink g.D.SharedDisk.seen c.args.disk.now c.args.disk.now c.args.world.now c.args.world.now in
    OfOther (others words (Expr kind) (λ e. cc) (λ e. cc) (λ e. cc) asked) (end-written (Counting (fault_count source) (fault_count disk) (Ends run)) (Standing (fault_count source) (fault_count disk) (WordsLack run)) c.check_text.result sink c.write_end.result c.write_end.ensures (ok-ends c.check_text.result (ExprEnds kind (text_of words)) (Counting (fault_count source) (fault_count disk) (Ends run)) (expr-run run kind asked (record { disk = refl; world = refl }) refl) (subst (λ (said : List ℕ). IfOk c.check_text.result (λ one. ExprEnds kind said one.status one.text.items)) c.text_of.ensures c.check_text.ensures)) (subst (λ (o : Option Command). LacksBy o run []) (sym asked) (refl, record { disk = refl; world = refl }, refl), refl, on-same (g.D.SharedDisk.seen c.args.disk.now).faults)) (refl {a = c.args.trio.now}) (refl {a = c.args.journal.now}, refl {a = c.args.cold.now})

pub returns-in-Gen : goal.returns-in-Gen
returns-in-Gen g c =
    let words : List (List ℕ) = map (λ word. string_bytes word) c.args.words.now in
    let asked : command_of words ≡ Some (Gen c.in-Gen.count c.in-Gen.seed) = sym c.requires.asked ∙ ap Some c.in-Gen.is in
    let source = edge g.S.Source.left g.S.Source.faults c.args.source.now c.args.source.now in
    let sink = edge g.K.Sink.written g.K.Sink.faults c.args.out.now c.generate.new.out in
    let disk = disk_edge g.D.SharedDisk.seen c.args.disk.now c.args.disk.now in
    let run = around words source sink g.D.SharedDisk.seen c.args.disk.now c.args.disk.now c.args.world.now c.args.world.now in
    OfOther (others words (Gen c.in-Gen.count c.in-Gen.seed) (λ e. cc) (λ e. cc) (λ e. cc) asked) (gen-run run c.in-Gen.count c.in-Gen.seed asked (record { disk = refl; world = refl }) refl c.generate.result c.generate.ensures) (refl {a = c.args.trio.now}) (refl {a = c.args.journal.now}, refl {a = c.args.cold.now})

pub returns-in-Load : goal.returns-in-Load
returns-in-Load g c =
    let words : List (List ℕ) = map (λ word. string_bytes word) c.args.words.now in
    let count = c.in-Load.count in
    let seed = c.in-Load.seed in
    let asked : command_of words ≡ Some (Load count seed) = sym c.requires.asked ∙ ap Some c.in-Load.is in
    let source = edge g.S.Source.left g.S.Source.faults c.args.source.now c.args.source.now in
    let sink = edge g.K.Sink.written g.K.Sink.faults c.args.out.now c.load.new.out in
    let disk = disk_edge g.D.SharedDisk.seen c.args.disk.now c.load.new.disk in
    let scene = stage sink g.D.SharedDisk.seen c.args.disk.now c.load.new.disk c.args.world.now c.load.new.world in
    let run = around words source sink g.D.SharedDisk.seen c.args.disk.now c.load.new.disk c.args.world.now c.load.new.world in
    let lines = load_lines count seed in
    OfOther (others words (Load count seed) (λ e. cc) (λ e. cc) (λ e. cc) asked) (ended-read (fault_count source) (fault_count disk) (LoadEnds lines scene) (Ends run) (LoadWants lines scene) (WordsLack run) sink c.load.result refl (load-run run count seed asked refl c.load.ensures.script) (load-lack run count seed asked refl c.load.ensures.script) c.load.ensures.ends) (refl {a = c.args.trio.now}) (refl {a = c.args.journal.now}, refl {a = c.args.cold.now})

pub returns-in-Scan : goal.returns-in-Scan
returns-in-Scan g c =
    let words : List (List ℕ) = map (λ word. string_bytes word) c.args.words.now in
    let query = c.in-Scan.query in
    let asked : command_of words ≡ Some (Scan query) = sym c.requires.asked ∙ ap Some c.in-Scan.is in
    let source = edge g.S.Source.left g.S.Source.faults c.args.source.now c.scan.new.source in
    let sink = edge g.K.Sink.written g.K.Sink.faults c.args.out.now c.scan.new.out in
    let disk = disk_edge g.D.SharedDisk.seen c.args.disk.now c.args.disk.now in
    let run = around words source sink g.D.SharedDisk.seen c.args.disk.now c.args.disk.now c.args.world.now c.args.world.now in
    let text = c.text_of-in-Scan.result.now in
    let wanted = c.wanted_of.result.now in
    let by_wanted = subst (λ (one : List ℕ). Ended (fault_count source) unasked (ScanEnds query text one source) (ScanLacks query text one source) sink c.scan.result) c.wanted_of.ensures c.scan.ensures in
    let by_words = subst (λ (one : List ℕ). Ended (fault_count source) unasked (ScanEnds query one (wanted_of words) source) (ScanLacks query one (wanted_of words) source) sink c.scan.result) c.text_of-in-Scan.ensures by_wanted in
    OfOther (others words (Scan query) (λ e. cc) (λ e. cc) (λ e. cc) asked) (ended-alone (fault_count source) (fault_count disk) (ScanEnds query (text_of words) (wanted_of words) source) (Ends run) (ScanLacks query (text_of words) (wanted_of words) source) (WordsLack run) sink c.scan.result refl (scan-run run query asked (record { disk = refl; world = refl })) (scan-lack run query asked (record { disk = refl; world = refl })) by_words) (refl {a = c.args.trio.now}) (refl {a = c.args.journal.now}, refl {a = c.args.cold.now})
