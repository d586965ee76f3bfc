use Rattle.std.proofs.Common.{List, sym, subst}
use Rattle.script_lines.specs.declared.line.Line.{Line}
use Rattle.load_lines.specs.Lines.{closing_lines}
use Rattle.played_runs.specs.Ends.{StoodUpTo}
use Rattle.played_runs.proofs.PassingSteps.{passes-unmade}
use Rattle.played_runs.specs.Passing.{CanPass, Passes}
use Rattle.load_runs.proofs.LoadLines.{can-closing}
use Rattle.load_runs.proofs.loading.pass_closing.Goals as goal

pub pass_lines-requires-clause-can : goal.pass_lines-requires-clause-can
pass_lines-requires-clause-can g c =
    subst (CanPass g.W.Playable.game) (sym c.in-Ok.ensures) (can-closing g.W.Playable.game c.requires.lines)

pub returns-in-Ok-clause-passes : goal.returns-in-Ok-clause-passes
returns-in-Ok-clause-passes g c =
    let mid = g.D.SharedDisk.seen c.args.disk.now in
    let left = g.D.SharedDisk.seen c.pass_lines.new.disk in
    subst (λ (all : List Line). (Passes g.W.Playable.game) (StoodUpTo g.D.SharedDisk.seen) all mid left c.args.world.now c.pass_lines.new.world c.pass_lines.result) c.in-Ok.ensures c.pass_lines.ensures.passes

pub returns-in-Err-clause-passes : goal.returns-in-Err-clause-passes
returns-in-Err-clause-passes g c =
    passes-unmade g.W.Playable.game g.W.Playable.plays (StoodUpTo g.D.SharedDisk.seen) closing_lines (g.D.SharedDisk.seen c.args.disk.now) c.args.world.now
