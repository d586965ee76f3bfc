use Rattle.std.proofs.Common.{◌≤◌, Ok, take, drop}
use Rattle.played_runs.specs.Ends.{StoodUpTo}
use Rattle.played_runs.specs.Passing.{CanPass, Passes}
use Rattle.played_runs.proofs.passing.pass_all.Given as goal

abbrev pub invariant-loop-line : goal.invariant-loop-line
invariant-loop-line g l = record {
  can : (CanPass g.W.Playable.game) (drop l.line-index l.lines);
  passes : (Passes g.W.Playable.game) (StoodUpTo g.D.SharedDisk.seen) (take l.line-index l.lines) (g.D.SharedDisk.seen l.fn.disk) (g.D.SharedDisk.seen l.disk) l.fn.world l.world (Ok tt);
  disk : (g.D.SharedDisk.seen l.fn.disk).faults ≤ (g.D.SharedDisk.seen l.disk).faults;
}
