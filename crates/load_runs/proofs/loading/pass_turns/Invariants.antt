use Rattle.std.proofs.Common.{◌≡◌, ◌≤◌, Ok}
use Rattle.load_script.specs.Numbers.{state_at}
use Rattle.load_lines.specs.Lines.{turns_lines}
use Rattle.played_runs.specs.Ends.{StoodUpTo}
use Rattle.played_runs.specs.Passing.{Passes}
use Rattle.load_runs.proofs.loading.pass_turns.Given as goal

abbrev pub invariant-loop-done : goal.invariant-loop-done
invariant-loop-done g l = record {
  state : l.state ≡ state_at l.seed l.done;
  passes : (Passes g.W.Playable.game) (StoodUpTo g.D.SharedDisk.seen) (turns_lines l.seed l.done) (g.D.SharedDisk.seen l.fn.disk) (g.D.SharedDisk.seen l.disk) l.fn.world l.world (Ok tt);
  disk : (g.D.SharedDisk.seen l.fn.disk).faults ≤ (g.D.SharedDisk.seen l.disk).faults;
}
