use Rattle.std.proofs.Common.{◌≡◌, map, take, drop, ◌++◌}
use Rattle.disk_model.proofs.Crashing.{crashed_entry}
use Rattle.disk_model.proofs.entries.crash_in.Given as goal

abbrev pub invariant-loop-place : goal.invariant-loop-place
invariant-loop-place l =
    l.entries.items ≡ map (crashed_entry l.torn) (take l.place l.initial.entries.items) ++ drop l.place l.initial.entries.items
