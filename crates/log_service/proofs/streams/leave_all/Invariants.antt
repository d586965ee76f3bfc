use Rattle.std.proofs.Common.{◌≡◌, map, take, drop, ◌++◌}
use Rattle.log_history.specs.Table.{without_opener}
use Rattle.log_service.proofs.streams.leave_all.Given as goal

abbrev pub invariant-loop-place : goal.invariant-loop-place
invariant-loop-place l =
    l.streams.items ≡ map (without_opener l.client) (take l.place l.initial.streams.items) ++ drop l.place l.initial.streams.items
