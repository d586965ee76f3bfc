use Rattle.std.proofs.Common.{◌≡◌, ◌≤◌, take}
use Rattle.world_runs.specs.Figures.{requests_in}
use Rattle.world_runs.proofs.figures.count_requests.Given as goal

abbrev pub invariant-loop-message : goal.invariant-loop-message
invariant-loop-message l = record {
  low : l.count ≤ l.message-index;
  counted : l.count ≡ requests_in (take l.message-index l.messages);
}
