use Rattle.std.proofs.Common.{◌≡◌, ◌≤◌, List}
use Rattle.cluster_facts.specs.Messages.{Posting}
use Rattle.cluster_clients.specs.Spelled.{AreSpelled}
use Rattle.world_runs.specs.Figures.{requests_up_to}
use Rattle.world_runs.proofs.figures.requests_of_net.Given as goal

abbrev pub invariant-loop-place : goal.invariant-loop-place
invariant-loop-place l = record {
  low : l.count ≤ l.place;
  counted : (postings : List Posting) → AreSpelled postings l.net → l.count ≡ requests_up_to l.place postings;
}
