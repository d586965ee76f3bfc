-- Whole runs of one server and its journal.
use Rattle.std.proofs.Common.{ℕ, ℤ, List, ◌++◌, refl}
use Rattle.script_lines.specs.declared.line.Line.{Line}
use Rattle.cluster_facts.specs.Types.{Entry}
use Rattle.cluster_facts.specs.Service.{Plain, IsPlain}
use Rattle.cluster_events.specs.Lines.{Told}
use Rattle.cluster_events.specs.Measure.{Spends}
use Rattle.cluster_events.specs.Saying.{Says}
use Rattle.cluster_events.specs.Servers.{State}
use Rattle.cluster_events.specs.Serving.{IsSteady}
use Rattle.cluster_events.specs.Running.{Shelf}
use Rattle.cluster_events.proofs.Ending as ending
use Rattle.cluster_events.proofs.Promised.{at-end}
use Rattle.cluster_events.proofs.Runs.{IsKept, any-says, any-keeps}
use Rattle.cluster_events.proofs.Telling.{Says-both}
use Rattle.group_cluster.proofs.Ended.{lacks-last}
use Rattle.group_cluster.proofs.Saying.{group-spends}
use Rattle.cold_cluster.specs.Cold.{Alone, IsCold, calm, cold_begun}
use Rattle.cold_cluster.specs.Standing.{standing_cold}
use Rattle.cold_cluster.specs.Lines.{ColdStepBy, alone}
use Rattle.cold_cluster.specs.Promises.{ColdKeepsPromises, ColdSettleSettles, ColdEndKeeps, ColdEndLacks, Ran}
use Rattle.cold_cluster.proofs.Calm.{nothing_shown}
use Rattle.cold_cluster.proofs.Coming.{start-steady}
use Rattle.cold_cluster.proofs.Doing.{cold-carries, cold-serves}
use Rattle.cold_cluster.proofs.Keeping as keeping

module _ (plain : Plain) (is_plain : IsPlain plain) (shelf : Shelf) (calls : List Entry → Entry → ℕ) where
  -- **every line keeps the facts, and says what it must**, whatever goes along
  pub cold-is-kept : {M : Type 0} → IsKept plain IsCold (ColdStepBy {M = M} plain shelf calls)
  cold-is-kept = record {
    kept = λ before next state outcome after steady step.
        keeping.line-keeps plain is_plain shelf (record { calls = calls; fails = λ number. 0 }) next state outcome steady step;
  }

  run-says : (now : ℤ) (places : ℕ) (lines : List Line) (state : State Alone) (told : List Told) → Ran plain shelf calls now places lines state told → IsSteady plain IsCold state × Says plain (cold_begun now places).world state.world told
  run-says now places lines state told run =
      any-says plain IsCold (ColdStepBy plain shelf calls) cold-is-kept (cold_begun now places) tt (start-steady plain now places) run

pub keeps-promises : ColdKeepsPromises
keeps-promises plain is_plain shelf calls now places lines state told run =
    any-keeps plain IsCold (ColdStepBy plain shelf calls) (cold-is-kept plain is_plain shelf calls) (cold_begun now places) tt (start-steady plain now places) now places refl run

pub settle-settles : ColdSettleSettles
settle-settles plain is_plain shelf calls device now places lines state new told printed run settles =
    let steady = (run-says plain is_plain shelf calls now places lines state told run).0 in
    let spends = cold-carries standing_cold plain is_plain device Spends (group-spends 2 plain (calm device) is_plain) in
    ending.settle-settles plain is_plain (alone plain device) IsCold (cold-serves standing_cold plain is_plain device) spends state new settles.lines steady settles.rounds

pub end-keeps : ColdEndKeeps
end-keeps plain is_plain shelf calls device now places lines state told next end run ends =
    let said = run-says plain is_plain shelf calls now places lines state told run in
    let last = keeping.end-keeps plain is_plain shelf device next state end said.0 ends in
    at-end plain end.state.world (end.told ++ told) now places last.0.sound (Says-both plain (cold_begun now places).world state.world end.state.world told end.told said.1 last.1)

pub end-lacks : ColdEndLacks
end-lacks plain is_plain device next state end entry steady ends ready =
    let last = keeping.end-keeps plain is_plain nothing_shown device next state end steady ends in
    lacks-last plain end.state.world end.state.world.core.answered end.state.world.core.hand entry ready last.0.sound
