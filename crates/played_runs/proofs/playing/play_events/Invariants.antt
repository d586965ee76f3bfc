use Rattle.std.proofs.Common.{◌≡◌, ◌≤◌, ℕ, Option, length}
use Rattle.disk_model.specs.Disk.{Files}
use Rattle.plain_service.specs.Setups.{Setup}
use Rattle.played_runs.specs.Edges.{edge}
use Rattle.played_runs.specs.Games.{Begun}
use Rattle.played_runs.specs.Steps.{Behind, CanFollow}
use Rattle.played_runs.specs.Views.{counters_of}
use Rattle.played_runs.proofs.playing.play_events.Given as goal

abbrev pub invariant-loop-line : goal.invariant-loop-line
invariant-loop-line g l = record {
  follows : (CanFollow g.W.Playable.game) (g.W.Playable.game.now l.world) l.events;
  behind : (setup : Setup) (places : ℕ) (held : Option Files) → (Begun g.W.Playable.game) setup places held (g.D.SharedDisk.seen l.fn.disk) l.fn.world → (Behind g.W.Playable.game) setup places held (counters_of (g.D.SharedDisk.seen l.fn.disk)) (g.D.SharedDisk.seen l.disk) l.world (edge g.K.Sink.written g.K.Sink.faults l.fn.out l.out) l.fn.events l.events;
  sink : g.K.Sink.faults l.out ≡ g.K.Sink.faults l.fn.out;
  disk : (g.D.SharedDisk.seen l.fn.disk).faults ≤ (g.D.SharedDisk.seen l.disk).faults;
}

abbrev pub decreases-loop-line : goal.decreases-loop-line
decreases-loop-line g l = length l.events
