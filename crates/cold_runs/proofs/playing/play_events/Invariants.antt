use Rattle.std.proofs.Common.{length}
use Rattle.command_journal.specs.Worlds.{HasCold, both}
use Rattle.played_runs.specs.Edges.{edge}
use Rattle.cold_runs.specs.Steps.{CanComeCold, PlaysTo}
use Rattle.cold_runs.proofs.playing.play_events.Given as goal

abbrev pub invariant-loop-line : goal.invariant-loop-line
invariant-loop-line g l = record {
  can : CanComeCold l.events;
  stands : HasCold l.world (both (g.D.SharedDisk.seen l.disk) (g.J.SharedDisk.seen l.journal));
  plays : PlaysTo l.fn.events l.events l.fn.world l.world (both (g.D.SharedDisk.seen l.fn.disk) (g.J.SharedDisk.seen l.fn.journal)) (both (g.D.SharedDisk.seen l.disk) (g.J.SharedDisk.seen l.journal)) (edge g.K.Sink.written g.K.Sink.faults l.fn.out l.out);
}

abbrev pub decreases-loop-line : goal.decreases-loop-line
decreases-loop-line g l = length l.events
