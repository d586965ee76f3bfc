use Rattle.cluster_rounds.proofs.draining.drain.Given as goal
use Rattle.cluster_rounds.specs.Came.{Comes}
use Rattle.cluster_facts.specs.World.{World}
use Rattle.cluster_rounds.specs.Wild.{IsWild, WildOn}
use Rattle.cluster_rounds.specs.Rounds.{advances_by}
use Rattle.cluster_rounds.specs.Worlds.{any_state}

abbrev pub invariant-loop-step : goal.invariant-loop-step
invariant-loop-step g l =
    (Comes g.S.Serving.kit) any_state ((advances_by g.S.Serving.kit) l._step) l.fn.world l.world l.fn.lines.items l.lines.items l.loud (g.S.Serving.kit.see (g.D.SharedDisk.seen l.fn.disk) (g.J.SharedDisk.seen l.fn.beside)) (g.S.Serving.kit.see (g.D.SharedDisk.seen l.disk) (g.J.SharedDisk.seen l.beside))
    × ((seen : World) → (IsWild g.S.Serving.kit) seen l.fn.world (g.S.Serving.kit.see (g.D.SharedDisk.seen l.fn.disk) (g.J.SharedDisk.seen l.fn.beside)) → (WildOn g.S.Serving.kit) seen l.world (g.S.Serving.kit.see (g.D.SharedDisk.seen l.disk) (g.J.SharedDisk.seen l.beside)))
    × g.S.Serving.kit.Outlives (g.S.Serving.kit.see (g.D.SharedDisk.seen l.fn.disk) (g.J.SharedDisk.seen l.fn.beside)) (g.S.Serving.kit.see (g.D.SharedDisk.seen l.disk) (g.J.SharedDisk.seen l.beside))
