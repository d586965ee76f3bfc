use Rattle.std.proofs.Common.{true}
use Rattle.cluster_rounds.proofs.settling.settle.Given as goal
use Rattle.cluster_rounds.specs.Settling.{SettlesSo}
use Rattle.cluster_facts.specs.World.{World}
use Rattle.cluster_rounds.specs.Wild.{IsWild, WildOn}

abbrev pub invariant-loop-round : goal.invariant-loop-round
invariant-loop-round g l =
    (SettlesSo g.S.Serving.kit) l.fn.world l.world l.fn.lines.items l.lines.items true (g.S.Serving.kit.see (g.D.SharedDisk.seen l.fn.disk) (g.J.SharedDisk.seen l.fn.beside)) (g.S.Serving.kit.see (g.D.SharedDisk.seen l.disk) (g.J.SharedDisk.seen l.beside))
    × ((seen : World) → (IsWild g.S.Serving.kit) seen l.fn.world (g.S.Serving.kit.see (g.D.SharedDisk.seen l.fn.disk) (g.J.SharedDisk.seen l.fn.beside)) → (WildOn g.S.Serving.kit) seen l.world (g.S.Serving.kit.see (g.D.SharedDisk.seen l.disk) (g.J.SharedDisk.seen l.beside)))
    × g.S.Serving.kit.Outlives (g.S.Serving.kit.see (g.D.SharedDisk.seen l.fn.disk) (g.J.SharedDisk.seen l.fn.beside)) (g.S.Serving.kit.see (g.D.SharedDisk.seen l.disk) (g.J.SharedDisk.seen l.beside))
