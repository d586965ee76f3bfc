use Rattle.std.proofs.Common.{take}
use Rattle.cluster_rounds.proofs.rounds.turn_clients.Given as goal
use Rattle.cluster_rounds.specs.Came.{Comes}
use Rattle.cluster_rounds.specs.Rounds.{clients_by}
use Rattle.cluster_rounds.specs.Worlds.{IsIdle}
use Rattle.cluster_facts.specs.World.{World}
use Rattle.cluster_rounds.specs.Wild.{IsWild, WildOn}

abbrev pub invariant-loop-client : goal.invariant-loop-client
invariant-loop-client g l =
    (Comes g.S.Serving.kit) IsIdle ((clients_by g.S.Serving.kit) (take l.client-index l.clients)) l.fn.world l.world l.fn.lines.items l.lines.items l.loud (g.S.Serving.kit.see (g.D.SharedDisk.seen l.fn.disk) (g.J.SharedDisk.seen l.fn.beside)) (g.S.Serving.kit.see (g.D.SharedDisk.seen l.disk) (g.J.SharedDisk.seen l.beside))
    × ((seen : World) → (IsWild g.S.Serving.kit) seen l.fn.world (g.S.Serving.kit.see (g.D.SharedDisk.seen l.fn.disk) (g.J.SharedDisk.seen l.fn.beside)) → (WildOn g.S.Serving.kit) seen l.world (g.S.Serving.kit.see (g.D.SharedDisk.seen l.disk) (g.J.SharedDisk.seen l.beside)))
    × g.S.Serving.kit.Outlives (g.S.Serving.kit.see (g.D.SharedDisk.seen l.fn.disk) (g.J.SharedDisk.seen l.fn.beside)) (g.S.Serving.kit.see (g.D.SharedDisk.seen l.disk) (g.J.SharedDisk.seen l.beside))
