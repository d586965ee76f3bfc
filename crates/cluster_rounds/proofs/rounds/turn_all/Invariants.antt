use Rattle.std.proofs.Common.{take}
use Rattle.cluster_rounds.proofs.rounds.turn_all.Given as goal
use Rattle.cluster_rounds.specs.Came.{Comes}
use Rattle.cluster_rounds.specs.Rounds.{IsIdleWithAll, turns_by}
use Rattle.cluster_facts.specs.World.{World}
use Rattle.cluster_rounds.specs.Wild.{AllPosted, IsWild, WildOn}

abbrev pub invariant-loop-message : goal.invariant-loop-message
invariant-loop-message g l =
    (Comes g.S.Serving.kit) (IsIdleWithAll l.messages) ((turns_by g.S.Serving.kit) (take l.message-index l.messages)) l.fn.world l.world l.fn.lines.items l.lines.items l.loud (g.S.Serving.kit.see (g.D.SharedDisk.seen l.fn.disk) (g.J.SharedDisk.seen l.fn.beside)) (g.S.Serving.kit.see (g.D.SharedDisk.seen l.disk) (g.J.SharedDisk.seen l.beside))
    × ((seen : World) → (IsWild g.S.Serving.kit) seen l.fn.world (g.S.Serving.kit.see (g.D.SharedDisk.seen l.fn.disk) (g.J.SharedDisk.seen l.fn.beside)) → AllPosted l.messages seen → (WildOn g.S.Serving.kit) seen l.world (g.S.Serving.kit.see (g.D.SharedDisk.seen l.disk) (g.J.SharedDisk.seen l.beside)))
    × g.S.Serving.kit.Outlives (g.S.Serving.kit.see (g.D.SharedDisk.seen l.fn.disk) (g.J.SharedDisk.seen l.fn.beside)) (g.S.Serving.kit.see (g.D.SharedDisk.seen l.disk) (g.J.SharedDisk.seen l.beside))
