use Rattle.std.proofs.Common.{take}
use Rattle.cluster_rounds.proofs.rounds.take_items.Given as goal
use Rattle.cluster_rounds.specs.Rounds.{IsIdleWithItems, Plays, items_taken}
use Rattle.cluster_facts.specs.World.{World}
use Rattle.cluster_rounds.specs.Wild.{AllPosted, IsWild, WildOn}

abbrev pub invariant-loop-item : goal.invariant-loop-item
invariant-loop-item g l =
    (Plays g.S.Serving.kit) (IsIdleWithItems l.items) ((items_taken g.S.Serving.kit) (take l.item-index l.items)) l.fn.world l.world l.fn.lines.items l.lines.items l.loud
    × ((disks : g.S.Serving.kit.Seen) (seen : World) → (IsWild g.S.Serving.kit) seen l.fn.world disks → AllPosted l.items seen → (WildOn g.S.Serving.kit) seen l.world disks)
