use Rattle.std.proofs.Common.{take}
use Rattle.cluster_rounds.proofs.resending.hear_all.Given as goal
use Rattle.cluster_rounds.specs.Delivered.{HearsAll}
use Rattle.cluster_facts.specs.World.{World}
use Rattle.cluster_rounds.specs.Wild.{AllPosted, IsWild, WildOn}

abbrev pub invariant-loop-message : goal.invariant-loop-message
invariant-loop-message g l =
    (HearsAll g.S.Serving.kit) (take l.message-index l.messages) l.initial.world l.world l.initial.lines.items l.lines.items
    × ((disks : g.S.Serving.kit.Seen) (seen : World) → (IsWild g.S.Serving.kit) seen l.initial.world disks → AllPosted l.messages seen → (WildOn g.S.Serving.kit) seen l.world disks)
