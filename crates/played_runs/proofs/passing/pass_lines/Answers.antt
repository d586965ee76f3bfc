use Rattle.std.proofs.Common.{List, subst}
use Rattle.played_runs.specs.Ends.{StoodUpTo}
use Rattle.played_runs.specs.Passing.{Passes}
use Rattle.played_runs.proofs.passing.pass_lines.Goals as goal

pub returns-clause-passes : goal.returns-clause-passes
returns-clause-passes g c =
    let mid = g.D.SharedDisk.seen c.args.disk.now in
    let left = g.D.SharedDisk.seen c.pass_all-passed.new.disk in
    subst (λ (lines : List g.row.L.Denot). (Passes g.W.Playable.game) (StoodUpTo g.D.SharedDisk.seen) lines mid left c.args.world.now c.pass_all-passed.new.world c.pass_all-passed.result) c.as_slice.ensures c.pass_all-passed.ensures.passes
