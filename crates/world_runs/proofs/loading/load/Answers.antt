use Rattle.std.proofs.Common.{rules}
use Rattle.world_runs.specs.Figures.{state_line}
use Rattle.world_runs.proofs.LoadLaws.{world-loads}
use Rattle.world_runs.proofs.loading.load.Goals as goal

pub play_load-requires-clause-lines : goal.play_load-requires-clause-lines
play_load-requires-clause-lines g c = world-loads

pub returns-clause-ends : goal.returns-clause-ends
returns-clause-ends g c =
    c.play_load.ensures.ends state_line (record { does = λ disk world result left told. search rules })
