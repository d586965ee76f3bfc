use Rattle.trio_runs.proofs.ScriptSteps.{can-play}
use Rattle.trio_runs.proofs.laws.law_of_trio_scripts.Goals as goal

pub returns : goal.returns
returns c = can-play
