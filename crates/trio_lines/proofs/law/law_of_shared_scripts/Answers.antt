use Rattle.trio_lines.proofs.Shared.{shared-script}
use Rattle.trio_lines.proofs.law.law_of_shared_scripts.Goals as goal

pub returns : goal.returns
returns c = shared-script
