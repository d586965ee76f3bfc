use Rattle.load_lines.proofs.Whole.{load-script}
use Rattle.load_lines.proofs.law.law_of_loads.Goals as goal

pub returns : goal.returns
returns c = load-script
