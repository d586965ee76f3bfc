use Rattle.ntf_history.proofs.TableLaws.{table_of-step}
use Rattle.ntf_history.proofs.law.law_of_changes.Goals as goal

pub returns : goal.returns
returns c = table_of-step
