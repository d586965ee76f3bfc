use Rattle.log_history.proofs.TableLaws.{table-after}
use Rattle.log_history.proofs.FitTableLaws.{table-fit}
use Rattle.log_history.proofs.EventLaws.{events-fit}
use Rattle.log_history.proofs.law.law_of_changes.Goals as goal

pub returns : goal.returns
returns c = record { table = table-after; fit = table-fit; events = events-fit }
