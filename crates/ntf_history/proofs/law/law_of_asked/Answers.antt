use Rattle.ntf_history.proofs.MarkLaws.{told-asked, losses-dropped, asked-lasting}
use Rattle.ntf_history.proofs.law.law_of_asked.Goals as goal

pub returns : goal.returns
returns c = record { told = told-asked; dropped = losses-dropped; lasting = asked-lasting }
