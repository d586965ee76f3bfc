use Rattle.plain_service.proofs.AskedLaws.{items-asked, items-dropped, sends-rising}
use Rattle.plain_service.proofs.law.law_of_asked.Goals as goal

pub returns : goal.returns
returns c = record { told = items-asked; dropped = items-dropped; rise = sends-rising }
