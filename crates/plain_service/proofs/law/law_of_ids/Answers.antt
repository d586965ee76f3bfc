use Rattle.plain_service.proofs.IdLaws.{id-next, ids-counted}
use Rattle.plain_service.proofs.law.law_of_ids.Goals as goal

pub returns : goal.returns
returns c = record { counted = ids-counted; next = id-next }
