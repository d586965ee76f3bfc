use Rattle.service_laws.proofs.StorageLaws.{is_storage}
use Rattle.service_laws.proofs.law.law_of_storage.Goals as goal

pub returns : goal.returns
returns c = is_storage
