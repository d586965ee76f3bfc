use Rattle.cold_servers.specs.ColdLaws.{cold_laws}
use Rattle.cold_servers.specs.ColdScript.{cold_follows}
use Rattle.cold_servers.proofs.law_of_servers.Goals as goal

pub returns : goal.returns
returns c = record { servers = cold_laws; lines = cold_follows }
