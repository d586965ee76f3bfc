use Rattle.spare_server.proofs.StandbySteps.{all-follow}
use Rattle.spare_server.proofs.law.law_of_standbys.Goals as goal

pub returns : goal.returns
returns c = all-follow
