use Rattle.callback_dispatch.proofs.Sharing.{shared}
use Rattle.callback_dispatch.proofs.law.law_of_sharing.Goals as goal

pub returns : goal.returns
returns c = shared
