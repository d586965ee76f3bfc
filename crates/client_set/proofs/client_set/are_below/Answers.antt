use Rattle.client_set.proofs.Places.{belongs_last}
use Rattle.client_set.proofs.client_set.are_below.Goals as goal

pub returns-in-Some : goal.returns-in-Some
returns-in-Some c =
    λ less. belongs_last c.args.clients.now c.args.client c.in-Some.last.now c.requires c.in-Some.ensures.value less
