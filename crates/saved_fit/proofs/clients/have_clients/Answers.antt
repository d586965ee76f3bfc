use Rattle.calls.specs.declared.saved.SavedWindow.{SavedWindow}
use Rattle.plain_service.specs.Legal.{IsClient}
use Rattle.plain_service.proofs.ListLaws.{each-mapped, mapped-each}
use Rattle.saved_fit.proofs.clients.have_clients.Goals as goal

pub returns : goal.returns
returns c = (
  λ yes. each-mapped IsClient (λ (window : SavedWindow). window.client) c.args.windows.now (c.are_of_clients.ensures.0 yes),
  λ each. c.are_of_clients.ensures.1 (mapped-each IsClient (λ (window : SavedWindow). window.client) c.args.windows.now each),
)
