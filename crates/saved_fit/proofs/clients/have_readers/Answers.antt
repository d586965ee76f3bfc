use Rattle.calls.specs.declared.saved.SavedReader.{SavedReader}
use Rattle.plain_service.specs.Legal.{IsClient}
use Rattle.plain_service.proofs.ListLaws.{each-mapped, mapped-each}
use Rattle.saved_fit.proofs.clients.have_readers.Goals as goal

pub returns : goal.returns
returns c = (
  λ yes. each-mapped IsClient (λ (reader : SavedReader). reader.client) c.args.readers.now (c.are_readers.ensures.0 yes),
  λ each. c.are_readers.ensures.1 (mapped-each IsClient (λ (reader : SavedReader). reader.client) c.args.readers.now each),
)
