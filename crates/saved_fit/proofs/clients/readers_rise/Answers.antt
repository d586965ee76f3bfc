use Rattle.calls.specs.declared.saved.SavedReader.{SavedReader}
use Rattle.saved_fit.proofs.RisingLaws.{numbers-decided}
use Rattle.saved_fit.proofs.clients.readers_rise.Goals as goal

pub returns : goal.returns
returns c = numbers-decided (λ (reader : SavedReader). reader.client) c.args.readers.now c.are_rising.result c.are_rising.ensures
