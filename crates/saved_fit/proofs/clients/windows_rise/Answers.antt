use Rattle.calls.specs.declared.saved.SavedWindow.{SavedWindow}
use Rattle.saved_fit.proofs.RisingLaws.{numbers-decided}
use Rattle.saved_fit.proofs.clients.windows_rise.Goals as goal

pub returns : goal.returns
returns c = numbers-decided (λ (window : SavedWindow). window.client) c.args.windows.now c.are_rising.result c.are_rising.ensures
