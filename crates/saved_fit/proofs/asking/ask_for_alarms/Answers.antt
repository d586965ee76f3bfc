use Rattle.std.proofs.Common.{ap, ◌∙◌}
use Rattle.ntf_history.specs.Rows.{asks_for_alarms}
use Rattle.saved_fit.proofs.asking.ask_for_alarms.Goals as goal

pub returns : goal.returns
returns c = c.asks_for_alarms.ensures ∙ ap asks_for_alarms c.get.ensures
