use Rattle.saved_fit.proofs.RisingLaws.{ids-decided}
use Rattle.saved_fit.proofs.alarms.have_rising_ids.Goals as goal

pub returns : goal.returns
returns c = ids-decided c.args.alarms.now c.ids_rise.result c.ids_rise.ensures
