use Rattle.plain_service.specs.Fitness.{is_sub_before}
use Rattle.saved_fit.proofs.RisingLaws.{rising-decided}
use Rattle.saved_fit.proofs.SubLaws.{sub-onward}
use Rattle.saved_fit.proofs.asking.stand_in_order.Goals as goal

pub returns : goal.returns
returns c = rising-decided is_sub_before sub-onward c.args.subs.now c.are_rising.result c.are_rising.ensures
