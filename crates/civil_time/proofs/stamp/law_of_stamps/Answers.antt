use Rattle.civil_time.proofs.StampLaws.{stamp_tells}
use Rattle.civil_time.proofs.stamp.law_of_stamps.Goals as goal

pub returns : goal.returns
returns c = stamp_tells
