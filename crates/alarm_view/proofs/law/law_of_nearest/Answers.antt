use Rattle.alarm_view.specs.Modes.{way_of}
use Rattle.alarm_view.specs.Nearest.{CanStart, CanFollow}
use Rattle.alarm_view.proofs.NearestLaws.{IsNearest-one}
use Rattle.alarm_view.proofs.law.law_of_nearest.Goals as goal

pub returns : goal.returns
returns c = record {
  start = λ mode value filters. IsNearest-one (way_of mode) (CanStart mode value filters);
  next = λ cursor way filters. IsNearest-one way (CanFollow way cursor filters);
}
