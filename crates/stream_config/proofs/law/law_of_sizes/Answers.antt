use Rattle.stream_config.proofs.RoomLaws.{room-is}
use Rattle.stream_config.proofs.law.law_of_sizes.Goals as goal

pub returns : goal.returns
returns c = λ attrs count some. room-is attrs count some
