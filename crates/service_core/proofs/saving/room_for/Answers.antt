use Rattle.std.proofs.Common.{◌∙◌}
use Rattle.service_core.proofs.saving.room_for.Goals as goal

pub returns : goal.returns
returns g c = c.from_vec.ensures ∙ c.in_ok-room.ensures.items
