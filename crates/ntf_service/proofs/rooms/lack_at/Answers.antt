use Rattle.ntf_service.proofs.Lacking.{rooms-used}
use Rattle.ntf_service.proofs.rooms.lack_at.Goals as goal

pub returns-else-is_full : goal.returns-else-is_full
returns-else-is_full c = λ before have stay.
    rooms-used c.args.lacking.now.items c.push_place.new.places.items before c.args.subs.now c.args.place c.push_place.ensures have stay
