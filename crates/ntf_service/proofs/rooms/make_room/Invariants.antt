use Rattle.std.proofs.Common.{◌≡◌, drop}
use Rattle.ntf_service.specs.Told.{all_told}
use Rattle.ntf_service.specs.Rooms.{HaveRoomsBut}
use Rattle.ntf_service.proofs.rooms.make_room.Given as goal

abbrev pub invariant-loop-index : goal.invariant-loop-index
invariant-loop-index l =
    (all_told l.subs.items ≡ all_told l.initial.subs.items) × HaveRoomsBut (drop l.index l.lacking) l.subs.items
