use Rattle.std.proofs.Common.{arith}
use Rattle.ntf_service.proofs.Lacking.{room-beyond}
use Rattle.ntf_service.proofs.rooms.make_room_at.Goals as goal

pub returns-else-place-len-clause-room : goal.returns-else-place-len-clause-room
returns-else-place-len-clause-room c =
    room-beyond c.args.subs.now.items c.args.place (omega (arith, c.len.ensures, c.if-place-len.false, c.args.subs.now.ok.0))
