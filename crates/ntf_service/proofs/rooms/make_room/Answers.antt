use Rattle.std.proofs.Common.{◌<◌, length, ◌∙◌, arith}
use Rattle.ntf_service.proofs.Lacking.{rooms-tried, rooms-more, rooms-drop, rooms-made}
use Rattle.ntf_service.proofs.rooms.make_room.Goals as goal

pub loop-index-preserved : goal.loop-index-preserved
loop-index-preserved c =
    let inside : c.loop-index.index < length c.args.lacking.now = omega (arith, c.loop-index-test.true) in
    let made = c.in_ok-make_room_at.ensures in
    let now = c.loop-index.invariant in
    (made.told ∙ now.0, rooms-more c.args.lacking.now c.loop-index.index c.from-place.result _ inside c.from-place.ensures c.loop-index.subs.items c.make_room_at.new.subs.items now.1 made.beside made.room)

pub returns-in_err-make_room_at-clause-beside : goal.returns-in_err-make_room_at-clause-beside
returns-in_err-make_room_at-clause-beside c =
    let inside : c.loop-index.index < length c.args.lacking.now = omega (arith, c.loop-index-test.true) in
    let items = c.make_room_at.new.subs.items in
    rooms-drop c.args.lacking.now c.loop-index.index items (rooms-tried c.args.lacking.now c.loop-index.index c.from-place.result _ inside c.from-place.ensures c.loop-index.subs.items items c.loop-index.invariant.1 c.make_room_at.ensures.beside)

pub returns-clause-beside : goal.returns-clause-beside
returns-clause-beside c =
    rooms-drop c.args.lacking.now c.loop-index.index c.loop-index.subs.items c.loop-index.invariant.1

pub returns-clause-room : goal.returns-clause-room
returns-clause-room c =
    rooms-made c.args.lacking.now c.loop-index.index c.loop-index.subs.items (omega (arith, c.loop-index-test.false)) c.loop-index.invariant.1
