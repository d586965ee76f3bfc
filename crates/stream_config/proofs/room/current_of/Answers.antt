use Rattle.std.proofs.Common.{◌<◌, length, arith}
use Rattle.std.proofs.lemmas.Bool.Decides.{nat_tests}
use Rattle.stream_config.proofs.RoomLaws.{current_file_at}
use Rattle.stream_config.proofs.room.current_of.Goals as goal

pub returns : goal.returns
returns c =
    let some : 0 < length c.args.files.now = Prim.grind (arith, nat_tests) in
    current_file_at c.args.files.now _ some
