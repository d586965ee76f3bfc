-- Names can show the stamps of the files that stand.
use Rattle.std.proofs.Common.{subst, sym}
use Rattle.stream_layout.specs.Inside.{HasStamps}
use Rattle.stream_layout.proofs.DeedLaws.{current_stamps, oldest_stamps}
use Rattle.stream_layout.proofs.listing.change.Goals as goal

pub close-requires-clause-stamps : goal.close-requires-clause-stamps
close-requires-clause-stamps c =
    subst HasStamps (sym c.current_of.ensures) (current_stamps c.args.files.now c.requires.standing c.requires.some)

pub remove_oldest-requires-clause-oldest : goal.remove_oldest-requires-clause-oldest
remove_oldest-requires-clause-oldest c =
    oldest_stamps c.args.files.now c.args.stamps.closed c.requires.standing c.requires.closed c.requires.some
