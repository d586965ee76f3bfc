use Rattle.std.proofs.Common.{refl}
use Rattle.command_journal.specs.Worlds.{both}
use Rattle.cold_runs.proofs.NameSteps.{first-broken, first-found, then-asked}
use Rattle.cold_runs.proofs.playing.first_of.Goals as goal

pub returns-in-Ok-None : goal.returns-in-Ok-None
returns-in-Ok-None g c =
    let held = both (g.D.SharedDisk.seen c.args.disk.now) (g.J.SharedDisk.seen c.args.journal.now) in
    let left = both (g.D.SharedDisk.seen c.name_of.new.disk) (g.J.SharedDisk.seen c.name_of-in-Ok-None.new.disk) in
    let first = rw c.in-Ok-None.field-0-is at c.in-Ok-None.ensures in
    then-asked held left c.name_of-in-Ok-None.result first.0 first.1 c.name_of-in-Ok-None.ensures

pub returns-in-Ok-Some : goal.returns-in-Ok-Some
returns-in-Ok-Some g c =
    let held = both (g.D.SharedDisk.seen c.args.disk.now) (g.J.SharedDisk.seen c.args.journal.now) in
    let left = both (g.D.SharedDisk.seen c.name_of.new.disk) (g.J.SharedDisk.seen c.args.journal.now) in
    first-found held left c.in-Ok-Some.name (rw c.in-Ok-Some.field-0-is at c.in-Ok-Some.ensures) refl

pub returns-in-Err : goal.returns-in-Err
returns-in-Err g c =
    let held = both (g.D.SharedDisk.seen c.args.disk.now) (g.J.SharedDisk.seen c.args.journal.now) in
    let left = both (g.D.SharedDisk.seen c.name_of.new.disk) (g.J.SharedDisk.seen c.args.journal.now) in
    first-broken held left c.in-Err.answer c.in-Err.ensures refl
