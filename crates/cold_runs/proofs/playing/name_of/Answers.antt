use Rattle.cold_runs.proofs.NameSteps.{names-broken, names-found}
use Rattle.cold_runs.proofs.playing.name_of.Goals as goal

pub returns-in-Ok : goal.returns-in-Ok
returns-in-Ok g c =
    let told = c.in-Ok.ensures in
    names-found (g.D.SharedDisk.seen c.args.disk.now) (g.D.SharedDisk.seen c.first_name.new.disk) c.in-Ok.found told.found told.same told.stops_stay told.counted told.cause.stands

pub returns-in-Err : goal.returns-in-Err
returns-in-Err g c =
    let told = c.in-Err.ensures in
    names-broken (g.D.SharedDisk.seen c.args.disk.now) (g.D.SharedDisk.seen c.first_name.new.disk) c.in-Err.answer told.same told.stops_stay told.counted told.cause
