use Rattle.cluster_rounds.proofs.BrokenClients.{same-breaks-if}
use Rattle.cluster_rounds.proofs.CameSteps.{alone-off}
use Rattle.cluster_rounds.specs.Rounds.{EndsStep}
use Rattle.cluster_rounds.specs.Worlds.{any_state}
use Rattle.cold_servers.specs.ColdKit.{cold_kit}
use Rattle.cold_servers.specs.ColdLaws.{cold_laws}
use Rattle.cold_servers.proofs.serving.SoloServing.advance.Goals as goal

pub advance-requires : goal.advance-requires
advance-requires g c = record { state = c.requires; up = c.if-is_up.ensures }

pub returns-clause-err : goal.returns-clause-err
returns-clause-err g c =
    let world = c.args.world.now in
    let lines = c.args.lines.now.items in
    (alone-off cold_kit cold_laws) any_state (EndsStep cold_kit) world world lines lines (cold_kit.see (g.D.SharedDisk.seen c.args.disk.now) (g.J.SharedDisk.seen c.args.beside.now)) ((same-breaks-if cold_kit cold_laws) any_state world)

pub returns-clause-counts : goal.returns-clause-counts
returns-clause-counts g c = cold_laws.stands (cold_kit.see (g.D.SharedDisk.seen c.args.disk.now) (g.J.SharedDisk.seen c.args.beside.now))
