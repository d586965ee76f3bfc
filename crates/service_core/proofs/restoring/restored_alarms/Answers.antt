use Rattle.service_core.proofs.RestoringLaws.{saved-in-order}
use Rattle.service_core.proofs.restoring.restored_alarms.Goals as goal

pub rebuild-requires : goal.rebuild-requires
rebuild-requires c =
    saved-in-order c.args.alarms c.in_ok-kept.kept.items c.requires c.in_ok-kept.ensures
