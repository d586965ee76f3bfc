use Rattle.service_core.proofs.RestoringLaws.{queues-sound}
use Rattle.service_core.proofs.restoring.restored_ntf.Goals as goal

pub restored_subs-requires : goal.restored_subs-requires
restored_subs-requires c = queues-sound c.args.cap c.args.subs c.requires.queues
