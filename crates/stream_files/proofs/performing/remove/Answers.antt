use Rattle.disk_model.specs.DeviceCalls.{CallRemove}
use Rattle.disk_model.proofs.Breaking.{performs_one}
use Rattle.stream_files.proofs.performing.remove.Goals as goal

pub returns-clause-performs : goal.returns-clause-performs
returns-clause-performs g c =
    rw (← c.as_slice.ensures.bytes) (performs_one (CallRemove _) c.remove.result _ _ _ _ c.remove.ensures.done c.remove.ensures.memory c.remove.ensures.failed
    c.remove.ensures.stopped c.remove.ensures.counted)
