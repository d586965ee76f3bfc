use Rattle.disk_model.specs.DeviceCalls.{CallCreate}
use Rattle.disk_model.proofs.Breaking.{performs_one}
use Rattle.stream_files.proofs.performing.create.Goals as goal

pub returns-clause-performs : goal.returns-clause-performs
returns-clause-performs g c =
    rw (← c.as_slice.ensures.bytes) (performs_one (CallCreate _) c.create.result _ _ _ _ c.create.ensures.done c.create.ensures.memory c.create.ensures.failed
    c.create.ensures.stopped c.create.ensures.counted)
