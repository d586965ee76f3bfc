use Rattle.disk_model.specs.DeviceCalls.{CallRename}
use Rattle.disk_model.proofs.Breaking.{performs_one}
use Rattle.stream_files.proofs.performing.rename.Goals as goal

pub returns-clause-performs : goal.returns-clause-performs
returns-clause-performs g c =
    rw (← c.as_slice.ensures.bytes, ← c.as_slice-2.ensures.bytes) (performs_one (CallRename _ _) c.rename.result _ _ _ _ c.rename.ensures.done c.rename.ensures.memory c.rename.ensures.failed
    c.rename.ensures.stopped c.rename.ensures.counted)
