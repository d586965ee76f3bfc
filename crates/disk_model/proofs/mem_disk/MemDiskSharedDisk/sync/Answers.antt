use Rattle.std.proofs.Common.{refl, ◌∙◌, ap}
use Rattle.disk_model.specs.Disk.{adjusted}
use Rattle.disk_model.specs.Failures.{LeftBySync}
use Rattle.disk_model.specs.Memory.{MemState, file_torn_by_sync}
use Rattle.disk_model.proofs.Crashing.{stopped-with, left-unsynced}
use Rattle.disk_model.proofs.Tearing.{left_where_sync_torn}
use Rattle.disk_model.proofs.mem_disk.MemDiskSharedDisk.sync.Goals as goal

pub returns-then-stops_next-clause-stopped : goal.returns-then-stops_next-clause-stopped
returns-then-stops_next-clause-stopped c =
    λ _. stopped-with _ (LeftBySync c.args.name.now) _ _ _ _ refl (left-unsynced c.args.name.now _)
    (ap (λ (d : MemState). d.files) c.stop.ensures.counted)

pub returns-then-fails-clause-left : goal.returns-then-fails-clause-left
returns-then-fails-clause-left c =
    λ _. left_where_sync_torn c.as_slice.result.now c.args.name.now _ _
    (ap (λ (d : MemState). d.files) c.count_fault.ensures.counted ∙ c.tear_sync.ensures
    ∙ ap (λ (d : MemState). adjusted (file_torn_by_sync c.as_slice.result.now) d.files c.args.name.now) c.self.view_is)
