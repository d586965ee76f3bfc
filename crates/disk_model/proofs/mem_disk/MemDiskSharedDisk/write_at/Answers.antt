use Rattle.std.proofs.Common.{◌∙◌, ap}
use Rattle.disk_model.specs.Disk.{adjusted}
use Rattle.disk_model.specs.Failures.{LeftByWrite}
use Rattle.disk_model.specs.Memory.{MemState, file_torn_by_write}
use Rattle.disk_model.proofs.Crashing.{stopped-with, left-where-written}
use Rattle.disk_model.proofs.Tearing.{left_where_torn}
use Rattle.disk_model.proofs.mem_disk.MemDiskSharedDisk.write_at.Goals as goal

pub returns-in-Ok-clause-stopped : goal.returns-in-Ok-clause-stopped
returns-in-Ok-clause-stopped c =
    λ _. stopped-with _ (LeftByWrite c.args.name.now c.args.at c.args.bytes.now) _ _ _ _ (ap (λ (d : MemState). d.files) c.self.view_is) (left-where-written c.args.name.now c.args.at c.args.bytes.now _ _ c.in-Ok.ensures.ok)
    (ap (λ (d : MemState). d.files) c.stop.ensures.counted)

pub returns-in-Ok-tear_write-clause-left : goal.returns-in-Ok-tear_write-clause-left
returns-in-Ok-tear_write-clause-left c =
    λ _. left_where_torn c.as_slice.result.now c.args.name.now c.args.at c.args.bytes.now _ _
    (ap (λ (d : MemState). d.files) c.count_fault.ensures.counted ∙ c.in-Ok-tear_write.ensures.ok
    ∙ ap (λ (d : MemState). adjusted (file_torn_by_write c.as_slice.result.now c.args.at c.args.bytes.now) d.files c.args.name.now) c.self.view_is)
