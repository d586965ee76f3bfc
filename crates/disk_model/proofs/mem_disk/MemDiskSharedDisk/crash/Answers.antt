use Rattle.std.proofs.Common.{ap}
use Rattle.disk_model.specs.Memory.{MemState}
use Rattle.disk_model.proofs.Crashing.{crashed-as}
use Rattle.disk_model.proofs.mem_disk.MemDiskSharedDisk.crash.Goals as goal

pub returns-clause-torn : goal.returns-clause-torn
returns-clause-torn c = crashed-as _ _ _ _ (ap (λ (d : MemState). d.files) c.self.view_is) c.crash.ensures
