use Rattle.std.proofs.Common.{ap}
use Rattle.disk_model.specs.Failures.{LeftByCut}
use Rattle.disk_model.specs.Memory.{MemState}
use Rattle.disk_model.proofs.Crashing.{stopped-with, left-where-cut}
use Rattle.disk_model.proofs.mem_disk.MemDiskSharedDisk.cut.Goals as goal

pub returns-then-stops-clause-stopped : goal.returns-then-stops-clause-stopped
returns-then-stops-clause-stopped c =
    λ _. stopped-with _ (LeftByCut c.args.name.now c.args.len) _ _ _ _ (ap (λ (d : MemState). d.files) c.self.view_is) (left-where-cut c.args.name.now c.args.len _ _ c.cut.ensures)
    (ap (λ (d : MemState). d.files) c.stop.ensures.counted)
