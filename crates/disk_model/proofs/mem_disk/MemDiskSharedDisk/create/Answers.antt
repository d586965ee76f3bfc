use Rattle.std.proofs.Common.{inl, refl, ap}
use Rattle.disk_model.specs.Failures.{LeftByCreate}
use Rattle.disk_model.specs.Memory.{MemState}
use Rattle.disk_model.proofs.Crashing.{stopped-with}
use Rattle.disk_model.proofs.mem_disk.MemDiskSharedDisk.create.Goals as goal

pub returns-then-stops_next-clause-stopped : goal.returns-then-stops_next-clause-stopped
returns-then-stops_next-clause-stopped c =
    λ _. stopped-with _ (LeftByCreate c.args.name.now) _ _ _ _ refl (inl refl)
    (ap (λ (d : MemState). d.files) c.stop.ensures.counted)
