-- Words of public clauses: what is seen of a disk.
use Rattle.std.specs.Prelude.{◌≡◌, Option, IfSome}
use Rattle.disk_model.specs.Counts.{Counters}
use Rattle.disk_model.specs.Disk.{Files}
use Rattle.disk_model.specs.Seen.{DiskSeen}
use Rattle.plain_service.specs.Setups.{Setup}
use Rattle.plain_service.specs.Storing.{files_of}
use Rattle.cluster_events.specs.Servers.{State}

-- what a disk counts
abbrev pub counters_of : DiskSeen → Counters
counters_of disk = record { faults = disk.faults; stops = disk.stops; tally = disk.tally }

-- a disk that was only read: its files, what it counts of changing calls, and its stops are as they were
pub record IsRead (old new : DiskSeen) : Type 0 where
  pub files : new.files ≡ old.files
  pub changing : new.tally.changing ≡ old.tally.changing
  pub armed : new.tally.armed ≡ old.tally.armed
  pub stops : new.stops ≡ old.stops

-- where a disk tells its files, they are those of the history without the entry in hand
abbrev pub TellsFiles : {P : Type 0} → Setup → State P → Option Files → Type 0
TellsFiles setup state held = IfSome held (λ files. files ≡ files_of setup state.world.core.answered)
