-- Words of public clauses: what is seen of a disk.
use Rattle.std.specs.Prelude.{ℕ, Option, None}
use Rattle.disk_model.specs.declared.tally.Tally.{Tally}
use Rattle.disk_model.specs.Counts.{no_calls}
use Rattle.disk_model.specs.Disk.{Files}

-- what is seen of a disk: its files with their loose ranges, where it tells them; what it counts of its calls, and how many changing
-- calls are left until it stops, where it is armed; how many faults it has told; and how many times it has stopped. The counts of
-- faults and stops never fall, and may stop at the greatest u64
pub record DiskSeen : Type 0 where
  pub files : Option Files
  pub tally : Tally
  pub faults : ℕ
  pub stops : ℕ

-- a disk that tells nothing and was asked nothing
abbrev pub none_seen : DiskSeen
none_seen = record { files = None; tally = no_calls; faults = 0; stops = 0 }
