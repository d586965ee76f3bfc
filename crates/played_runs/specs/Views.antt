-- Words of public clauses: what a run follows of a disk.
use Rattle.std.specs.Prelude.{◌≡◌, ◌⊎◌, ℕ, suc, List, length, Option, None, IfSome, option_map}
use Rattle.disk_model.specs.Counts.{Counters, asked, passed, read_more}
use Rattle.disk_model.specs.DeviceCalls.{DeviceCall, DoesFront, FailsAfter, LacksMemoryAfter}
use Rattle.disk_model.specs.Disk.{Files, no_files}
use Rattle.disk_model.specs.Seen.{DiskSeen}
use Rattle.stream_layout.specs.Deeds.{calls_of_all}
use Rattle.plain_service.specs.Setups.{Setup}
use Rattle.plain_service.specs.Storing.{opening_of}
pub use Rattle.cluster_rounds.specs.Seen.{counters_of}

-- a disk that tells these files and counted so
abbrev pub seen_as : Option Files → Counters → DiskSeen
seen_as files counts = record { files = files; tally = counts.tally; faults = counts.faults; stops = counts.stops }

-- these files, where the disk told any
abbrev pub files_told : Files → Option Files → Option Files
files_told files held = option_map (λ _. files) held

-- the disk holds no file, where it tells its files
abbrev pub HoldsNone : Option Files → Type 0
HoldsNone held = IfSome held (λ files. files ≡ no_files)

-- A run begins by asking the disk for its names, once, and by the deeds of the start.

-- a disk that told its names
abbrev pub names_told : DiskSeen → DiskSeen
names_told disk = record disk { tally = read_more 1 disk.tally }

-- a disk that had a fault as it was asked for them
pub record NamesFailed (held left : DiskSeen) : Type 0 where
  pub files : left.files ≡ held.files
  pub tally : left.tally ≡ read_more 1 held.tally
  pub stops : left.stops ≡ held.stops

-- what a disk counts behind the deeds of the start; and behind its names and these
abbrev pub behind_deeds : Setup → Counters → Counters
behind_deeds setup first =
    record { faults = first.faults; stops = first.stops; tally = passed (length (calls_of_all (opening_of setup))) first.tally }

abbrev pub behind_opening : Setup → Counters → Counters
behind_opening setup first = behind_deeds setup (record { faults = first.faults; stops = first.stops; tally = read_more 1 first.tally })

-- memory was wanting behind so many of these calls, which were counted
abbrev pub LackedBehind : List DeviceCall → DiskSeen → DiskSeen → Type 0
LackedBehind calls held left =
    (count : ℕ) × LacksMemoryAfter calls count held.files left.files × (left.tally ≡ asked (passed count held.tally))

-- Memory was wanting in the deeds of the start, or before them: some calls from the front were done, no call failed, and the disk did not
-- stop. It is not armed, as it was not before.
pub record LackedDeeds (setup : Setup) (held left : DiskSeen) : Type 0 where
  pub front : DoesFront (calls_of_all (opening_of setup)) held.files left.files
  pub calls : (left.tally ≡ held.tally) ⊎ LackedBehind (calls_of_all (opening_of setup)) held left
  pub faults : left.faults ≡ held.faults
  pub stops : left.stops ≡ held.stops
  pub armed : left.tally.armed ≡ None

-- a call of them failed behind so many that were done, and no others were made
pub record FailedDeeds (setup : Setup) (held left : DiskSeen) : Type 0 where
  pub count : ℕ
  pub fails : FailsAfter (calls_of_all (opening_of setup)) count held.files left.files
  pub tally : left.tally ≡ passed (suc count) held.tally
  pub stops : left.stops ≡ held.stops
