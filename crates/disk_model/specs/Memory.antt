-- Words of public clauses on a disk in memory: when its calls fail and when it stops, and what is left of its files then.
use Rattle.std.specs.Prelude.{◌≡◌, ℕ, zero, suc, ◌+◌, ◌-◌, ◌/◌, ◌%◌, min, Bool, true, false, ◌==◌, nat_le, if◌then◌else◌}
use Rattle.std.specs.Prelude.{List, [], ◌∷◌, ◌++◌, length, map, take, slice_index, Result, Ok, Err}
use Rattle.std.specs.FinMap as files_by
use Rattle.std.specs.List.{list_any}
use Rattle.ais_values.specs.Causes.{one_more}
use Rattle.disk_model.specs.declared.answers.DiskFault.{DiskFault}
use Rattle.disk_model.specs.declared.answers.DiskFault.TheVariants as fault
use Rattle.disk_model.specs.declared.answers.DiskAnswer.{DiskAnswer}
use Rattle.disk_model.specs.declared.answers.DiskAnswer.TheVariants.{Memory, Failed, Stopped}
use Rattle.disk_model.specs.declared.tally.Tally.{Tally}
use Rattle.disk_model.specs.Counts.{no_calls, read_more, asked, passed, stopped, reaches}
use Rattle.disk_model.specs.Disk.{File, Files, no_files, settled_file, overwritten, file_written, file_synced}

-- the byte at a place of a torn range, from the range's start: from the list in turn, 0 where it is empty
abbrev pub torn_byte : List ℕ → ℕ → ℕ
torn_byte torn place = slice_index torn (place % length torn)

-- so many bytes of a torn range from its start
abbrev pub torn_bytes : List ℕ → ℕ → List ℕ
torn_bytes torn zero = []
torn_bytes torn (suc size) = torn_bytes torn size ++ torn_byte torn size ∷ []

-- the length when half of a growth is kept, rounded down; a file that became shorter keeps its new length
abbrev pub half_grown : ℕ → ℕ → ℕ
half_grown old new = min new (old + (new - old) / 2)

-- where a torn write of a file of this length ends, from where it would have ended
abbrev pub torn_end : ℕ → ℕ → ℕ
torn_end len end = if nat_le end len then end else half_grown len end

-- a file after a torn write: torn bytes in its range, and half of its growth
abbrev pub file_torn_by_write : List ℕ → ℕ → List ℕ → File → File
file_torn_by_write torn at bytes file = record {
  bytes =
      if nat_le at (length file.bytes)
      then overwritten file.bytes at (torn_bytes torn (torn_end (length file.bytes) (at + length bytes) - at))
      else file.bytes;
  loose = (file_written at bytes file).loose;
  settled = file.settled;
}

-- bytes of which one range (place, length) is torn, as far as they reach
abbrev pub range_torn : List ℕ → ℕ × ℕ → List ℕ → List ℕ
range_torn torn range bytes = overwritten bytes range.0 (torn_bytes torn (min range.1 (length bytes - range.0)))

-- bytes of which ranges are torn, in order
abbrev pub ranges_torn : List ℕ → List (ℕ × ℕ) → List ℕ → List ℕ
ranges_torn torn [] bytes = bytes
ranges_torn torn (range ∷ ranges) bytes = ranges_torn torn ranges (range_torn torn range bytes)

-- a file after a torn sync: torn bytes in its loose ranges, and half of its growth since nothing was loose
abbrev pub file_torn_by_sync : List ℕ → File → File
file_torn_by_sync torn file = record {
  bytes = take (half_grown file.settled (length file.bytes)) (ranges_torn torn file.loose file.bytes);
  loose = file.loose;
  settled = file.settled;
}

-- a file after a crash: as after a torn sync, and nothing is loose
abbrev pub file_crashed : List ℕ → File → File
file_crashed torn file = file_synced (file_torn_by_sync torn file)

-- all files after a crash
abbrev pub files_crashed : List ℕ → Files → Files
files_crashed torn files =
    files_by.from_sorted (map (λ (entry : List ℕ × File). (entry.0, file_crashed torn entry.1)) (files_by.entries files))

-- a disk in memory: its files, what it counts of its calls, how many faults and stops were told, the numbers of the changing and
-- reading calls that fail, and the bytes of torn ranges
pub record MemState : Type 0 where
  pub files : Files
  pub tally : Tally
  pub faults : ℕ
  pub stops : ℕ
  pub failing : List ℕ
  pub failing_reads : List ℕ
  pub torn : List ℕ

-- a disk without files, of which no call was made yet
abbrev pub fresh_disk : (failing failing_reads torn : List ℕ) → MemState
fresh_disk failing failing_reads torn = record {
  files = no_files;
  tally = no_calls;
  faults = 0;
  stops = 0;
  failing = failing;
  failing_reads = failing_reads;
  torn = torn;
}

-- a disk with this file, of which nothing is loose, whatever had the name
abbrev pub with_settled : MemState → (name bytes : List ℕ) → MemState
with_settled disk name bytes = record disk { files = files_by.insert disk.files name (settled_file bytes) }

-- whether the next changing call, or reading call, is one that fails
abbrev pub fails_next : MemState → Bool
fails_next disk = list_any (λ n. n == one_more disk.tally.changing) disk.failing

abbrev pub read_fails_next : MemState → Bool
read_fails_next disk = list_any (λ n. n == one_more disk.tally.reading) disk.failing_reads

-- the disk crashed
abbrev pub crashed : MemState → MemState
crashed disk = record disk { files = files_crashed disk.torn disk.files }

-- a changing call: the disk stops in it exactly where the armed count is reached, having done what it does in part; else the call
-- fails exactly where its number is listed, and then leaves the files as told
abbrev pub Changes : {T : Type 0} → Result T DiskAnswer → (done part left : Files → Files) → MemState → MemState → Type 0
Changes (Ok value) done part left old new =
    (reaches 1 old.tally.armed ≡ false) × (fails_next old ≡ false)
    × (new ≡ record old { files = done old.files; tally = passed 1 old.tally })
Changes (Err Memory) done part left old new = new ≡ record old { tally = asked old.tally }
Changes (Err Failed) done part left old new =
    (reaches 1 old.tally.armed ≡ false) × (fails_next old ≡ true)
    × (new ≡ record old { files = left old.files; tally = passed 1 old.tally; faults = one_more old.faults })
Changes (Err Stopped) done part left old new =
    (reaches 1 old.tally.armed ≡ true)
    × (new
    ≡ record old { files = files_crashed old.torn (part old.files); tally = stopped 1 old.tally; stops = one_more old.stops })

-- a reading call: it fails exactly where its number is listed
abbrev pub Reads : {T : Type 0} → Result T DiskAnswer → MemState → MemState → Type 0
Reads (Ok value) old new = (read_fails_next old ≡ false) × (new ≡ record old { tally = read_more 1 old.tally })
Reads (Err Memory) old new = new ≡ record old { tally = read_more 1 old.tally }
Reads (Err Failed) old new =
    (read_fails_next old ≡ true) × (new ≡ record old { tally = read_more 1 old.tally; faults = one_more old.faults })
Reads (Err Stopped) old new = ⊥

-- a reading call that takes no memory
abbrev pub ReadsAt : {T : Type 0} → Result T DiskFault → MemState → MemState → Type 0
ReadsAt (Ok value) old new = (read_fails_next old ≡ false) × (new ≡ record old { tally = read_more 1 old.tally })
ReadsAt (Err fault.Failed) old new =
    (read_fails_next old ≡ true) × (new ≡ record old { tally = read_more 1 old.tally; faults = one_more old.faults })
