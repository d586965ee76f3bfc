-- Words of public clauses: deeds that are performed again after attempts that broke off.
use Rattle.std.specs.Prelude.{◌≡◌, ℕ, zero, suc, ⊤, ◌⊎◌, IsTrue, List, [], ◌∷◌, ◌++◌, length, Some, None}
use Rattle.std.specs.FinMap.{get}
use Rattle.disk_model.specs.Disk.{File, Files}
use Rattle.disk_model.specs.DeviceCalls.{DeviceCall, all_applied, FailsAfter, LacksMemoryAfter, StopsAfter}
use Rattle.stream_config.specs.declared.event.StreamEvent.{StreamEvent}
use Rattle.stream_config.specs.declared.event.StreamEvent.TheVariants.{Made, Stored, Ended}
use Rattle.stream_config.specs.Events.{open_file, last_closed}
use Rattle.stream_config.specs.Fit.{stamps_of, rises}
use Rattle.stream_layout.specs.declared.deed.Deed.{Deed}
use Rattle.stream_layout.specs.Carrying.{state_before, AreRecordsOf, entries_before, Stand}
use Rattle.stream_layout.specs.Deeds.{calls_of_all}

-- nothing of a file is loose
pub record IsSettled (file : File) : Type 0 where
  pub loose : file.loose ≡ []
  pub settled : file.settled ≡ length file.bytes

-- nothing of the files is loose
abbrev pub AllSettled : Files → Type 0
AllSettled files = (name : List ℕ) (file : File) → get files name ≡ Some file → IsSettled file

-- of these calls so many from the front were done, and the next one failed, or changed nothing for want of memory, or the disk stopped in it
abbrev pub BrokeAfter : List DeviceCall → ℕ → Files → Files → Type 0
BrokeAfter calls count old new =
    FailsAfter calls count (Some old) (Some new)
    ⊎ LacksMemoryAfter calls count (Some old) (Some new)
    ⊎ StopsAfter calls count (Some old) (Some new)

-- they broke off behind some of them
abbrev pub BrokeOff : List DeviceCall → Files → Files → Type 0
BrokeOff calls old new = (count : ℕ) × BrokeAfter calls count old new

-- so many attempts at these calls broke off, each on the files that the one before left
abbrev pub Attempted : List DeviceCall → ℕ → Files → Files → Type 0
Attempted calls zero old new = new ≡ old
Attempted calls (suc attempts) old new = (between : Files) × Attempted calls attempts old between × BrokeOff calls between new

-- the stamps of a change of file come behind those of the files
abbrev pub IsLater : StreamEvent → Type 0
IsLater (Made state) = ⊤
IsLater (Stored before bytes None) = ⊤
IsLater (Stored before bytes (Some stamps)) =
    IsTrue (rises (stamps_of (last_closed stamps.closed before.files ++ open_file stamps.created ∷ [])))
IsLater (Ended before closed) = ⊤

-- however often they were broken off before, the deeds leave the files that they would have left at once, where nothing was loose before
abbrev pub RepeatSafely : StreamEvent → List Deed → Type 0
RepeatSafely event deeds =
    (records : List (List ℕ)) (files left : Files) (attempts : ℕ) → AreRecordsOf (state_before event) records
    → Stand (entries_before event records) files → AllSettled files → IsLater event → Attempted (calls_of_all deeds) attempts files left
    → all_applied (calls_of_all deeds) left ≡ all_applied (calls_of_all deeds) files
