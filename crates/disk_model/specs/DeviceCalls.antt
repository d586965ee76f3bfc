-- Words of public clauses: changing calls as values, what they make of the files, and where a row of them breaks off.
use Rattle.std.specs.Prelude.{◌≡◌, ℕ, List, [], ◌∷◌, ◌++◌, length, Option, option_map, Result, Ok, Err}
use Rattle.disk_model.specs.declared.answers.DiskAnswer.{DiskAnswer}
use Rattle.disk_model.specs.declared.answers.DiskAnswer.TheVariants.{Memory, Failed, Stopped}
use Rattle.disk_model.specs.declared.tally.Tally.{Tally}
use Rattle.disk_model.specs.Counts.{CountsDone, CountsBroken}
use Rattle.disk_model.specs.Disk.{Files, created, written_at, synced, renamed, removed}
use Rattle.disk_model.specs.Failures.{LeftByCreate, LeftByWrite, LeftBySync, LeftByRename, LeftByRemove, ThenCrashed, WhereTold}

-- a changing call of a disk that is part of a deed
pub data DeviceCall : Type 0 where
  CallCreate : (name : List ℕ) → DeviceCall
  CallWrite : (name : List ℕ) (at : ℕ) (bytes : List ℕ) → DeviceCall
  CallSync : (name : List ℕ) → DeviceCall
  CallRename : (from to : List ℕ) → DeviceCall
  CallRemove : (name : List ℕ) → DeviceCall

-- the files after a call that is done
abbrev pub applied : DeviceCall → Files → Files
applied (CallCreate name) files = created files name
applied (CallWrite name at bytes) files = written_at files name at bytes
applied (CallSync name) files = synced files name
applied (CallRename from to) files = renamed files from to
applied (CallRemove name) files = removed files name

-- the files after calls that are done, in order
abbrev pub all_applied : List DeviceCall → Files → Files
all_applied [] files = files
all_applied (call ∷ calls) files = all_applied calls (applied call files)

-- what a call that failed may have left
abbrev pub LeftBy : DeviceCall → Files → Files → Type 0
LeftBy (CallCreate name) = LeftByCreate name
LeftBy (CallWrite name at bytes) = LeftByWrite name at bytes
LeftBy (CallSync name) = LeftBySync name
LeftBy (CallRename from to) = LeftByRename from to
LeftBy (CallRemove name) = LeftByRemove name

-- what a call may have left at which the disk stopped: it may have been done in part, and then the disk crashed
abbrev pub StoppedBy : DeviceCall → Files → Files → Type 0
StoppedBy call = ThenCrashed (LeftBy call)

-- a call that changed nothing
abbrev pub LeftAlone : DeviceCall → Files → Files → Type 0
LeftAlone call old new = new ≡ old

-- what a call left that gave this answer
abbrev pub LeftOn : DiskAnswer → DeviceCall → Files → Files → Type 0
LeftOn Memory = LeftAlone
LeftOn Failed = LeftBy
LeftOn Stopped = StoppedBy

-- of these calls so many from the front were done, and the next one, which was not done, left the files by a relation
pub record BreaksOff (Left : DeviceCall → Files → Files → Type 0) (calls : List DeviceCall) (count : ℕ) (old new : Option Files) : Type 0 where
  pub done : List DeviceCall
  pub broken : DeviceCall
  pub undone : List DeviceCall
  pub in_order : calls ≡ done ++ broken ∷ undone
  pub counted : length done ≡ count
  pub left : WhereTold (λ before after. Left broken (all_applied done before) after) old new

-- so many calls from the front were done, and the next one failed
abbrev pub FailsAfter : List DeviceCall → ℕ → Option Files → Option Files → Type 0
FailsAfter = BreaksOff LeftBy

-- so many calls from the front were done, and at the next one the disk stopped
abbrev pub StopsAfter : List DeviceCall → ℕ → Option Files → Option Files → Type 0
StopsAfter = BreaksOff StoppedBy

-- so many calls from the front were done, and the next one, for which memory was wanting, changed nothing
abbrev pub LacksMemoryAfter : List DeviceCall → ℕ → Option Files → Option Files → Type 0
LacksMemoryAfter = BreaksOff LeftAlone

-- some calls from the front were done, none or all of them may be, and nothing else was changed
pub record DoesFront (calls : List DeviceCall) (old new : Option Files) : Type 0 where
  pub done : List DeviceCall
  pub undone : List DeviceCall
  pub in_order : calls ≡ done ++ undone
  pub stands : new ≡ option_map (all_applied done) old

-- some calls from the front were done, the next one gave this answer, and no others were made
abbrev pub Breaks : DiskAnswer → List DeviceCall → Option Files → Option Files → Tally → Tally → Type 0
Breaks answer calls old new before after =
    (count : ℕ) × BreaksOff (LeftOn answer) calls count old new × CountsBroken answer count before after

-- calls from the front were made and no others: all of them are done, or all up to one that is not
abbrev pub Performs : {T : Type 0} → List DeviceCall → Result T DiskAnswer → Option Files → Option Files → Tally → Tally → Type 0
Performs calls (Ok done) old new before after =
    (new ≡ option_map (all_applied calls) old) × CountsDone (length calls) before after
Performs calls (Err answer) old new before after = Breaks answer calls old new before after
