-- Words of public clauses: what a disk counts of its calls, and how far it is from the one at which it stops.
use Rattle.std.specs.Prelude.{◌≡◌, ℕ, zero, suc, ◌-◌, ◌≤◌, Bool, true, false, nat_le, Option, Some, None, option_map, Result, Ok, Err}
use Rattle.ais_values.specs.Causes.{one_more}
use Rattle.disk_model.specs.declared.answers.DiskAnswer.{DiskAnswer}
use Rattle.disk_model.specs.declared.answers.DiskAnswer.TheVariants.{Memory, Failed, Stopped}
use Rattle.disk_model.specs.declared.tally.Tally.{Tally}

-- a count of so many more, which stops at its type's end
abbrev pub many_more : ℕ → ℕ → ℕ
many_more zero count = count
many_more (suc more) count = one_more (many_more more count)

-- no call was made yet, and the disk is not armed
abbrev pub no_calls : Tally
no_calls = record { changing = 0; reading = 0; armed = None }

-- after so many reading calls more
abbrev pub read_more : ℕ → Tally → Tally
read_more more tally = record { changing = tally.changing; reading = many_more more tally.reading; armed = tally.armed }

-- after one changing call more, for which memory was wanting: it lowers no armed count
abbrev pub asked : Tally → Tally
asked tally = record { changing = many_more 1 tally.changing; reading = tally.reading; armed = tally.armed }

-- whether so many changing calls reach the one at which the disk stops
abbrev pub reaches : ℕ → Option ℕ → Bool
reaches count None = false
reaches count (Some left) = nat_le left count

-- the armed count after so many that do not reach it
abbrev pub lowered : ℕ → Option ℕ → Option ℕ
lowered count armed = option_map (λ left. left - count) armed

-- after so many changing calls more that were done or failed
abbrev pub passed : ℕ → Tally → Tally
passed count tally =
    record { changing = many_more count tally.changing; reading = tally.reading; armed = lowered count tally.armed }

-- after so many changing calls more, at the last of which the disk stopped
abbrev pub stopped : ℕ → Tally → Tally
stopped count tally = record { changing = many_more count tally.changing; reading = tally.reading; armed = None }

-- the disk is armed to stop at the changing call of this number from now on
abbrev pub armed_at : ℕ → Tally → Tally
armed_at left tally = record { changing = tally.changing; reading = tally.reading; armed = Some left }

-- the disk is not armed any more
abbrev pub disarmed : Tally → Tally
disarmed tally = record { changing = tally.changing; reading = tally.reading; armed = None }

-- what one changing call counts, by its answer
abbrev pub Counts : {T : Type 0} → Result T DiskAnswer → Tally → Tally → Type 0
Counts (Ok value) old new = (reaches 1 old.armed ≡ false) × (new ≡ passed 1 old)
Counts (Err Memory) old new = new ≡ asked old
Counts (Err Failed) old new = (reaches 1 old.armed ≡ false) × (new ≡ passed 1 old)
Counts (Err Stopped) old new = (reaches 1 old.armed ≡ true) × (new ≡ stopped 1 old)

-- one reading call was made, or none for want of memory
abbrev pub ReadsOnce : {T : Type 0} → Result T DiskAnswer → Tally → Tally → Type 0
ReadsOnce (Ok done) old new = new ≡ read_more 1 old
ReadsOnce (Err Memory) old new = new ≡ old
ReadsOnce (Err Failed) old new = new ≡ read_more 1 old
ReadsOnce (Err Stopped) old new = ⊥

-- so many changing calls do not reach the one at which the disk stops; where none was made nothing is said
abbrev pub IsShort : ℕ → Option ℕ → Type 0
IsShort count armed = 1 ≤ count → reaches count armed ≡ false

-- what so many changing calls count that were done, and no others were made
abbrev pub CountsDone : ℕ → Tally → Tally → Type 0
CountsDone count old new = IsShort count old.armed × (new ≡ passed count old)

-- what changing calls count of which so many were done, and then one more was made that gave this answer, and no others
abbrev pub CountsBroken : DiskAnswer → ℕ → Tally → Tally → Type 0
CountsBroken Memory count old new = IsShort count old.armed × (new ≡ asked (passed count old))
CountsBroken Failed count old new = IsShort (suc count) old.armed × (new ≡ passed (suc count) old)
CountsBroken Stopped count old new =
    IsShort count old.armed × (reaches (suc count) old.armed ≡ true) × (new ≡ stopped (suc count) old)

-- what is seen of a disk that tells no files
pub record Counters : Type 0 where
  pub faults : ℕ
  pub stops : ℕ
  pub tally : Tally
