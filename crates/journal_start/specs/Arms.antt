-- Words of public clauses: disks that stop only where they are armed.
use Rattle.std.specs.Prelude.{◌≡◌, ◌⊎◌, None, Result, IsErrOf}
use Rattle.ais_values.specs.Causes.{Rose}
use Rattle.disk_model.specs.Seen.{DiskSeen}
use Rattle.journal_start.specs.declared.cold.ColdAnswer.{ColdAnswer}
use Rattle.journal_start.specs.declared.cold.ColdAnswer.TheVariants.{Stopped}

-- a disk stopped, which was armed
pub record StopsArmed (old new : DiskSeen) : Type 0 where
  pub armed : old.tally.armed ≡ None → ⊥
  pub rose : Rose old.stops new.stops

-- a disk that is not armed is not armed afterwards
abbrev pub LeavesUnarmed : DiskSeen → DiskSeen → Type 0
LeavesUnarmed old new = old.tally.armed ≡ None → new.tally.armed ≡ None

-- two disks of which one stopped where the answer says so, and that one was armed; those that are not armed stay so
pub record StopsByArms {T : Type 0} (one one_new two two_new : DiskSeen) (result : Result T ColdAnswer) : Type 0 where
  pub stopped : IsErrOf result Stopped → StopsArmed one one_new ⊎ StopsArmed two two_new
  pub unarmed : LeavesUnarmed one one_new
  pub unarmed_too : LeavesUnarmed two two_new
