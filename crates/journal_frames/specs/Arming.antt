-- Words of public clauses: a disk that is not armed.
use Rattle.std.specs.Prelude.{◌≡◌, None, Result, IsErrOf}
use Rattle.disk_model.specs.declared.answers.DiskAnswer.{DiskAnswer}
use Rattle.disk_model.specs.declared.answers.DiskAnswer.TheVariants.{Stopped}
use Rattle.disk_model.specs.declared.tally.Tally.{Tally}

-- a disk that is not armed does not stop, and is not armed afterwards
abbrev pub StaysUnarmed : {T : Type 0} → Result T DiskAnswer → Tally → Tally → Type 0
StaysUnarmed result old new = old.armed ≡ None → (new.armed ≡ None) × (IsErrOf result Stopped → ⊥)
