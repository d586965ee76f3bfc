-- Words of public clauses: results that end alike.
use Rattle.std.specs.Prelude.{◌≡◌, Result, Ok, Err}
use Rattle.disk_model.specs.declared.answers.DiskAnswer.{DiskAnswer}
use Rattle.disk_model.specs.declared.answers.DiskAnswer.TheVariants.{Memory, Failed, Stopped}

-- a disk's answer is done where the other result is, and otherwise memory ran out
abbrev pub EndsAs : {T E : Type 0} → Result T E → Result T DiskAnswer → Type 0
EndsAs (Ok x) (Ok y) = x ≡ y
EndsAs (Err e) (Err answer) = answer ≡ Memory
EndsAs _ _ = ⊥

-- where the disk stopped it is done; any other end stays
abbrev pub DoneAtStop : {T E : Type 0} → Result T DiskAnswer → Result E DiskAnswer → Type 0
DoneAtStop (Ok x) (Ok y) = Unit {0}
DoneAtStop (Err Stopped) (Ok y) = Unit {0}
DoneAtStop (Err Memory) (Err answer) = answer ≡ Memory
DoneAtStop (Err Failed) (Err answer) = answer ≡ Failed
DoneAtStop _ _ = ⊥
