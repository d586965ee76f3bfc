-- Disks that stop only where they are armed, from call to call.
use Rattle.std.proofs.Common.{◌≡◌, inl, inr, ◌⊎◌, Result, Ok, Err, refl, sym, ap, subst, ◌∙◌}
use Rattle.std.specs.Prelude.{IsErrOf}
use Rattle.ais_values.specs.Causes.{Rose, RoseExactlyOn}
use Rattle.disk_model.specs.Seen.{DiskSeen}
use Rattle.disk_model.specs.declared.answers.DiskAnswer.{DiskAnswer}
use Rattle.disk_model.specs.declared.answers.DiskAnswer.TheVariants as disk
use Rattle.journal_frames.specs.Arming.{StaysUnarmed}
use Rattle.journal_start.specs.Arms.{LeavesUnarmed, StopsArmed, StopsByArms}
use Rattle.journal_start.specs.Starts.{told_as}
use Rattle.journal_start.specs.declared.cold.ColdAnswer.{ColdAnswer}
use Rattle.journal_start.specs.declared.cold.ColdAnswer.TheVariants.{Memory, Stopped}

-- what a disk answered that makes a start stop
pub stop-told : (answer : DiskAnswer) → told_as answer ≡ Stopped → answer ≡ disk.Stopped
stop-told disk.Memory is = cc
stop-told disk.Failed is = cc
stop-told disk.Stopped is = refl

-- a disk that stopped was armed, by what its calls said
pub stopped-armed : {T : Type 0} (result : Result T DiskAnswer) (old new : DiskSeen) → StaysUnarmed result old.tally new.tally → RoseExactlyOn old.stops new.stops result disk.Stopped → IsErrOf result disk.Stopped
    → StopsArmed old new
stopped-armed result old new stays rose is = record { armed = λ none. (stays none).1 is; rose = rose.rose is }

pub stays-left : {T : Type 0} (result : Result T DiskAnswer) (old new : DiskSeen) → StaysUnarmed result old.tally new.tally → LeavesUnarmed old new
stays-left result old new stays = λ none. (stays none).0

abbrev error-in : {T : Type 0} → Result T ColdAnswer → ColdAnswer
error-in (Ok value) = Memory
error-in (Err error) = error

-- an answer of a disk as one of a start
pub stopped-told : {T U : Type 0} (answer : DiskAnswer) (error : ColdAnswer) (old new : DiskSeen) → StaysUnarmed {T = T} (Err answer) old.tally new.tally
    → RoseExactlyOn {T = T} old.stops new.stops (Err answer) disk.Stopped → error ≡ told_as answer → IsErrOf {T = U} (Err error) Stopped → StopsArmed old new
stopped-told {T} {U} answer error old new stays rose told is =
    let same : answer ≡ disk.Stopped = stop-told answer (sym told ∙ ap (error-in {T = U}) is) in
    stopped-armed {T = T} (Err answer) old new stays rose (ap (λ (a : DiskAnswer). let found : Result T DiskAnswer = Err a in found) same)

-- the arm and the stops of a disk that was only read stand
pub record OnlyRead (old middle : DiskSeen) : Type 0 where
  pub armed : middle.tally.armed ≡ old.tally.armed
  pub stops : middle.stops ≡ old.stops

read-stopped : (old middle new : DiskSeen) → OnlyRead old middle → StopsArmed middle new → StopsArmed old new
read-stopped old middle new read stopped = record {
  armed = λ none. stopped.armed (read.armed ∙ none);
  rose = subst (λ count. Rose count new.stops) read.stops stopped.rose;
}

pub read-left : (old middle new : DiskSeen) → OnlyRead old middle → LeavesUnarmed middle new → LeavesUnarmed old new
read-left old middle new read left = λ none. left (read.armed ∙ none)

-- the journal was read before both
pub read-before : {T : Type 0} (old middle new two two_new : DiskSeen) (result : Result T ColdAnswer) → OnlyRead old middle → StopsByArms middle new two two_new result → StopsByArms old new two two_new result
read-before old middle new two two_new result read arms = record {
  stopped = λ is. first (arms.stopped is);
  unarmed = read-left old middle new read arms.unarmed;
  unarmed_too = arms.unarmed_too;
}
  where
    first : StopsArmed middle new ⊎ StopsArmed two two_new → StopsArmed old new ⊎ StopsArmed two two_new
    first (inl stopped) = inl (read-stopped old middle new read stopped)
    first (inr stopped) = inr stopped

-- the journal was read alone, and nothing stopped
pub read-alone : {T : Type 0} (old new two : DiskSeen) (answer : ColdAnswer) → OnlyRead old new → (answer ≡ Stopped → ⊥) → StopsByArms {T = T} old new two two (Err answer)
read-alone {T} old new two answer read never = record {
  stopped = λ is. absurd (never (ap (error-in {T = T}) is));
  unarmed = λ none. read.armed ∙ none;
  unarmed_too = λ none. none;
}

-- a read failed, which is no stop
pub read-failed : {T U : Type 0} (old new two : DiskSeen) (answer : DiskAnswer) (error : ColdAnswer) → OnlyRead old new → (IsErrOf {T = U} (Err answer) disk.Stopped → ⊥) → error ≡ told_as answer
    → StopsByArms {T = T} old new two two (Err error)
read-failed {T} {U} old new two answer error read never told =
    read-alone {T = T} old new two error read
    (λ is. never (ap (λ (a : DiskAnswer). let found : Result U DiskAnswer = Err a in found) (stop-told answer (sym told ∙ is))))

-- the journal was mended, and then a server started
pub mended-started : {T U : Type 0} (value : U) (old middle two two_new : DiskSeen) (result : Result T ColdAnswer) → StaysUnarmed {T = U} (Ok value) old.tally middle.tally
    → (IsErrOf result Stopped → StopsArmed two two_new) → LeavesUnarmed two two_new → StopsByArms old middle two two_new result
mended-started value old middle two two_new result stays stopped left = record {
  stopped = λ is. inr (stopped is);
  unarmed = stays-left (Ok value) old middle stays;
  unarmed_too = left;
}

-- the mend broke off
pub mend-broke : {T U : Type 0} (answer : DiskAnswer) (error : ColdAnswer) (old new two : DiskSeen) → StaysUnarmed {T = U} (Err answer) old.tally new.tally
    → RoseExactlyOn {T = U} old.stops new.stops (Err answer) disk.Stopped → error ≡ told_as answer → StopsByArms {T = T} old new two two (Err error)
mend-broke {T} {U} answer error old new two stays rose told = record {
  stopped = λ is. inl (stopped-told {T = U} {U = T} answer error old new stays rose told is);
  unarmed = stays-left {T = U} (Err answer) old new stays;
  unarmed_too = λ none. none;
}
