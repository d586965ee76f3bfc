-- Of a disk that is not armed no call stops, and none arms it.
use Rattle.std.proofs.Common.{◌≡◌, suc, List, length, true, false, Option, Result, Ok, Err, sym, ap, ◌∙◌}
use Rattle.disk_model.specs.Counts.{Counts, lowered, reaches}
use Rattle.disk_model.specs.declared.answers.DiskAnswer.{DiskAnswer}
use Rattle.disk_model.specs.declared.answers.DiskAnswer.TheVariants.{Memory, Failed, Stopped}
use Rattle.disk_model.specs.declared.tally.Tally.{Tally}
use Rattle.disk_model.specs.DeviceCalls.{DeviceCall, Performs}
use Rattle.disk_model.specs.Disk.{Files}
use Rattle.journal_frames.specs.Arming.{StaysUnarmed}

-- one call
pub unarmed-call : {T : Type 0} (result : Result T DiskAnswer) (old new : Tally) → Counts result old new → StaysUnarmed result old new
unarmed-call (Ok value) old new counts = λ none. (ap (λ (t : Tally). t.armed) counts.1 ∙ ap (lowered 1) none, λ stops. cc)
unarmed-call (Err Memory) old new counts = λ none. (ap (λ (t : Tally). t.armed) counts ∙ none, λ stops. cc)
unarmed-call (Err Failed) old new counts = λ none. (ap (λ (t : Tally). t.armed) counts.1 ∙ ap (lowered 1) none, λ stops. cc)
unarmed-call (Err Stopped) old new counts = λ none. absurd (let no : false ≡ true = sym (ap (reaches 1) none) ∙ counts.0 in cc)

-- a call that is done, and then others
pub unarmed-then : {T U : Type 0} (value : T) (result : Result U DiskAnswer) (old middle new : Tally) → StaysUnarmed {T = T} (Ok value) old middle → StaysUnarmed result middle new
    → StaysUnarmed result old new
unarmed-then value result old middle new first second = λ none. second (first none).0

-- a row of calls
pub unarmed-calls : {T : Type 0} (calls : List DeviceCall) (result : Result T DiskAnswer) (old new : Option Files) (before after : Tally) → Performs calls result old new before after
    → StaysUnarmed result before after
unarmed-calls calls (Ok value) old new before after performs = λ none. (ap (λ (t : Tally). t.armed) performs.1.1 ∙ ap (lowered (length calls)) none, λ stops. cc)
unarmed-calls calls (Err Memory) old new before after performs =
    λ none. (ap (λ (t : Tally). t.armed) performs.2.1 ∙ ap (lowered performs.0) none, λ stops. cc)
unarmed-calls calls (Err Failed) old new before after performs =
    λ none. (ap (λ (t : Tally). t.armed) performs.2.1 ∙ ap (lowered (suc performs.0)) none, λ stops. cc)
unarmed-calls calls (Err Stopped) old new before after performs =
    λ none. absurd (let no : false ≡ true = sym (ap (reaches (suc performs.0)) none) ∙ performs.2.1 in cc)
