-- Counts of faults, part by part.
use Rattle.std.proofs.Common.{◌≡◌, ℕ, ◌≤◌, ◌⊎◌, inl, inr, Option, Some, None, Result, Err, ap, sym, ◌∙◌, subst, arith}
use Rattle.ais_values.specs.Causes.{one_more, RoseExactlyOn}
use Rattle.played_runs.specs.declared.ending.Status8.{Status8}
use Rattle.played_runs.specs.declared.ending.Status8.TheVariants.{Done, ScriptRefused, Usage, Memory, ReadFault, WriteFault, DiskFault, RootNotEmpty, TooLong, JournalRefused, Inseparable}
use Rattle.played_runs.specs.Counts.{HasGoneOn, HasStood, HasRisen, RisesBefore}
use Rattle.played_runs.specs.Edges.{Edge, fault_count, IsUntouched}
use Rattle.played_runs.specs.Writing.{unasked}

-- a count of 0 does not rise to 0
not-risen : HasRisen unasked → ⊥
not-risen risen = let none : one_more 0 ≤ 0 = risen.1 in omega arith

-- what was not asked has the count that it had
pub untouched-stood : {S T : Type 0} (one : Edge S T) → IsUntouched one → HasStood (fault_count one)
untouched-stood one same = ap (λ object. one.faults object) same

-- an error that is another than the one on which the count rises
pub other-stood : {T E : Type 0} (old new : ℕ) (answer error other : E) → RoseExactlyOn {T = T} old new (Err answer) error → answer ≡ other → (other ≡ error → ⊥) → new ≡ old
other-stood old new answer error other cause is apart =
    let stands : (answer ≡ error) ⊎ (new ≡ old) = cause.stands in
    elim stands [
      | inl same ↦ absurd (apart (sym is ∙ same))
      | inr stood ↦ stood
    ]

-- where the count stood before a call, what is said of the call is said of both
pub rose-behind : {T E : Type 0} (old mid new : ℕ) (r : Result T E) (error : E) → mid ≡ old → RoseExactlyOn mid new r error → RoseExactlyOn old new r error
rose-behind old mid new r error stood cause =
    let R : ℕ → Type 0 = λ count. RoseExactlyOn count new r error in
    subst R stood cause

-- a count that stood did not fall
pub on-same : (count : ℕ) → HasGoneOn (count, count)
on-same count = omega arith

pub stood-on : (count : ℕ × ℕ) → HasStood count → HasGoneOn count
stood-on count stood = omega (arith, stood)

pub untouched-on : {S T : Type 0} (one : Edge S T) → IsUntouched one → HasGoneOn (fault_count one)
untouched-on one same = stood-on (fault_count one) (untouched-stood one same)

-- where a count had gone on before
pub on-behind : (old mid new : ℕ) → old ≤ mid → HasGoneOn (mid, new) → HasGoneOn (old, new)
on-behind old mid new before on = let late : mid ≤ new = on in omega arith

-- or stood
pub risen-behind : (old mid new : ℕ) → mid ≡ old → HasRisen (mid, new) → HasRisen (old, new)
risen-behind old mid new stood risen =
    let R : ℕ → Type 0 = λ count. HasRisen (count, new) in
    subst R stood risen

pub risen-later : (old mid new : ℕ) → old ≤ mid → HasRisen (mid, new) → HasRisen (old, new)
risen-later old mid new before risen =
    let late : mid ≤ new = risen.0 in
    let rose : one_more mid ≤ new = risen.1 in
    (omega arith, omega arith)

-- counts that stand, go on and rise with others
rises-as : (reached : Option Status8) (s d source disk : ℕ × ℕ) → (HasStood s → HasStood source) → (HasRisen s → HasRisen source) → (HasStood d → HasStood disk) → (HasGoneOn d → HasGoneOn disk) → (HasRisen d → HasRisen disk) → RisesBefore reached s d → RisesBefore reached source disk
rises-as None s d source disk stood risen disk_stood disk_on disk_risen rises = (stood rises.0, disk_on rises.1)
rises-as (Some Done) s d source disk stood risen disk_stood disk_on disk_risen rises = (stood rises.0, disk_on rises.1)
rises-as (Some ScriptRefused) s d source disk stood risen disk_stood disk_on disk_risen rises = (stood rises.0, disk_stood rises.1)
rises-as (Some Usage) s d source disk stood risen disk_stood disk_on disk_risen rises = (stood rises.0, disk_stood rises.1)
rises-as (Some Memory) s d source disk stood risen disk_stood disk_on disk_risen rises = (stood rises.0, disk_stood rises.1)
rises-as (Some ReadFault) s d source disk stood risen disk_stood disk_on disk_risen rises = (risen rises.0, disk_stood rises.1)
rises-as (Some WriteFault) s d source disk stood risen disk_stood disk_on disk_risen rises = (stood rises.0, disk_stood rises.1)
rises-as (Some DiskFault) s d source disk stood risen disk_stood disk_on disk_risen rises = (stood rises.0, disk_risen rises.1)
rises-as (Some RootNotEmpty) s d source disk stood risen disk_stood disk_on disk_risen rises = (stood rises.0, disk_stood rises.1)
rises-as (Some TooLong) s d source disk stood risen disk_stood disk_on disk_risen rises = (stood rises.0, disk_stood rises.1)
rises-as (Some JournalRefused) s d source disk stood risen disk_stood disk_on disk_risen rises = (stood rises.0, disk_stood rises.1)
rises-as (Some Inseparable) s d source disk stood risen disk_stood disk_on disk_risen rises = (stood rises.0, disk_stood rises.1)

-- the source was read to its end before
pub rises-read : (reached : Option Status8) (source disk : ℕ × ℕ) → HasStood source → RisesBefore reached unasked disk → RisesBefore reached source disk
rises-read reached source disk stood rises =
    rises-as reached unasked disk source disk (λ _. stood) (λ risen. absurd (not-risen risen)) (λ one. one) (λ one. one) (λ one. one) rises

-- the disk was not asked
pub rises-alone : (reached : Option Status8) (source disk : ℕ × ℕ) → HasStood disk → RisesBefore reached source unasked → RisesBefore reached source disk
rises-alone reached source disk stood rises =
    rises-as reached source unasked source disk (λ one. one) (λ one. one) (λ _. stood) (λ _. stood-on disk stood) (λ risen. absurd (not-risen risen)) rises
