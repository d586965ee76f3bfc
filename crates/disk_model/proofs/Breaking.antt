-- Device calls made one after another, and where they break off.
use Rattle.std.proofs.Common.{◌≡◌, ℕ, ◌+◌, List, [], ◌∷◌, ◌++◌, length, Option, Some, None, option_map, Result, Ok, Err, OnOk, refl, sym, ap, subst, ◌∙◌, append_assoc, length-append}
use Rattle.std.specs.Result.{IsErrOf}
use Rattle.std.proofs.lemmas.List.{append-nil}
use Rattle.std.proofs.lemmas.Option.{same_Some}
use Rattle.disk_model.specs.Disk.{Files}
use Rattle.disk_model.specs.Failures.{WhereTold}
use Rattle.disk_model.specs.declared.answers.DiskAnswer.{DiskAnswer}
use Rattle.disk_model.specs.declared.answers.DiskAnswer.TheVariants.{Memory, Failed, Stopped}
use Rattle.disk_model.specs.declared.tally.Tally.{Tally}
use Rattle.disk_model.specs.Counts.{Counts, CountsDone}
use Rattle.disk_model.specs.DeviceCalls.{DeviceCall, applied, all_applied, LeftBy, StoppedBy, LeftAlone, LeftOn, BreaksOff, Breaks, Performs}
use Rattle.disk_model.proofs.Counting.{counts-both, counts-behind, counts-one, counts-broken}

-- calls after others are done on the files that those leave
pub all_applied-append : (front back : List DeviceCall) (files : Files) → all_applied (front ++ back) files ≡ all_applied back (all_applied front files)
all_applied-append [] back files = refl
all_applied-append (call ∷ front) back files = all_applied-append front back (applied call files)

-- what is said where the disk tells, by what follows from it
pub told_map : (P Q : Files → Files → Type 0) (old new : Option Files) → ((f g : Files) → P f g → Q f g) → WhereTold P old new → WhereTold Q old new
told_map P Q None None each told = tt
told_map P Q None (Some new) each told = told
told_map P Q (Some old) None each told = told
told_map P Q (Some old) (Some new) each told = each old new told

-- what is said from a later moment on, said from the start
pub told_after : (P : Files → Files → Type 0) (step : Files → Files) (old middle new : Option Files)
    → middle ≡ option_map step old → WhereTold P middle new → WhereTold (λ f g. P (step f) g) old new
told_after P step None middle None is told = tt
told_after P step None middle (Some new) is told = subst (λ m. WhereTold P m (Some new)) is told
told_after P step (Some old) middle None is told = subst (λ m. WhereTold P m None) is told
told_after P step (Some old) middle (Some new) is told = subst (λ m. WhereTold P m (Some new)) is told

-- calls that break off break off just so after others that were done, and before others that are not made
pub breaks_off_within : (Left : DeviceCall → Files → Files → Type 0) (front calls back : List DeviceCall) (count : ℕ) (old middle new : Option Files)
    → middle ≡ option_map (all_applied front) old → BreaksOff Left calls count middle new → BreaksOff Left (front ++ (calls ++ back)) (length front + count) old new
breaks_off_within Left front calls back count old middle new is b = record {
  done = front ++ b.done;
  broken = b.broken;
  undone = b.undone ++ back;
  in_order =
      ap (λ c. front ++ (c ++ back)) b.in_order
      ∙ ap (λ c. front ++ c) (append_assoc b.done (b.broken ∷ b.undone) back)
      ∙ sym (append_assoc front b.done (b.broken ∷ (b.undone ++ back)));
  counted = length-append front b.done ∙ ap (λ n. length front + n) b.counted;
  left = told_map (λ f g. Left b.broken (all_applied b.done (all_applied front f)) g) (λ f g. Left b.broken (all_applied (front ++ b.done) f) g) old new
      (λ f g. subst (λ h. Left b.broken h g) (sym (all_applied-append front b.done f)))
      (told_after (λ f g. Left b.broken (all_applied b.done f) g) (all_applied front) old middle new is b.left);
}

-- calls that break off, with more behind them and others before them that were done
pub breaks_within : (front calls back : List DeviceCall) (e : DiskAnswer) (old middle new : Option Files) (before between after : Tally)
    → middle ≡ option_map (all_applied front) old → CountsDone (length front) before between → Breaks e calls middle new between after
    → Breaks e (front ++ (calls ++ back)) old new before after
breaks_within front calls back e old middle new before between after is counted b = (
  length front + b.0,
  breaks_off_within (LeftOn e) front calls back b.0 old middle new is b.1,
  counts-behind e (length front) b.0 before between after counted b.2,
)

-- files after some calls, and then after others
pub done_behind : (front calls : List DeviceCall) (old middle new : Option Files) → middle ≡ option_map (all_applied front) old
    → new ≡ option_map (all_applied calls) middle → new ≡ option_map (all_applied (front ++ calls)) old
done_behind front calls None middle new is done = done ∙ ap (option_map (all_applied calls)) is
done_behind front calls (Some old) middle new is done =
    done ∙ ap (option_map (all_applied calls)) is ∙ ap Some (sym (all_applied-append front calls old))

-- after calls that are done, others are made
pub performs_after : {T : Type 0} (front calls : List DeviceCall) (r : Result T DiskAnswer) (old middle new : Option Files) (before between after : Tally)
    → middle ≡ option_map (all_applied front) old → CountsDone (length front) before between → Performs calls r middle new between after
    → Performs (front ++ calls) r old new before after
performs_after front calls (Ok v) old middle new before between after is counted p = (
  done_behind front calls old middle new is p.0,
  subst (λ n. CountsDone n before after) (sym (length-append front calls)) (counts-both (length front) (length calls) before between after counted p.1),
)
performs_after front calls (Err e) old middle new before between after is counted p =
    subst (λ c. Breaks e c old new before after) (ap (λ c. front ++ c) (append-nil calls))
    (breaks_within front calls [] e old middle new before between after is counted p)

-- nothing done is nothing changed
pub none_applied : (files : Option Files) → files ≡ option_map (all_applied []) files
none_applied None = refl
none_applied (Some f) = refl

-- one call breaks off where it is not done
alone : (Left : DeviceCall → Files → Files → Type 0) (call : DeviceCall) (old new : Option Files)
    → WhereTold (Left call) old new → BreaksOff Left (call ∷ []) 0 old new
alone Left call old new told = record { done = []; broken = call; undone = []; in_order = refl; counted = refl; left = told }

unchanged : (old new : Option Files) → new ≡ old → WhereTold (λ f g. g ≡ f) old new
unchanged None None is = tt
unchanged None (Some new) is = cc
unchanged (Some old) None is = cc
unchanged (Some old) (Some new) is = same_Some new old is

-- one call that is not done, by what its disk ensures of it
pub breaks_one : {T : Type 0} (call : DeviceCall) (e : DiskAnswer) (old new : Option Files) (before after : Tally)
    → (IsErrOf {T = T} (Err e) Memory → new ≡ old) → (IsErrOf {T = T} (Err e) Failed → WhereTold (LeftBy call) old new)
    → (IsErrOf {T = T} (Err e) Stopped → WhereTold (StoppedBy call) old new) → Counts {T = T} (Err e) before after → Breaks e (call ∷ []) old new before after
breaks_one {T} call Memory old new before after memory failed stopped counts =
    (0, alone LeftAlone call old new (unchanged old new (memory refl)), counts-broken T Memory before after counts)
breaks_one {T} call Failed old new before after memory failed stopped counts =
    (0, alone LeftBy call old new (failed refl), counts-broken T Failed before after counts)
breaks_one {T} call Stopped old new before after memory failed stopped counts =
    (0, alone StoppedBy call old new (stopped refl), counts-broken T Stopped before after counts)

-- one call by what its disk ensures of it
pub performs_one : {T : Type 0} (call : DeviceCall) (r : Result T DiskAnswer) (old new : Option Files) (before after : Tally)
    → OnOk r (new ≡ option_map (applied call) old) → (IsErrOf r Memory → new ≡ old) → (IsErrOf r Failed → WhereTold (LeftBy call) old new)
    → (IsErrOf r Stopped → WhereTold (StoppedBy call) old new) → Counts r before after → Performs (call ∷ []) r old new before after
performs_one call (Ok v) None new before after done memory failed stopped counts = (done, counts-one v before after counts)
performs_one call (Ok v) (Some old) new before after done memory failed stopped counts = (done, counts-one v before after counts)
performs_one call (Err e) old new before after done memory failed stopped counts =
    breaks_one call e old new before after memory failed stopped counts
