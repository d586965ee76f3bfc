-- Attempts at device calls: each broke off or was whole, and after all of them the calls leave what they would have left at once.
use Rattle.std.proofs.Common.{◌≡◌, ℕ, suc, ◌⊎◌, inl, inr, List, [], ◌∷◌, refl, ap, ◌∙◌}
use Rattle.disk_model.specs.Disk.{Files}
use Rattle.std.specs.Prelude.{Some}
use Rattle.disk_model.specs.DeviceCalls.{DeviceCall, applied, all_applied, LeftBy, LeftAlone, StoppedBy, BreaksOff}
use Rattle.stream_layout.specs.Repeating.{AllSettled, BrokeOff, Attempted}
use Rattle.cluster_facts.specs.Storage as storage
use Rattle.cluster_facts.specs.Storage.{Attempt, Attempts}
use Rattle.service_laws.specs.Disks.{service_disk}

-- the cluster's word for done calls
pub same-applied : (calls : List DeviceCall) (files : Files) → storage.all_applied service_disk calls files ≡ all_applied calls files
same-applied [] files = refl
same-applied (call ∷ calls) files = same-applied calls (applied call files)

further : (Left : DeviceCall → Files → Files → Type 0) (call : DeviceCall) (calls : List DeviceCall) (count : ℕ) (old new : Files)
    → BreaksOff Left calls count (Some (applied call old)) (Some new) → BreaksOff Left (call ∷ calls) (suc count) (Some old) (Some new)
further Left call calls count old new broke = record {
  done = call ∷ broke.done;
  broken = broke.broken;
  undone = broke.undone;
  in_order = ap (λ behind. call ∷ behind) broke.in_order;
  counted = ap suc broke.counted;
  left = broke.left;
}

one-further : (call : DeviceCall) (calls : List DeviceCall) (old new : Files) → BrokeOff calls (applied call old) new → BrokeOff (call ∷ calls) old new
one-further call calls old new broke = (
  suc broke.0,
  elim broke.1 [
    | inl failed ↦ inl (further LeftBy call calls broke.0 old new failed)
    | inr other ↦ inr (elim other [
      | inl lacked ↦ inl (further LeftAlone call calls broke.0 old new lacked)
      | inr stopped ↦ inr (further StoppedBy call calls broke.0 old new stopped)
    ])
  ],
)

at-first : (Left : DeviceCall → Files → Files → Type 0) (call : DeviceCall) (calls : List DeviceCall) (old new : Files) → Left call old new
    → BreaksOff Left (call ∷ calls) 0 (Some old) (Some new)
at-first Left call calls old new left =
    record { done = []; broken = call; undone = calls; in_order = refl; counted = refl; left = left }

-- an attempt broke off, or did all
pub broke-off : (calls : List DeviceCall) (old new : Files) → Attempt service_disk calls old new → BrokeOff calls old new ⊎ (new ≡ all_applied calls old)
broke-off [] old new same = inr same
broke-off (call ∷ calls) old new (inl same) = inl (0, inr (inl (at-first LeftAlone call calls old new same)))
broke-off (call ∷ calls) old new (inr (inl (inl failed))) = inl (0, inl (at-first LeftBy call calls old new failed))
broke-off (call ∷ calls) old new (inr (inl (inr stopped))) = inl (0, inr (inr (at-first StoppedBy call calls old new stopped)))
broke-off (call ∷ calls) old new (inr (inr rest)) = elim (broke-off calls (applied call old) new rest) [
  | inl broke ↦ inl (one-further call calls old new broke)
  | inr whole ↦ inr whole
]

-- from files of which nothing is loose the calls leave the same after any attempts
abbrev pub IsRepeatable : List DeviceCall → Files → Type 0
IsRepeatable calls old = AllSettled old → (left : Files) → Attempts service_disk calls old left → all_applied calls left ≡ all_applied calls old

-- files from which some attempts, all of which broke off, lead to those that are left
record IsUnder (S : Files → Type 0) (calls : List DeviceCall) (old left : Files) : Type 0 where
  base : Files
  sound : S base
  attempts : ℕ
  tried : Attempted calls attempts base left
  same : all_applied calls base ≡ all_applied calls old

-- calls that may be repeated where attempts broke off, and that change nothing where they were done
module _ (calls : List DeviceCall) (S : Files → Type 0) where
  abbrev pub Safely : Type 0
  Safely = (attempts : ℕ) (old left : Files) → S old → Attempted calls attempts old left → all_applied calls left ≡ all_applied calls old

  abbrev pub Idle : Type 0
  Idle = (old : Files) → S old → S (all_applied calls old) × (all_applied calls (all_applied calls old) ≡ all_applied calls old)

  under : Safely → Idle → (old left : Files) → S old → Attempts service_disk calls old left → IsUnder S calls old left
  under safely idle old left sound Attempts.none =
      record { base = old; sound = sound; attempts = 0; tried = refl; same = refl }
  under safely idle old left sound (Attempts.more {mid = mid} before last) =
      let u = under safely idle old mid sound before in
      elim (broke-off calls mid left last) [
        | inl broke ↦ record { base = u.base; sound = u.sound; attempts = suc u.attempts; tried = (mid, u.tried, broke); same = u.same }
        | inr whole ↦ record {
          base = all_applied calls u.base;
          sound = (idle u.base u.sound).0;
          attempts = 0;
          tried = whole ∙ safely u.attempts u.base mid u.sound u.tried;
          same = (idle u.base u.sound).1 ∙ u.same;
        }
      ]

  pub repeatable : Safely → Idle → (old : Files) → (AllSettled old → S old) → IsRepeatable calls old
  repeatable safely idle old sound settled left tried =
      let u = under safely idle old left (sound settled) tried in safely u.attempts u.base left u.sound u.tried ∙ u.same
