-- Calls that were broken off, however often, and are then made leave what they would have left at once, where
-- each of them, done or broken off, leaves alone what all of them make of the files.
use Rattle.std.proofs.Common.{◌≡◌, ℕ, zero, suc, ◌<◌, List, [], ◌∷◌, ◌++◌, length, Option, refl, sym, ap, subst, ◌∙◌, inl, inr, arith, length-append}
use Rattle.std.specs.Cmp.Lexicographic.{nat_list_cmp_total}
use Rattle.std.specs.FinMap.{get, same_map}
use Rattle.disk_model.specs.Disk.{File, Files}
use Rattle.disk_model.specs.DeviceCalls.{DeviceCall, applied, all_applied, LeftBy}
use Rattle.disk_model.specs.Failures.{Crashed}
use Rattle.disk_model.proofs.Shelving.{names_differ}
use Rattle.stream_layout.specs.Repeating.{BrokeOff, Attempted}

-- J is what is kept to be true of the files, and `final` what the calls make of them
module _ (J : Files → Type 0) (final : Files → List ℕ → Option File) where
  -- what the calls make of the new files is what they make of the old ones
  abbrev pub Keeps : Files → Files → Type 0
  Keeps old new = J new × ((q : List ℕ) → final new q ≡ final old q)

  abbrev pub KeepsDone : DeviceCall → Type 0
  KeepsDone call = (old : Files) → J old → Keeps old (applied call old)

  abbrev pub KeepsBroken : DeviceCall → Type 0
  KeepsBroken call = (old new : Files) → J old → LeftBy call old new → Keeps old new

  abbrev pub KeepsCrashed : Type 0
  KeepsCrashed = (old new : Files) → J old → Crashed old new → Keeps old new

  -- each call keeps them where it is broken off, and where it is done with others behind it
  abbrev pub EachKeeps : List DeviceCall → Type 0
  EachKeeps [] = Unit {0}
  EachKeeps (call ∷ calls) = KeepsBroken call × (0 < length calls → KeepsDone call) × EachKeeps calls

  front_keeps : (done : List DeviceCall) (broken : DeviceCall) (undone : List DeviceCall) (old : Files) → EachKeeps (done ++ broken ∷ undone) → J old
      → Keeps old (all_applied done old) × KeepsBroken broken
  front_keeps [] broken undone old each j = ((j, λ q. refl), each.0)
  front_keeps (call ∷ done) broken undone old each j =
      let long = length-append done (broken ∷ undone) in
      let step = each.1 (omega arith) old j in
      let more = front_keeps done broken undone (applied call old) each.2 step.0 in
      ((more.0.0, λ q. more.0.1 q ∙ step.1 q), more.1)

  broken_keeps : (calls : List DeviceCall) (old new : Files) → EachKeeps calls → KeepsCrashed → J old → BrokeOff calls old new → Keeps old new
  broken_keeps calls old new each crash j broke = elim broke.1 [
    | inl failed ↦
        let parts = front_keeps failed.done failed.broken failed.undone old (subst EachKeeps failed.in_order each) j in
        let last = parts.1 (all_applied failed.done old) new parts.0.0 failed.left in
        (last.0, λ q. last.1 q ∙ parts.0.1 q)
    | inr other ↦ elim other [
      | inl lacked ↦
          let parts = front_keeps lacked.done lacked.broken lacked.undone old (subst EachKeeps lacked.in_order each) j in
          (subst J (sym lacked.left) parts.0.0, λ q. ap (λ m. final m q) lacked.left ∙ parts.0.1 q)
      | inr stopped ↦
          let parts = front_keeps stopped.done stopped.broken stopped.undone old (subst EachKeeps stopped.in_order each) j in
          let running = parts.1 (all_applied stopped.done old) stopped.left.0 parts.0.0 stopped.left.1 in
          let last = crash stopped.left.0 new running.0 stopped.left.2 in
          (last.0, λ q. last.1 q ∙ running.1 q ∙ parts.0.1 q)
    ]
  ]

  attempts_keep : (calls : List DeviceCall) (attempts : ℕ) (old new : Files) → EachKeeps calls → KeepsCrashed → J old → Attempted calls attempts old new → Keeps old new
  attempts_keep calls zero old new each crash j same = (subst J (sym same) j, λ q. ap (λ m. final m q) same)
  attempts_keep calls (suc attempts) old new each crash j tried =
      let before = attempts_keep calls attempts old tried.0 each crash j tried.1 in
      let last = broken_keeps calls tried.0 new each crash before.0 tried.2 in
      (last.0, λ q. last.1 q ∙ before.1 q)

  pub repeats : (calls : List DeviceCall) → EachKeeps calls → KeepsCrashed → ((files : Files) → J files → (q : List ℕ) → get (all_applied calls files) q ≡ final files q)
      → (attempts : ℕ) (old left : Files) → J old → Attempted calls attempts old left → all_applied calls left ≡ all_applied calls old
  repeats calls each crash shows attempts old left j tried =
      let kept = attempts_keep calls attempts old left each crash j tried in
      same_map nat_list_cmp_total names_differ (all_applied calls left) (all_applied calls old)
      (λ q. shows left kept.0 q ∙ kept.1 q ∙ sym (shows old j q))
