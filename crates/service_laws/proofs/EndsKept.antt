-- A record that stands before and after some streams end stands at one of its two places while their deeds are attempted.
use Rattle.std.proofs.Common.{◌≡◌, ◌≢◌, ℕ, ◌<◌, ◌≤◌, Bool, true, false, cond, ◌⊎◌, inl, inr, List, [], ◌∷◌, refl, ap, sym, ◌∙◌, subst, arith}
use Rattle.std.specs.Prelude.{ℤ, ⊤, Option, Some, None, pos}
use Rattle.std.specs.List.{AllByRecursion}
use Rattle.std.specs.Str.{bytes_eq}
use Rattle.std.specs.FinMap.{get}
use Rattle.std.proofs.lemmas.Slice.Eq.{bytes_eq-Decides}
use Rattle.client_set.specs.Members.{Stands}
use Rattle.disk_model.specs.Disk.{File, Files, renamed}
use Rattle.disk_model.specs.DeviceCalls.{DeviceCall, applied, all_applied}
use Rattle.disk_model.proofs.Renaming.{renamed_absent}
use Rattle.stream_config.specs.declared.event.StreamEvent.{StreamEvent}
use Rattle.stream_config.specs.declared.event.StreamEvent.TheVariants.{Made, Stored, Ended}
use Rattle.stream_config.specs.declared.state.StreamState.{StreamState}
use Rattle.stream_config.specs.Events.{file_closed}
use Rattle.stream_config.specs.Stamps.{stamp_after}
use Rattle.stream_layout.specs.Carrying.{IsStamp}
use Rattle.stream_layout.specs.Deeds.{current_file, deeds_of}
use Rattle.stream_layout.proofs.FileLaws.{apart, found-renamed}
use Rattle.stream_layout.proofs.NameLaws.{last_apart}
use Rattle.log_history.specs.Places.{IsAt}
use Rattle.log_history.specs.Table.{OpenStream, has_nobody, ends_in}
use Rattle.plain_service.proofs.ListLaws.{standing-each}
use Rattle.cluster_facts.specs.Storage.{Attempt}
use Rattle.service_laws.specs.Disks.{service_disk}
use Rattle.service_laws.proofs.ChangesKept.{IsKeptBy, kept-untouched, kept-back, none-some}
use Rattle.service_laws.proofs.DoneAgain.{renamed-gone}
use Rattle.service_laws.proofs.EndsAgain.{IsLateEnd, IsLateEvent, from_name, to_name, end_calls, apart-names, stays-gone}
use Rattle.service_laws.proofs.Untouched.{Untouched, untouched-all, renamed-beside, moved-back}
use Rattle.log_history.proofs.NamedLaws.{pos-tells}

standing-event : (low : ℕ) (events : List StreamEvent) (before : StreamState) (closed : ℤ) → AllByRecursion (IsLateEvent low) events → Stands (Ended before closed) events → IsLateEnd low before closed
standing-event low events before closed late there = standing-each (IsLateEvent low) (Ended before closed) events late there

-- the closing stamps of ends rise
abbrev pub RiseAfter : ℕ → List StreamEvent → Type 0
RiseAfter low [] = ⊤
RiseAfter low (Ended before closed ∷ events) = (number : ℕ) × (closed ≡ pos number) × (low < number) × RiseAfter number events
RiseAfter low (_ ∷ events) = ⊥

pub rise-ends : (last second : ℕ) (streams : List OpenStream) → RiseAfter last (ends_in last second streams)
rise-ends last second [] = tt
rise-ends last second (stream ∷ streams) =
    by_case (has_nobody stream) (rise-ends (stamp_after last second) second streams) (rise-ends last second streams) where
      by_case : (b : Bool) → RiseAfter (stamp_after last second) (ends_in (stamp_after last second) second streams) → RiseAfter last (ends_in last second streams) → RiseAfter last (cond b (Ended stream.state (pos (stamp_after last second)) ∷ ends_in (stamp_after last second) second streams) (ends_in last second streams))
      by_case true later same = (stamp_after last second, refl, omega arith, later)
      by_case false later same = same

-- names that files get by different closing stamps differ
closed-names : (one other : StreamState) (first closed : ℤ) (n m : ℕ) → first ≡ pos n → closed ≡ pos m → n < m → IsStamp first → IsStamp closed → to_name one first ≢ to_name other closed
closed-names one other first closed n m is is' less stamp stamp' =
    last_apart one.attrs other.attrs (file_closed first (current_file one.files)) (file_closed closed (current_file other.files)) stamp stamp'
    (λ same. let e = pos-tells n m (sym is ∙ same ∙ is') in absurd (omega (arith, e, less)))

later-number : (low : ℕ) (events : List StreamEvent) (before : StreamState) (closed : ℤ) → RiseAfter low events → Stands (Ended before closed) events → (m : ℕ) × (closed ≡ pos m) × (low < m)
later-number low [] before closed rise there = absurd there
later-number low (Ended b c ∷ events) before closed rise (inl same) = let e : closed ≡ c = cc in (rise.0, e ∙ rise.1, rise.2)
later-number low (Ended b c ∷ events) before closed rise (inr there) =
    let later = later-number rise.0 events before closed rise.3 there in (later.0, later.1, omega (arith, later.2, rise.2))
later-number low (Made state ∷ events) before closed rise there = absurd rise
later-number low (Stored state bytes stamps ∷ events) before closed rise there = absurd rise

-- the name that a file got is touched by no later end
rest-untouched : (low n k : ℕ) (events : List StreamEvent) (before : StreamState) (closed : ℤ) → n ≤ k → closed ≡ pos n → IsLateEnd low before closed → AllByRecursion (IsLateEvent low) events → RiseAfter k events → AllByRecursion (Untouched (to_name before closed)) (end_calls events)
unfolding deeds_of
rest-untouched low n k [] before closed le is own late rise = tt
rest-untouched low n k (Made state ∷ events) before closed le is own late rise = elim late.0 [ ]
rest-untouched low n k (Stored state bytes stamps ∷ events) before closed le is own late rise = elim late.0 [ ]
rest-untouched low n k (Ended b c ∷ events) before closed le is own late rise = (
  (
    apart (to_name before closed) (from_name b) (λ same. apart-names low b before c closed late.0 own (sym same)),
    apart (to_name before closed) (to_name b c) (closed-names before b closed c n rise.0 is rise.1 (omega (arith, le, rise.2)) own.fit.stamp late.0.fit.stamp),
  ),
  rest-untouched low n rise.0 events before closed (omega (arith, le, rise.2)) is own late.1 rise.3,
)

renamed-source : (files : Files) (from to name : List ℕ) (file : File) → name ≢ to → get (renamed files from to) name ≡ Some file → get files name ≡ Some file
renamed-source files from to name file differ is = by_case (get files from) refl where
  found : (b : Bool) → cond b None (get files name) ≡ Some file → get files name ≡ Some file
  found true none = cc
  found false some = some

  by_case : (stands : Option File) → get files from ≡ stands → get files name ≡ Some file
  by_case None absent = ap (λ m. get m name) (sym (renamed_absent files from to absent)) ∙ is
  by_case (Some other) stands =
      found (bytes_eq name from)
      (ap (λ b. cond b (Some other) (cond (bytes_eq name from) None (get files name))) (sym (apart name to differ))
      ∙ sym (found-renamed files from to other stands name) ∙ is)

-- a file that has the name that it got stood under that or under the name before
ends-back : (low k : ℕ) (events : List StreamEvent) (before : StreamState) (closed : ℤ) → AllByRecursion (IsLateEvent low) events → RiseAfter k events → Stands (Ended before closed) events → (left : Files) (file : File) → get (all_applied (end_calls events) left) (to_name before closed) ≡ Some file → (get left (from_name before) ≡ Some file) ⊎ (get left (to_name before closed) ≡ Some file)
unfolding deeds_of
ends-back low k [] before closed late rise there left file is = absurd there
ends-back low k (Made state ∷ events) before closed late rise there left file is = elim late.0 [ ]
ends-back low k (Stored state bytes stamps ∷ events) before closed late rise there left file is = elim late.0 [ ]
ends-back low k (Ended b c ∷ events) before closed late rise (inl same) left file is =
    let first : before ≡ b = cc in
    let second : closed ≡ c = cc in
    let Goal : StreamState → ℤ → Type 0 = λ state stamp. get (all_applied (end_calls events) (renamed left (from_name b) (to_name b c))) (to_name state stamp) ≡ Some file → (get left (from_name state) ≡ Some file) ⊎ (get left (to_name state stamp) ≡ Some file) in
    let own : Goal b c = λ found.
    moved-back (from_name b) (to_name b c) left file
    (sym (untouched-all (to_name b c) (end_calls events) (rest-untouched low rise.0 rise.0 events b c (omega arith) rise.1 late.0 late.1 rise.3) (renamed left (from_name b) (to_name b c))) ∙ found) in
    subst (λ state. Goal state closed) (sym first) (subst (Goal b) (sym second) own) is
ends-back low k (Ended b c ∷ events) before closed late rise (inr there) left file is =
    let own = standing-event low events before closed late.1 there in
    let number = later-number rise.0 events before closed rise.3 there in
    let not_from = apart (to_name before closed) (from_name b) (λ same. apart-names low b before c closed late.0 own (sym same)) in
    let not_to = apart (to_name before closed) (to_name b c) (λ same. closed-names b before c closed rise.0 number.0 rise.1 number.1 number.2 late.0.fit.stamp own.fit.stamp (sym same)) in
    elim (ends-back low rise.0 events before closed late.1 rise.3 there (renamed left (from_name b) (to_name b c)) file is) [
      | inl at_from ↦ inl (renamed-source left (from_name b) (to_name b c) (from_name before) file (apart-names low before b closed c own late.0) at_from)
      | inr at_to ↦ inr (sym (renamed-beside left (from_name b) (to_name b c) (to_name before closed) not_from not_to) ∙ at_to)
    ]

pub whole-attempt : (calls : List DeviceCall) (old : Files) → Attempt service_disk calls old (all_applied calls old)
whole-attempt [] old = refl
whole-attempt (call ∷ calls) old = inr (inr (whole-attempt calls (applied call old)))

-- no file has the name under which it was current
ends-gone : (low : ℕ) (events : List StreamEvent) (before : StreamState) (closed : ℤ) → AllByRecursion (IsLateEvent low) events → Stands (Ended before closed) events → (old : Files) → get (all_applied (end_calls events) old) (from_name before) ≡ None
unfolding deeds_of
ends-gone low [] before closed late there old = absurd there
ends-gone low (Made state ∷ events) before closed late there old = elim late.0 [ ]
ends-gone low (Stored state bytes stamps ∷ events) before closed late there old = elim late.0 [ ]
ends-gone low (Ended b c ∷ events) before closed late (inl same) old =
    let first : before ≡ b = cc in
    subst (λ state. get (all_applied (end_calls events) (renamed old (from_name b) (to_name b c))) (from_name state) ≡ None) (sym first)
    (stays-gone low b c late.0 events late.1 (renamed old (from_name b) (to_name b c)) (all_applied (end_calls events) (renamed old (from_name b) (to_name b c)))
    (renamed-gone old (from_name b) (to_name b c) (apart-names low b b c c late.0 late.0)) (whole-attempt (end_calls events) (renamed old (from_name b) (to_name b c))))
ends-gone low (Ended b c ∷ events) before closed late (inr there) old =
    ends-gone low events before closed late.1 there (renamed old (from_name b) (to_name b c))

-- a name is touched by no end, or is that of a file that was current
touched : (low : ℕ) (events : List StreamEvent) (name : List ℕ) → AllByRecursion (IsLateEvent low) events → ((before : StreamState) (closed : ℤ) → IsLateEnd low before closed → name ≢ to_name before closed) → AllByRecursion (Untouched name) (end_calls events) ⊎ ((before : StreamState) × (closed : ℤ) × Stands (Ended before closed) events × (name ≡ from_name before))
unfolding deeds_of
touched low [] name late old = inl tt
touched low (Made state ∷ events) name late old = elim late.0 [ ]
touched low (Stored state bytes stamps ∷ events) name late old = elim late.0 [ ]
touched low (Ended b c ∷ events) name late old =
    by_case (bytes_eq name (from_name b)) refl (touched low events name late.1 old) where
      by_case : (t : Bool) → bytes_eq name (from_name b) ≡ t → AllByRecursion (Untouched name) (end_calls events) ⊎ ((before : StreamState) × (closed : ℤ) × Stands (Ended before closed) events × (name ≡ from_name before)) → AllByRecursion (Untouched name) (end_calls (Ended b c ∷ events)) ⊎ ((before : StreamState) × (closed : ℤ) × Stands (Ended before closed) (Ended b c ∷ events) × (name ≡ from_name before))
      by_case true named rest = inr (b, c, inl refl, (bytes_eq-Decides name (from_name b)).0 named)
      by_case false other (inl alone) = inl ((other, apart name (to_name b c) (old b c late.0)), alone)
      by_case false other (inr there) = inr (there.0, there.1, inr there.2, there.3)

-- how the place of a record changes
abbrev pub EndMoves : List StreamEvent → (spot after : List ℕ × ℕ) → Type 0
EndMoves events spot after =
    (after ≡ spot) ⊎ ((before : StreamState) × (closed : ℤ) × Stands (Ended before closed) events × (spot.0 ≡ from_name before) × (after.0 ≡ to_name before closed) × (after.1 ≡ spot.1))

pub kept-ends : (bytes : List ℕ) (spot after : List ℕ × ℕ) (old new : Files) → IsAt bytes spot old → IsAt bytes after new → (low k : ℕ) (events : List StreamEvent) → AllByRecursion (IsLateEvent low) events → RiseAfter k events → ((before : StreamState) (closed : ℤ) → IsLateEnd low before closed → spot.0 ≢ to_name before closed) → EndMoves events spot after → IsKeptBy bytes spot after old new (end_calls events)
kept-ends bytes spot after old new was is low k events late rise older (inr moved) settled left tried done =
    kept-back bytes spot after old new was is left moved.5
    (elim (ends-back low k events moved.0 moved.1 late rise moved.2 left is.file
    (ap (λ files. get files (to_name moved.0 moved.1)) done ∙ ap (get new) (sym moved.4) ∙ is.found)) [
      | inl there ↦ inl (ap (get left) moved.3 ∙ there)
      | inr there ↦ inr (ap (get left) moved.4 ∙ there)
    ])
kept-ends bytes spot after old new was is low k events late rise older (inl same) settled left tried done =
    elim (touched low events spot.0 late older) [
      | inl alone ↦ kept-untouched bytes spot after old new was is (end_calls events) alone settled left tried done
      | inr current ↦
          absurd (none-some (get new after.0) is.file
          (ap (get new) (ap (λ (p : List ℕ × ℕ). p.0) same ∙ current.3) ∙ sym (ap (λ files. get files (from_name current.0)) done)
          ∙ ends-gone low events current.0 current.1 late current.2 left) is.found)
    ]
