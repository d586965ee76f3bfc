-- What stands under a name that calls leave alone; and where a file came from that calls gave its name.
use Rattle.std.proofs.Common.{◌≡◌, ◌≢◌, ℕ, false, cond, ◌⊎◌, inl, inr, List, [], ◌∷◌, refl, ap, sym, ◌∙◌}
use Rattle.std.specs.Prelude.{Option, Some, None}
use Rattle.std.specs.List.{AllByRecursion}
use Rattle.std.specs.Str.{bytes_eq}
use Rattle.std.specs.FinMap.{get}
use Rattle.disk_model.specs.Disk.{File, Files, settled_file, renamed}
use Rattle.disk_model.specs.DeviceCalls.{DeviceCall, CallCreate, CallWrite, CallSync, CallRename, CallRemove, applied, all_applied, LeftBy}
use Rattle.disk_model.proofs.Renaming.{renamed_absent}
use Rattle.stream_layout.proofs.FileLaws.{itself, apart, found-created, found-removed, found-renamed, found-made, found-refilled}
use Rattle.stream_layout.specs.Repeating.{IsSettled, AllSettled}
use Rattle.stream_layout.proofs.RepeatLaws.{touches_write, touches_sync}
use Rattle.stream_layout.proofs.Settled.{crash-at}
use Rattle.cluster_facts.specs.Storage.{Attempt, Attempts}
use Rattle.service_laws.specs.Disks.{LeftUndone, service_disk}
use Rattle.service_laws.proofs.DoneAgain.{changing, rotating}

-- the call leaves alone what stands under the name
abbrev pub Untouched : List ℕ → DeviceCall → Type 0
Untouched name (CallCreate other) = bytes_eq name other ≡ false
Untouched name (CallWrite other at bytes) = bytes_eq name other ≡ false
Untouched name (CallSync other) = bytes_eq name other ≡ false
Untouched name (CallRename from to) = (bytes_eq name from ≡ false) × (bytes_eq name to ≡ false)
Untouched name (CallRemove other) = bytes_eq name other ≡ false

pub renamed-beside : (old : Files) (from to name : List ℕ) → bytes_eq name from ≡ false → bytes_eq name to ≡ false → get (renamed old from to) name ≡ get old name
renamed-beside old from to name not_from not_to = by_case (get old from) refl where
  by_case : (found : Option File) → get old from ≡ found → get (renamed old from to) name ≡ get old name
  by_case None absent = ap (λ m. get m name) (renamed_absent old from to absent)
  by_case (Some file) stands =
      found-renamed old from to file stands name
      ∙ ap (λ b. cond b (Some file) (cond (bytes_eq name from) None (get old name))) not_to
      ∙ ap (λ b. cond b None (get old name)) not_from

untouched-done : (name : List ℕ) (call : DeviceCall) → Untouched name call → (old : Files) → get (applied call old) name ≡ get old name
untouched-done name (CallCreate other) differ old =
    found-created old other name ∙ ap (λ b. cond b (Some (settled_file [])) (get old name)) differ
untouched-done name (CallWrite other at bytes) differ old = (touches_write other at bytes).done old name differ
untouched-done name (CallSync other) differ old = (touches_sync other).done old name differ
untouched-done name (CallRename from to) differ old = renamed-beside old from to name differ.0 differ.1
untouched-done name (CallRemove other) differ old =
    found-removed old other name ∙ ap (λ b. cond b None (get old name)) differ

untouched-torn : (name : List ℕ) (call : DeviceCall) → Untouched name call → (old new : Files) → LeftBy call old new → get new name ≡ get old name
untouched-torn name (CallCreate other) differ old new (inl same) = ap (λ m. get m name) same
untouched-torn name (CallCreate other) differ old new (inr done) =
    ap (λ m. get m name) done ∙ untouched-done name (CallCreate other) differ old
untouched-torn name (CallWrite other at bytes) differ old new left =
    (touches_write other at bytes).broken old new left name differ
untouched-torn name (CallSync other) differ old new left = (touches_sync other).broken old new left name differ
untouched-torn name (CallRename from to) differ old new (inl same) = ap (λ m. get m name) same
untouched-torn name (CallRename from to) differ old new (inr done) =
    ap (λ m. get m name) done ∙ untouched-done name (CallRename from to) differ old
untouched-torn name (CallRemove other) differ old new (inl same) = ap (λ m. get m name) same
untouched-torn name (CallRemove other) differ old new (inr done) =
    ap (λ m. get m name) done ∙ untouched-done name (CallRemove other) differ old

-- the file of that name, if one stands, is settled
abbrev IsSettledAt : List ℕ → Files → Type 0
IsSettledAt name files = (file : File) → get files name ≡ Some file → IsSettled file

untouched-undone : (name : List ℕ) (call : DeviceCall) → Untouched name call → (old new : Files) → IsSettledAt name old → LeftUndone call old new → get new name ≡ get old name
untouched-undone name call differ old new settled (inl failed) = untouched-torn name call differ old new failed
untouched-undone name call differ old new settled (inr stopped) =
    let running = untouched-torn name call differ old stopped.0 stopped.1 in
    crash-at stopped.0 new name (λ file is. settled file (sym running ∙ is)) stopped.2 ∙ running

untouched-attempt : (name : List ℕ) (calls : List DeviceCall) → AllByRecursion (Untouched name) calls → (old new : Files) → IsSettledAt name old → Attempt service_disk calls old new → get new name ≡ get old name
untouched-attempt name [] alone old new settled same = ap (λ m. get m name) same
untouched-attempt name (call ∷ calls) alone old new settled (inl same) = ap (λ m. get m name) same
untouched-attempt name (call ∷ calls) alone old new settled (inr (inl undone)) = untouched-undone name call alone.0 old new settled undone
untouched-attempt name (call ∷ calls) alone old new settled (inr (inr rest)) =
    let one = untouched-done name call alone.0 old in
    untouched-attempt name calls alone.1 (applied call old) new (λ file is. settled file (sym one ∙ is)) rest ∙ one

-- **what stands, settled, under a name that the calls leave alone**
pub untouched : (name : List ℕ) (calls : List DeviceCall) → AllByRecursion (Untouched name) calls → (old left : Files) → AllSettled old → Attempts service_disk calls old left → get left name ≡ get old name
untouched name calls alone old left settled Attempts.none = refl
untouched name calls alone old left settled (Attempts.more {mid = mid} before last) =
    let one = untouched name calls alone old mid settled before in
    untouched-attempt name calls alone mid left (λ file is. settled name file (sym one ∙ is)) last ∙ one

-- the same once all calls are done
pub untouched-all : (name : List ℕ) (calls : List DeviceCall) → AllByRecursion (Untouched name) calls → (old : Files) → get (all_applied calls old) name ≡ get old name
untouched-all name [] alone old = refl
untouched-all name (call ∷ calls) alone old =
    untouched-all name calls alone.1 (applied call old) ∙ untouched-done name call alone.0 old

-- a file that has the new name stood under the old or the new one
pub moved-back : (from to : List ℕ) (files : Files) (file : File) → get (renamed files from to) to ≡ Some file → (get files from ≡ Some file) ⊎ (get files to ≡ Some file)
moved-back from to files file is = by_case (get files from) refl where
  by_case : (found : Option File) → get files from ≡ found → (get files from ≡ Some file) ⊎ (get files to ≡ Some file)
  by_case None absent = inr (ap (λ m. get m to) (sym (renamed_absent files from to absent)) ∙ is)
  by_case (Some other) stands =
      let here : get (renamed files from to) to ≡ Some other =
      found-renamed files from to other stands to ∙ ap (λ b. cond b (Some other) (cond (bytes_eq to from) None (get files to))) (itself to) in
      inl (stands ∙ (sym here ∙ is))

pub changed-back : (from to new bytes : List ℕ) (files : Files) (file : File) → to ≢ new → get (all_applied (changing from to new bytes) files) to ≡ Some file → (get files from ≡ Some file) ⊎ (get files to ≡ Some file)
changed-back from to new bytes files file differ is =
    moved-back from to files file
    (sym (found-made (renamed files from to) new bytes to
    ∙ ap (λ b. cond b (Some (settled_file bytes)) (get (renamed files from to) to)) (apart to new differ)) ∙ is)

pub rotated-back : (from to new gone bytes : List ℕ) (files : Files) (file : File) → new ≢ gone → to ≢ new → to ≢ gone → get (all_applied (rotating from to new gone bytes) files) to ≡ Some file → (get files from ≡ Some file) ⊎ (get files to ≡ Some file)
rotated-back from to new gone bytes files file other differ stays is =
    moved-back from to files file
    (sym (found-refilled (renamed files from to) new gone bytes other to
    ∙ ap (λ b. cond b (Some (settled_file bytes)) (cond (bytes_eq to gone) None (get (renamed files from to) to))) (apart to new differ)
    ∙ ap (λ b. cond b None (get (renamed files from to) to)) (apart to gone stays)) ∙ is)
