-- A record that stands before and after a change stands at one of its two places while the change's deeds are attempted.
use Rattle.std.proofs.Common.{◌≡◌, ◌≢◌, ℕ, ◌+◌, ◌≤◌, nat_le, Bool, true, false, cond, ◌⊎◌, inl, inr, List, length, take, drop, refl, ap, sym, ◌∙◌, subst}
use Rattle.std.specs.Prelude.{Option, Some, None, option_map}
use Rattle.std.specs.List.{AllByRecursion}
use Rattle.std.specs.Str.{bytes_eq}
use Rattle.std.specs.FinMap.{get}
use Rattle.std.proofs.lemmas.Bool.{leb-true}
use Rattle.std.proofs.lemmas.Slice.Eq.{bytes_eq-Decides}
use Rattle.disk_model.specs.Disk.{File, Files, settled_file, overwritten, file_written, file_synced, renamed}
use Rattle.disk_model.specs.DeviceCalls.{DeviceCall, all_applied}
use Rattle.disk_model.proofs.Changes.{get-adjusted, adjusted_twice}
use Rattle.stream_layout.specs.Repeating.{AllSettled}
use Rattle.stream_layout.proofs.FileLaws.{same_is, itself, apart, found-made, found-refilled}
use Rattle.log_history.specs.Places.{IsAt}
use Rattle.cluster_facts.specs.Storage.{Attempts}
use Rattle.service_laws.specs.Disks.{service_disk}
use Rattle.service_laws.proofs.BytesKept.{beside}
use Rattle.service_laws.proofs.DoneAgain.{renamed-gone, making, changing, rotating, writing}
use Rattle.service_laws.proofs.Untouched.{Untouched, untouched, changed-back, rotated-back}

differs : (one other : List ℕ) → bytes_eq one other ≡ false → one ≢ other
differs one other apart_is same =
    let e : bytes_eq one other ≡ true = (bytes_eq-Decides one other).1 same in cc

pub none-some : {A : Type 0} (o : Option A) (a : A) → o ≡ None → o ≡ Some a → ⊥
none-some None a none some = cc
none-some (Some b) a none some = cc

-- what a change of file leaves of the names that it takes away

pub changed-gone : (from to new bytes : List ℕ) (files : Files) → from ≢ to → from ≢ new → get (all_applied (changing from to new bytes) files) from ≡ None
changed-gone from to new bytes files differ unlike =
    found-made (renamed files from to) new bytes from
    ∙ ap (λ b. cond b (Some (settled_file bytes)) (get (renamed files from to) from)) (apart from new unlike) ∙ renamed-gone files from to differ

pub rotated-gone : (from to new gone bytes : List ℕ) (files : Files) → from ≢ to → from ≢ new → from ≢ gone → new ≢ gone → get (all_applied (rotating from to new gone bytes) files) from ≡ None
rotated-gone from to new gone bytes files differ unlike stays other =
    found-refilled (renamed files from to) new gone bytes other from
    ∙ ap (λ b. cond b (Some (settled_file bytes)) (cond (bytes_eq from gone) None (get (renamed files from to) from))) (apart from new unlike)
    ∙ ap (λ b. cond b None (get (renamed files from to) from)) (apart from gone stays) ∙ renamed-gone files from to differ

pub removed-gone : (from to new gone bytes : List ℕ) (files : Files) → new ≢ gone → get (all_applied (rotating from to new gone bytes) files) gone ≡ None
removed-gone from to new gone bytes files other =
    found-refilled (renamed files from to) new gone bytes other gone
    ∙ ap (λ b. cond b (Some (settled_file bytes)) (cond (bytes_eq gone gone) None (get (renamed files from to) gone))) (apart gone new (λ same. other (sym same)))
    ∙ ap (λ b. cond b None (get (renamed files from to) gone)) (itself gone)

-- a record that stands at a place of the old files and at one of the new ones

module _ (bytes : List ℕ) (spot after : List ℕ × ℕ) (old new : Files) where
  abbrev pub IsEither : Files → Type 0
  IsEither left = IsAt bytes spot left ⊎ IsAt bytes after left

  -- while these calls are attempted, from files of which nothing is loose
  abbrev pub IsKeptBy : List DeviceCall → Type 0
  IsKeptBy calls = AllSettled old → (left : Files) → Attempts service_disk calls old left → all_applied calls left ≡ new → IsEither left

  module _ (was : IsAt bytes spot old) (is : IsAt bytes after new) where
    pub kept-untouched : (calls : List DeviceCall) → AllByRecursion (Untouched spot.0) calls → IsKeptBy calls
    kept-untouched calls alone settled left tried done =
        inl (record { file = was.file; found = untouched spot.0 calls alone old left settled tried ∙ was.found; bytes_are = was.bytes_are })

    pub kept-back : (left : Files) → after.1 ≡ spot.1 → (get left spot.0 ≡ Some is.file) ⊎ (get left after.0 ≡ Some is.file) → IsEither left
    kept-back left offset (inl there) =
        inl (record { file = is.file; found = there; bytes_are = subst (λ at. take (length bytes) (drop at is.file.bytes) ≡ bytes) offset is.bytes_are })
    kept-back left offset (inr there) = inr (record { file = is.file; found = there; bytes_are = is.bytes_are })

    -- a stream is made
    pub kept-made : (cfg log text : List ℕ) → spot.0 ≢ cfg → spot.0 ≢ log → IsKeptBy (making cfg log text)
    kept-made cfg log text not_cfg not_log =
        let first = apart spot.0 cfg not_cfg in
        kept-untouched (making cfg log text) (first, (first, (first, (apart spot.0 log not_log, tt))))

    -- how the place of the record changes where a file gets another name
    abbrev pub Moves : (from to : List ℕ) → Type 0
    Moves from to = (after ≡ spot) ⊎ ((spot.0 ≡ from) × (after.0 ≡ to) × (after.1 ≡ spot.1))

    not-gone : (calls : List DeviceCall) (left : Files) (name : List ℕ) → all_applied calls left ≡ new → after ≡ spot → spot.0 ≡ name → get (all_applied calls left) name ≡ None → ⊥
    not-gone calls left name done same named gone =
        none-some (get new after.0) is.file
        (ap (get new) (ap (λ (p : List ℕ × ℕ). p.0) same ∙ named) ∙ sym (ap (λ files. get files name) done) ∙ gone) is.found

    -- what is found under the new name comes from one of the two
    moved-from : (calls : List DeviceCall) (from to : List ℕ) (left : Files) → all_applied calls left ≡ new → spot.0 ≡ from → after.0 ≡ to → after.1 ≡ spot.1 → ((file : File) → get (all_applied calls left) to ≡ Some file → (get left from ≡ Some file) ⊎ (get left to ≡ Some file)) → IsEither left
    moved-from calls from to left done at_from at_to offset back =
        kept-back left offset
        (elim (back is.file (ap (λ files. get files to) done ∙ ap (get new) (sym at_to) ∙ is.found)) [
          | inl there ↦ inl (ap (get left) at_from ∙ there)
          | inr there ↦ inr (ap (get left) at_to ∙ there)
        ])

    pub kept-changed : (from to fresh text : List ℕ) → from ≢ to → from ≢ fresh → to ≢ fresh → spot.0 ≢ to → spot.0 ≢ fresh → Moves from to → IsKeptBy (changing from to fresh text)
    kept-changed from to fresh text differ unlike new_apart not_to not_new (inr moved) settled left tried done =
        moved-from (changing from to fresh text) from to left done moved.0 moved.1 moved.2 (λ file there. changed-back from to fresh text left file new_apart there)
    kept-changed from to fresh text differ unlike new_apart not_to not_new (inl same) settled left tried done =
        by_case (bytes_eq spot.0 from) refl where
          by_case : (b : Bool) → bytes_eq spot.0 from ≡ b → IsEither left
          by_case true named =
              absurd (not-gone (changing from to fresh text) left from done same ((bytes_eq-Decides spot.0 from).0 named) (changed-gone from to fresh text left differ unlike))
          by_case false other =
              let at_new = apart spot.0 fresh not_new in
              kept-untouched (changing from to fresh text) ((other, apart spot.0 to not_to), (at_new, (at_new, (at_new, tt)))) settled left tried done

    pub kept-rotated : (from to fresh gone text : List ℕ) → from ≢ to → from ≢ fresh → from ≢ gone → fresh ≢ gone → to ≢ fresh → spot.0 ≢ to → spot.0 ≢ fresh → Moves from to → IsKeptBy (rotating from to fresh gone text)
    kept-rotated from to fresh gone text differ unlike stays other new_apart not_to not_new (inr moved) settled left tried done =
        by_case (bytes_eq to gone) refl where
          by_case : (b : Bool) → bytes_eq to gone ≡ b → IsEither left
          by_case true named =
              let to_gone : to ≡ gone = (bytes_eq-Decides to gone).0 named in
              absurd (none-some (get new after.0) is.file
              (ap (get new) (moved.1 ∙ to_gone) ∙ sym (ap (λ files. get files gone) done) ∙ removed-gone from to fresh gone text left other) is.found)
          by_case false apart_is =
              moved-from (rotating from to fresh gone text) from to left done moved.0 moved.1 moved.2 (λ file there. rotated-back from to fresh gone text left file other new_apart (differs to gone apart_is) there)
    kept-rotated from to fresh gone text differ unlike stays other new_apart not_to not_new (inl same) settled left tried done =
        by_case (bytes_eq spot.0 from) refl (bytes_eq spot.0 gone) refl where
          by_case : (b : Bool) → bytes_eq spot.0 from ≡ b → (c : Bool) → bytes_eq spot.0 gone ≡ c → IsEither left
          by_case true named c other_is =
              absurd (not-gone (rotating from to fresh gone text) left from done same ((bytes_eq-Decides spot.0 from).0 named) (rotated-gone from to fresh gone text left differ unlike stays other))
          by_case false elsewhere true named =
              absurd (not-gone (rotating from to fresh gone text) left gone done same ((bytes_eq-Decides spot.0 gone).0 named) (removed-gone from to fresh gone text left other))
          by_case false elsewhere false not_gone =
              let at_new = apart spot.0 fresh not_new in
              kept-untouched (rotating from to fresh gone text) ((elsewhere, apart spot.0 to not_to), (at_new, (not_gone, (at_new, (at_new, tt))))) settled left tried done

    -- a record is written into a file that stands, beside the record if that stands there

    written-file : (files : Files) (name : List ℕ) (at : ℕ) (text : List ℕ) → get (all_applied (writing name at text) files) name ≡ option_map (λ file. file_synced (file_written at text file)) (get files name)
    written-file files name at text =
        ap (λ m. get m name) (adjusted_twice (file_written at text) file_synced files name)
        ∙ get-adjusted (λ file. file_synced (file_written at text file)) files name name
        ∙ ap (λ b. cond b (option_map (λ file. file_synced (file_written at text file)) (get files name)) (get files name)) (same_is name name ∙ itself name)

    in-file : (name : List ℕ) (at : ℕ) (text : List ℕ) (left : Files) → after ≡ spot → spot.0 ≡ name → (spot.1 + length bytes ≤ at) ⊎ (at + length text ≤ spot.1) → (found : Option File) → get left name ≡ found → option_map (λ file. file_synced (file_written at text file)) found ≡ Some is.file → IsAt bytes spot left
    in-file name at text left same named apart_is None there shown = cc
    in-file name at text left same named apart_is (Some file) there shown =
        let e : file_synced (file_written at text file) ≡ is.file = cc in
        let here : take (length bytes) (drop spot.1 (file_synced (file_written at text file)).bytes) ≡ bytes =
        subst (λ (f : File). take (length bytes) (drop spot.1 f.bytes) ≡ bytes) (sym e)
        (subst (λ at_place. take (length bytes) (drop at_place is.file.bytes) ≡ bytes) (ap (λ (p : List ℕ × ℕ). p.1) same) is.bytes_are) in
        record { file = file; found = ap (get left) named ∙ there; bytes_are = by_case (nat_le at (length file.bytes)) refl here } where
          by_case : (b : Bool) → nat_le at (length file.bytes) ≡ b → take (length bytes) (drop spot.1 (cond b (overwritten file.bytes at text) file.bytes)) ≡ bytes → take (length bytes) (drop spot.1 file.bytes) ≡ bytes
          by_case true within held = beside file.bytes text bytes at spot.1 (leb-true at (length file.bytes) within) apart_is held
          by_case false past held = held

    pub kept-written : (name : List ℕ) (at : ℕ) (text : List ℕ) → after ≡ spot → (spot.0 ≡ name → (spot.1 + length bytes ≤ at) ⊎ (at + length text ≤ spot.1)) → IsKeptBy (writing name at text)
    kept-written name at text same apart_is settled left tried done = by_case (bytes_eq spot.0 name) refl where
      by_case : (b : Bool) → bytes_eq spot.0 name ≡ b → IsEither left
      by_case false other = kept-untouched (writing name at text) (other, (other, tt)) settled left tried done
      by_case true named_is =
          let named = (bytes_eq-Decides spot.0 name).0 named_is in
          inl (in-file name at text left same named (apart_is named) (get left name) refl
          (sym (written-file left name at text) ∙ ap (λ files. get files name) done
          ∙ ap (get new) (sym (ap (λ (p : List ℕ × ℕ). p.0) same ∙ named)) ∙ is.found))
