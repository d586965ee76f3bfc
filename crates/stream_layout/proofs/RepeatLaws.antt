-- What the calls of each event make of any files, and that no call of theirs changes it, done or broken off.
use Rattle.std.proofs.Common.{◌≡◌, ◌≢◌, ℕ, Bool, true, false, cond, List, [], ◌∷◌, Option, Some, None, option_map, refl, sym, ap, ◌∙◌, inl, inr, arith}
use Rattle.std.specs.Option.{MatchOption}
use Rattle.std.specs.Str.{bytes_eq}
use Rattle.std.specs.FinMap.{get, insert, get-insert}
use Rattle.std.specs.Cmp.Lexicographic.{nat_list_cmp_total}
use Rattle.std.proofs.lemmas.Slice.Eq.{bytes_eq-Decides}
use Rattle.disk_model.specs.Disk.{File, Files, settled_file, file_written, file_synced, adjusted, created, written_at, synced, renamed, removed}
use Rattle.disk_model.specs.DeviceCalls.{DeviceCall, CallCreate, CallWrite, CallSync, CallRename, CallRemove, applied, all_applied, LeftBy}
use Rattle.disk_model.specs.Failures.{FileLeftByWrite, FileLeftBySync, LeavesFile, WhollyOrNot}
use Rattle.disk_model.proofs.Changes.{get-adjusted}
use Rattle.disk_model.proofs.Renaming.{renamed_absent}
use Rattle.stream_layout.proofs.FileLaws.{same_is, itself, apart, found-created, found-removed, found-renamed, found-made, found-refilled}
use Rattle.stream_layout.specs.Repeating.{AllSettled, Attempted}
use Rattle.stream_layout.proofs.Attempts.{KeepsDone, KeepsBroken, KeepsCrashed, repeats}
use Rattle.stream_layout.proofs.Settled.{SettledBut, StaysSettled, none_loose, loose_at, settled-but, all-settled, crash-stays, crash-nothing, crash-settles, stays-created, stays-removed, stays-renamed}

-- the new files are the old ones but for one name
abbrev pub Elsewhere : List ℕ → Files → Files → Type 0
Elsewhere name old new = (q : List ℕ) → bytes_eq q name ≡ false → get new q ≡ get old q

-- a call that changes what stands under one name, done or broken off
pub record Touches (name : List ℕ) (call : DeviceCall) : Type 0 where
  pub done : (old : Files) → Elsewhere name old (applied call old)
  pub broken : (old new : Files) → LeftBy call old new → Elsewhere name old new

wholly : (name : List ℕ) (done old new : Files) → Elsewhere name old done → WhollyOrNot done old new → Elsewhere name old new
wholly name done old new other left q differ = elim left [
  | inl same ↦ ap (λ m. get m q) same
  | inr is ↦ ap (λ m. get m q) is ∙ other q differ
]

other_created : (name : List ℕ) (old : Files) → Elsewhere name old (created old name)
other_created name old q differ = found-created old name q ∙ ap (λ b. cond b (Some (settled_file [])) (get old q)) differ

other_removed : (name : List ℕ) (old : Files) → Elsewhere name old (removed old name)
other_removed name old q differ = found-removed old name q ∙ ap (λ b. cond b None (get old q)) differ

other_adjusted : (change : File → File) (name : List ℕ) (old : Files) → Elsewhere name old (adjusted change old name)
other_adjusted change name old q differ =
    get-adjusted change old name q ∙ ap (λ b. cond b (option_map change (get old name)) (get old q)) (same_is q name ∙ differ)

pub found-put : (old : Files) (name : List ℕ) (file : File) (q : List ℕ) → get (insert old name file) q ≡ cond (bytes_eq q name) (Some file) (get old q)
found-put old name file q = get-insert nat_list_cmp_total old name file q ∙ ap (λ b. cond b (Some file) (get old q)) (same_is q name)

left_elsewhere : (Left : File → File → Type 0) (name : List ℕ) (old new : Files) → LeavesFile Left name old new → Elsewhere name old new
left_elsewhere Left name old new left q differ =
    elim (get old name) as (λ o. MatchOption o (new ≡ old) (λ file. (now : File) × Left file now × (new ≡ insert old name now)) → get new q ≡ get old q) [
      | None ↦ λ same. ap (λ m. get m q) same
      | Some file ↦ λ changed. ap (λ m. get m q) changed.2 ∙ found-put old name changed.0 q ∙ ap (λ b. cond b (Some changed.0) (get old q)) differ
    ] left

touches_create : (name : List ℕ) → Touches name (CallCreate name)
touches_create name = record { done = other_created name; broken = λ old new. wholly name (created old name) old new (other_created name old) }

touches_remove : (name : List ℕ) → Touches name (CallRemove name)
touches_remove name = record { done = other_removed name; broken = λ old new. wholly name (removed old name) old new (other_removed name old) }

pub touches_write : (name : List ℕ) (at : ℕ) (bytes : List ℕ) → Touches name (CallWrite name at bytes)
touches_write name at bytes = record { done = other_adjusted (file_written at bytes) name; broken = left_elsewhere (FileLeftByWrite at bytes) name }

pub touches_sync : (name : List ℕ) → Touches name (CallSync name)
touches_sync name = record { done = other_adjusted file_synced name; broken = left_elsewhere FileLeftBySync name }

-- a call that changes what stands under one name leaves settled what stands under the others
pub stays-beside : (name : List ℕ) (call : DeviceCall) → Touches name call → StaysSettled (loose_at name) call
stays-beside name call touches = record {
  done = λ old settled q file free is. settled q file free (sym (touches.done old q free) ∙ is);
  broken = λ old new settled left q file free is. settled q file free (sym (touches.broken old new left q free) ∙ is);
}

-- what the calls make of the files has nothing of what stands under a name
abbrev pub Ignores : (Files → List ℕ → Option File) → List ℕ → Type 0
Ignores final name = (old new : Files) → Elsewhere name old new → (q : List ℕ) → final new q ≡ final old q

done_keeps : (loose : List ℕ → Bool) (final : Files → List ℕ → Option File) (name : List ℕ) (call : DeviceCall) → Ignores final name → Touches name call
    → StaysSettled loose call → KeepsDone (SettledBut loose) final call
done_keeps loose final name call ignores touches stays old settled = (stays.done old settled, ignores old (applied call old) (touches.done old))

broken_keeps : (loose : List ℕ → Bool) (final : Files → List ℕ → Option File) (name : List ℕ) (call : DeviceCall) → Ignores final name → Touches name call
    → StaysSettled loose call → KeepsBroken (SettledBut loose) final call
broken_keeps loose final name call ignores touches stays old new settled left =
    (stays.broken old new settled left, ignores old new (touches.broken old new left))

-- a crash changes no more than what stands under the one name that is loose
crash_keeps : (final : Files → List ℕ → Option File) (name : List ℕ) → Ignores final name → KeepsCrashed (SettledBut (loose_at name)) final
crash_keeps final name ignores old new settled crashed = (
  settled-but (loose_at name) new (crash-settles old new crashed),
  ignores old new (crash-stays (loose_at name) old new settled crashed),
)

-- a stream is made

abbrev made_files : (cfg log text : List ℕ) → Files → List ℕ → Option File
made_files cfg log text files q = cond (bytes_eq q log) (Some (settled_file [])) (cond (bytes_eq q cfg) (Some (settled_file text)) (get files q))

pub first_part : {A : Type 0} (b : Bool) (x z z' : A) → (b ≡ false → z ≡ z') → cond b x z ≡ cond b x z'
first_part true x z z' same = refl
first_part false x z z' same = same refl

-- a choice whose last part is asked for only where two tests fail
last_part : {A : Type 0} (b c : Bool) (x y z z' : A) → (b ≡ false → c ≡ false → z ≡ z') → cond b x (cond c y z) ≡ cond b x (cond c y z')
last_part true c x y z z' same = refl
last_part false true x y z z' same = refl
last_part false false x y z z' same = same refl refl

pub made_again : (cfg log text : List ℕ) (attempts : ℕ) (old left : Files) → AllSettled old
    → Attempted (CallCreate cfg ∷ CallWrite cfg 0 text ∷ CallSync cfg ∷ CallCreate log ∷ []) attempts old left
    → all_applied (CallCreate cfg ∷ CallWrite cfg 0 text ∷ CallSync cfg ∷ CallCreate log ∷ []) left
    ≡ all_applied (CallCreate cfg ∷ CallWrite cfg 0 text ∷ CallSync cfg ∷ CallCreate log ∷ []) old
made_again cfg log text attempts old left settled tried =
    let loose = loose_at cfg in
    let final = made_files cfg log text in
    let no_cfg : Ignores final cfg = λ one other same q. last_part (bytes_eq q log) (bytes_eq q cfg) _ _ _ _ (λ l c. same q c) in
    let no_log : Ignores final log = λ one other same q. last_part (bytes_eq q log) (bytes_eq q cfg) _ _ _ _ (λ l c. same q l) in
    let made = stays-beside cfg (CallCreate cfg) (touches_create cfg) in
    let filled = stays-beside cfg (CallWrite cfg 0 text) (touches_write cfg 0 text) in
    let through = stays-beside cfg (CallSync cfg) (touches_sync cfg) in
    let log_made = stays-created loose log in
    repeats (SettledBut loose) final (CallCreate cfg ∷ CallWrite cfg 0 text ∷ CallSync cfg ∷ CallCreate log ∷ []) (
      broken_keeps loose final cfg _ no_cfg (touches_create cfg) made,
      (λ _. done_keeps loose final cfg _ no_cfg (touches_create cfg) made),
      (
        broken_keeps loose final cfg _ no_cfg (touches_write cfg 0 text) filled,
        (λ _. done_keeps loose final cfg _ no_cfg (touches_write cfg 0 text) filled),
        (
          broken_keeps loose final cfg _ no_cfg (touches_sync cfg) through,
          (λ _. done_keeps loose final cfg _ no_cfg (touches_sync cfg) through),
          (broken_keeps loose final log _ no_log (touches_create log) log_made, (λ _. done_keeps loose final log _ no_log (touches_create log) log_made), tt),
        ),
      ),
    )
    (crash_keeps final cfg no_cfg)
    (λ files any q. found-created (synced (written_at (created files cfg) cfg 0 text) cfg) log q
    ∙ ap (cond (bytes_eq q log) (Some (settled_file []))) (found-made files cfg text q))
    attempts old left (settled-but loose old settled) tried

-- a file gets another name

abbrev either_of : Option File → Option File → Option File
either_of None other = other
either_of (Some file) other = Some file

-- the file stands under its new name, whether it was renamed before or is renamed now
abbrev renamed_files : (from to : List ℕ) → Files → List ℕ → Option File
renamed_files from to files q = cond (bytes_eq q to) (either_of (get files from) (get files to)) (cond (bytes_eq q from) None (get files q))

unmoved : (to from : Bool) (found target : Option File) → (to ≡ true → found ≡ target) → (from ≡ true → found ≡ None) → found ≡ cond to target (cond from None found)
unmoved true from found target is none = is refl
unmoved false true found target is none = none refl
unmoved false false found target is none = refl

pub twice : {A : Type 0} (b c : Bool) (x y z : A) → cond b x (cond c y (cond b x (cond c y z))) ≡ cond b x (cond c y z)
twice true c x y z = refl
twice false true x y z = refl
twice false false x y z = refl

-- where the old name has a file, and where it has none
shows_renamed : (from to : List ℕ) (files : Files) (q : List ℕ) → get (renamed files from to) q ≡ renamed_files from to files q
shows_renamed from to files q =
    elim (get files from) as (λ o. get files from ≡ o → get (renamed files from to) q ≡ cond (bytes_eq q to) (either_of o (get files to)) (cond (bytes_eq q from) None (get files q))) [
      | None ↦ λ absent.
          ap (λ m. get m q) (renamed_absent files from to absent)
          ∙ unmoved (bytes_eq q to) (bytes_eq q from) (get files q) (get files to)
          (λ is. ap (get files) ((bytes_eq-Decides q to).0 is)) (λ is. ap (get files) ((bytes_eq-Decides q from).0 is) ∙ absent)
      | Some file ↦ λ stands. found-renamed files from to file stands q
    ] refl

-- renaming again changes nothing of that
rename_kept : (from to : List ℕ) (files : Files) → from ≢ to → (q : List ℕ) → renamed_files from to (renamed files from to) q ≡ renamed_files from to files q
rename_kept from to files differ q =
    let at_from : get (renamed files from to) from ≡ None =
    shows_renamed from to files from
    ∙ ap (λ b. cond b (either_of (get files from) (get files to)) (cond (bytes_eq from from) None (get files from))) (apart from to differ)
    ∙ ap (λ b. cond b None (get files from)) (itself from) in
    let at_to : get (renamed files from to) to ≡ either_of (get files from) (get files to) =
    shows_renamed from to files to
    ∙ ap (λ b. cond b (either_of (get files from) (get files to)) (cond (bytes_eq to from) None (get files to))) (itself to) in
    ap (λ o. cond (bytes_eq q to) (either_of o (get (renamed files from to) to)) (cond (bytes_eq q from) None (get (renamed files from to) q))) at_from
    ∙ ap (λ o. cond (bytes_eq q to) o (cond (bytes_eq q from) None (get (renamed files from to) q))) at_to
    ∙ ap (λ o. cond (bytes_eq q to) (either_of (get files from) (get files to)) (cond (bytes_eq q from) None o)) (shows_renamed from to files q)
    ∙ twice (bytes_eq q to) (bytes_eq q from) (either_of (get files from) (get files to)) None (get files q)

rename_left : (loose : List ℕ → Bool) (final : Files → List ℕ → Option File) (from to : List ℕ) → loose from ≡ false
    → ((files : Files) (q : List ℕ) → final (renamed files from to) q ≡ final files q) → KeepsBroken (SettledBut loose) final (CallRename from to)
rename_left loose final from to free kept old new settled left = (
  (stays-renamed loose from to free).broken old new settled left,
  elim left [
    | inl same ↦ λ q. ap (λ m. final m q) same
    | inr done ↦ λ q. ap (λ m. final m q) done ∙ kept old q
  ],
)

rename_done : (loose : List ℕ → Bool) (final : Files → List ℕ → Option File) (from to : List ℕ) → loose from ≡ false
    → ((files : Files) (q : List ℕ) → final (renamed files from to) q ≡ final files q) → KeepsDone (SettledBut loose) final (CallRename from to)
rename_done loose final from to free kept old settled = ((stays-renamed loose from to free).done old settled, kept old)

-- a stream ends
pub ended_again : (from to : List ℕ) (attempts : ℕ) (old left : Files) → from ≢ to → AllSettled old → Attempted (CallRename from to ∷ []) attempts old left
    → all_applied (CallRename from to ∷ []) left ≡ all_applied (CallRename from to ∷ []) old
ended_again from to attempts old left differ settled tried =
    let final = renamed_files from to in
    let kept : (files : Files) (q : List ℕ) → final (renamed files from to) q ≡ final files q = λ files. rename_kept from to files differ in
    repeats AllSettled final (CallRename from to ∷ []) (
      (λ before new all left.
          let k = rename_left none_loose final from to refl kept before new (settled-but none_loose before all) left in
          (all-settled new k.0, k.1)),
      (λ more. absurd (omega arith)),
      tt,
    )
    (λ before new all crashed. (crash-settles before new crashed, λ q. ap (λ m. final m q) (crash-nothing before new all crashed)))
    (λ files any. shows_renamed from to files) attempts old left settled tried

-- the file changes, and one goes if it has to

-- what the calls of a change of file make of files, where `gone` tells the names of what is removed
abbrev changed_files : (from to new bytes : List ℕ) (gone : List ℕ → Bool) → Files → List ℕ → Option File
changed_files from to new bytes gone files q =
    cond (bytes_eq q new) (Some (settled_file bytes)) (cond (gone q) None (renamed_files from to files q))

rename_behind : (from to new bytes : List ℕ) (gone : List ℕ → Bool) → from ≢ to → (files : Files) (q : List ℕ)
    → changed_files from to new bytes gone (renamed files from to) q ≡ changed_files from to new bytes gone files q
rename_behind from to new bytes gone differ files q =
    ap (λ o. cond (bytes_eq q new) (Some (settled_file bytes)) (cond (gone q) None o)) (rename_kept from to files differ q)

-- what stands under another name than the two is of no matter
renamed_elsewhere : (from to name : List ℕ) (old new : Files) → from ≢ name → Elsewhere name old new → (q : List ℕ) → bytes_eq q name ≡ false
    → renamed_files from to new q ≡ renamed_files from to old q
renamed_elsewhere from to name old new differ same q other =
    elim (bytes_eq q to) as (λ b. bytes_eq q to ≡ b
    → cond b (either_of (get new from) (get new to)) (cond (bytes_eq q from) None (get new q)) ≡ cond b (either_of (get old from) (get old to)) (cond (bytes_eq q from) None (get old q))) [
      | true ↦ λ is.
          let target : bytes_eq to name ≡ false = ap (λ v. bytes_eq v name) (sym ((bytes_eq-Decides q to).0 is)) ∙ other in
          ap (λ o. either_of o (get new to)) (same from (apart from name differ)) ∙ ap (either_of (get old from)) (same to target)
      | false ↦ λ is. ap (cond (bytes_eq q from) None) (same q other)
    ] refl

-- the calls of a change of file, without and with a file that goes
abbrev pub changing : (from to new bytes : List ℕ) → List DeviceCall
changing from to new bytes = CallRename from to ∷ CallCreate new ∷ CallWrite new 0 bytes ∷ CallSync new ∷ []

abbrev pub rotating : (from to new gone bytes : List ℕ) → List DeviceCall
rotating from to new gone bytes = CallRename from to ∷ CallCreate new ∷ CallRemove gone ∷ CallWrite new 0 bytes ∷ CallSync new ∷ []

pub changed_again : (from to new bytes : List ℕ) (attempts : ℕ) (old left : Files) → from ≢ to → from ≢ new → AllSettled old
    → Attempted (changing from to new bytes) attempts old left → all_applied (changing from to new bytes) left ≡ all_applied (changing from to new bytes) old
changed_again from to new bytes attempts old left differ unlike settled tried =
    let loose = loose_at new in
    let free = apart from new unlike in
    let final = changed_files from to new bytes (λ _. false) in
    let kept = rename_behind from to new bytes (λ _. false) differ in
    let no_new : Ignores final new = λ one other same q. first_part (bytes_eq q new) _ _ _ (λ n. renamed_elsewhere from to new one other unlike same q n) in
    repeats (SettledBut loose) final (CallRename from to ∷ CallCreate new ∷ CallWrite new 0 bytes ∷ CallSync new ∷ []) (
      rename_left loose final from to free kept,
      (λ _. rename_done loose final from to free kept),
      (
        broken_keeps loose final new _ no_new (touches_create new) (stays-beside new _ (touches_create new)),
        (λ _. done_keeps loose final new _ no_new (touches_create new) (stays-beside new _ (touches_create new))),
        (
          broken_keeps loose final new _ no_new (touches_write new 0 bytes) (stays-beside new _ (touches_write new 0 bytes)),
          (λ _. done_keeps loose final new _ no_new (touches_write new 0 bytes) (stays-beside new _ (touches_write new 0 bytes))),
          (broken_keeps loose final new _ no_new (touches_sync new) (stays-beside new _ (touches_sync new)), (λ _. done_keeps loose final new _ no_new (touches_sync new) (stays-beside new _ (touches_sync new))), tt),
        ),
      ),
    )
    (crash_keeps final new no_new)
    (λ files any q. found-made (renamed files from to) new bytes q ∙ ap (cond (bytes_eq q new) (Some (settled_file bytes))) (shows_renamed from to files q))
    attempts old left (settled-but loose old settled) tried

pub rotated_again : (from to new gone bytes : List ℕ) (attempts : ℕ) (old left : Files) → from ≢ to → from ≢ new → from ≢ gone → new ≢ gone → AllSettled old
    → Attempted (rotating from to new gone bytes) attempts old left → all_applied (rotating from to new gone bytes) left ≡ all_applied (rotating from to new gone bytes) old
rotated_again from to new gone bytes attempts old left differ unlike stays other settled tried =
    let loose = loose_at new in
    let free = apart from new unlike in
    let final = changed_files from to new bytes (λ q. bytes_eq q gone) in
    let kept = rename_behind from to new bytes (λ q. bytes_eq q gone) differ in
    let no_new : Ignores final new = λ one two same q. first_part (bytes_eq q new) _ _ _ (λ n. ap (cond (bytes_eq q gone) None) (renamed_elsewhere from to new one two unlike same q n)) in
    let no_gone : Ignores final gone = λ one two same q. last_part (bytes_eq q new) (bytes_eq q gone) _ _ _ _ (λ _ g. renamed_elsewhere from to gone one two stays same q g) in
    repeats (SettledBut loose) final (CallRename from to ∷ CallCreate new ∷ CallRemove gone ∷ CallWrite new 0 bytes ∷ CallSync new ∷ []) (
      rename_left loose final from to free kept,
      (λ _. rename_done loose final from to free kept),
      (
        broken_keeps loose final new _ no_new (touches_create new) (stays-beside new _ (touches_create new)),
        (λ _. done_keeps loose final new _ no_new (touches_create new) (stays-beside new _ (touches_create new))),
        (
          broken_keeps loose final gone _ no_gone (touches_remove gone) (stays-removed loose gone),
          (λ _. done_keeps loose final gone _ no_gone (touches_remove gone) (stays-removed loose gone)),
          (
            broken_keeps loose final new _ no_new (touches_write new 0 bytes) (stays-beside new _ (touches_write new 0 bytes)),
            (λ _. done_keeps loose final new _ no_new (touches_write new 0 bytes) (stays-beside new _ (touches_write new 0 bytes))),
            (broken_keeps loose final new _ no_new (touches_sync new) (stays-beside new _ (touches_sync new)), (λ _. done_keeps loose final new _ no_new (touches_sync new) (stays-beside new _ (touches_sync new))), tt),
          ),
        ),
      ),
    )
    (crash_keeps final new no_new)
    (λ files any q. found-refilled (renamed files from to) new gone bytes other q
    ∙ ap (λ o. cond (bytes_eq q new) (Some (settled_file bytes)) (cond (bytes_eq q gone) None o)) (shows_renamed from to files q))
    attempts old left (settled-but loose old settled) tried
