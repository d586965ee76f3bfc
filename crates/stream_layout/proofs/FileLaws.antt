-- What is found under each name after the device calls of an event, over any names and bytes.
use Rattle.std.proofs.Common.{◌≡◌, ◌≢◌, ℕ, ◌+◌, ◌≤◌, Bool, true, false, cond, List, [], ◌∷◌, ◌++◌, length, Option, Some, None, option_map, is_some, if◌then◌else◌, refl, sym, ap, ◌∙◌, append-nil, arith}
use Rattle.std.specs.Option.{option_map_or}
use Rattle.std.specs.Str.{bytes_eq}
use Rattle.std.specs.FinMap.{get}
use Rattle.std.proofs.lemmas.Bool.{cond-true, le-leb}
use Rattle.std.proofs.lemmas.List.{drop_all}
use Rattle.std.proofs.lemmas.Map.Text.{is_eq-slice_cmp}
use Rattle.std.proofs.lemmas.Slice.Eq.{bytes_eq-Decides}
use Rattle.disk_model.specs.Disk.{File, Files, empty_file, settled_file, overwritten, file_written, file_synced, created, written_at, synced, renamed, removed}
use Rattle.disk_model.proofs.Changes.{same_name, get-created, get-removed, get-adjusted, get-renamed, adjusted_twice}
use Rattle.stream_layout.specs.LogFiles.{Entries}
use Rattle.stream_layout.specs.Carrying.{entry_at, Stand, replaced}

-- names are equal where their bytes are
pub same_is : (q name : List ℕ) → same_name q name ≡ bytes_eq q name
same_is q name = is_eq-slice_cmp q name

pub itself : (name : List ℕ) → bytes_eq name name ≡ true
itself name = (bytes_eq-Decides name name).1 refl

-- different names are told apart
pub apart : (q name : List ℕ) → q ≢ name → bytes_eq q name ≡ false
apart q name differ =
    elim (bytes_eq q name) as (λ b. bytes_eq q name ≡ b → b ≡ false) [
      | true ↦ λ e. absurd (differ ((bytes_eq-Decides q name).0 e))
      | false ↦ λ e. refl
    ] refl

-- a name that is one is not another
pub not_both : (q one other : List ℕ) → one ≢ other → bytes_eq q one ≡ true → bytes_eq q other ≡ false
not_both q one other differ is = apart q other (λ e. differ (sym ((bytes_eq-Decides q one).0 is) ∙ e))

-- what is found after each call

pub found-created : (files : Files) (name q : List ℕ) → get (created files name) q ≡ cond (bytes_eq q name) (Some (settled_file [])) (get files q)
found-created files name q = get-created files name q ∙ ap (λ b. cond b (Some empty_file) (get files q)) (same_is q name)

pub found-removed : (files : Files) (name q : List ℕ) → get (removed files name) q ≡ cond (bytes_eq q name) None (get files q)
found-removed files name q = get-removed files name q ∙ ap (λ b. cond b None (get files q)) (same_is q name)

pub found-renamed : (files : Files) (from to : List ℕ) (file : File) → get files from ≡ Some file → (q : List ℕ)
    → get (renamed files from to) q ≡ cond (bytes_eq q to) (Some file) (cond (bytes_eq q from) None (get files q))
found-renamed files from to file stands q =
    get-renamed files from to q
    ∙ ap (λ o. option_map_or (λ file. cond (same_name q to) (Some file) (cond (same_name q from) None (get files q))) o (get files q)) stands
    ∙ ap (λ b. cond b (Some file) (cond (same_name q from) None (get files q))) (same_is q to)
    ∙ ap (λ b. cond (bytes_eq q to) (Some file) (cond b None (get files q))) (same_is q from)

-- a settled file with bytes put over some of its own, and synced
pub written_whole : (at : ℕ) (bytes old : List ℕ) → at ≤ length old
    → file_synced (file_written at bytes (settled_file old)) ≡ settled_file (overwritten old at bytes)
written_whole at bytes old within =
    ap settled_file (cond-true _ (overwritten old at bytes) old (le-leb at (length old) within))

found-written : (files : Files) (name : List ℕ) (at : ℕ) (bytes old : List ℕ) → get files name ≡ Some (settled_file old) → at ≤ length old → (q : List ℕ)
    → get (synced (written_at files name at bytes) name) q ≡ cond (bytes_eq q name) (Some (settled_file (overwritten old at bytes))) (get files q)
found-written files name at bytes old stands within q =
    ap (λ m. get m q) (adjusted_twice (file_written at bytes) file_synced files name)
    ∙ get-adjusted (λ file. file_synced (file_written at bytes file)) files name q
    ∙ ap (λ b. cond b (option_map (λ file. file_synced (file_written at bytes file)) (get files name)) (get files q)) (same_is q name)
    ∙ ap (λ o. cond (bytes_eq q name) (option_map (λ file. file_synced (file_written at bytes file)) o) (get files q)) stands
    ∙ ap (λ file. cond (bytes_eq q name) (Some file) (get files q)) (written_whole at bytes old within)

-- bytes put into an empty file
filled : (bytes : List ℕ) → overwritten [] 0 bytes ≡ bytes
filled bytes = ap (λ v. bytes ++ v) (drop_all (0 + length bytes) [] (omega arith)) ∙ append-nil bytes

-- two choices by one test
chosen_twice : {A : Type 0} (b : Bool) (x y z : A) → cond b x (cond b y z) ≡ cond b x z
chosen_twice true x y z = refl
chosen_twice false x y z = refl

-- a file that is made and written whole
pub found-made : (files : Files) (name bytes q : List ℕ)
    → get (synced (written_at (created files name) name 0 bytes) name) q ≡ cond (bytes_eq q name) (Some (settled_file bytes)) (get files q)
found-made files name bytes q =
    let stands : get (created files name) name ≡ Some (settled_file []) =
    found-created files name name ∙ ap (λ b. cond b (Some (settled_file [])) (get files name)) (itself name) in
    found-written (created files name) name 0 bytes [] stands (omega arith) q
    ∙ ap (λ v. cond (bytes_eq q name) (Some (settled_file v)) (get (created files name) q)) (filled bytes)
    ∙ ap (λ o. cond (bytes_eq q name) (Some (settled_file bytes)) o) (found-created files name q)
    ∙ chosen_twice (bytes_eq q name) (Some (settled_file bytes)) (Some (settled_file [])) (get files q)

-- entries

pub entry_at-behind : (front more : Entries) (q : List ℕ) → entry_at front q ≡ None → entry_at (front ++ more) q ≡ entry_at more q
entry_at-behind [] more q none = refl
entry_at-behind (entry ∷ front) more q none =
    elim (bytes_eq q entry.0) as (λ b. cond b (Some entry.1) (entry_at front q) ≡ None → cond b (Some entry.1) (entry_at (front ++ more) q) ≡ entry_at more q) [
      | true ↦ λ e. cc
      | false ↦ λ e. entry_at-behind front more q e
    ] none

pub entry_at-front : (front more : Entries) (q bytes : List ℕ) → entry_at front q ≡ Some bytes → entry_at (front ++ more) q ≡ Some bytes
entry_at-front [] more q bytes some = cc
entry_at-front (entry ∷ front) more q bytes some =
    elim (bytes_eq q entry.0) as (λ b. cond b (Some entry.1) (entry_at front q) ≡ Some bytes → cond b (Some entry.1) (entry_at (front ++ more) q) ≡ Some bytes) [
      | true ↦ λ e. e
      | false ↦ λ e. entry_at-front front more q bytes e
    ] some

entry_at-past : (head front more : Entries) (q : List ℕ) → entry_at front q ≡ None → entry_at (head ++ (front ++ more)) q ≡ entry_at (head ++ more) q
entry_at-past [] front more q none = entry_at-behind front more q none
entry_at-past (entry ∷ head) front more q none = ap (cond (bytes_eq q entry.0) (Some entry.1)) (entry_at-past head front more q none)

-- an entry of other ones is not of this name
found_elsewhere : (front : Entries) (q name bytes : List ℕ) → entry_at front q ≡ Some bytes → entry_at front name ≡ None → bytes_eq q name ≡ false
found_elsewhere front q name bytes some none = apart q name (λ e. let same = ap (entry_at front) e in cc)

-- what is found is what the entries say, where this holds for those that stay and for the others
split_found : (head front old new : Entries) (files : Files) (q : List ℕ) (found : Option File)
    → ((bytes : List ℕ) → entry_at front q ≡ Some bytes → found ≡ Some (settled_file bytes))
    → (entry_at front q ≡ None → found ≡ replaced (head ++ old) new files q)
    → found ≡ replaced (head ++ (front ++ old)) (front ++ new) files q
split_found head front old new files q found stays changes =
    elim (entry_at front q) as (λ o. entry_at front q ≡ o → found ≡ replaced (head ++ (front ++ old)) (front ++ new) files q) [
      | None ↦ λ none.
          changes none
          ∙ ap (λ o. option_map_or (λ bytes. Some (settled_file bytes)) (entry_at new q) (if is_some o then None else get files q)) (sym (entry_at-past head front old q none))
          ∙ ap (λ o. option_map_or (λ bytes. Some (settled_file bytes)) o (if is_some (entry_at (head ++ (front ++ old)) q) then None else get files q)) (sym (entry_at-behind front new q none))
      | Some bytes ↦ λ some.
          stays bytes some
          ∙ ap (λ o. option_map_or (λ bytes. Some (settled_file bytes)) o (if is_some (entry_at (head ++ (front ++ old)) q) then None else get files q)) (sym (entry_at-front front new q bytes some))
    ] refl

-- the last of some entries stands
pub last_stands : (front : Entries) (name bytes : List ℕ) (files : Files) → entry_at front name ≡ None → Stand (front ++ (name, bytes) ∷ []) files
    → get files name ≡ Some (settled_file bytes)
last_stands front name bytes files none stand =
    stand name bytes (entry_at-behind front ((name, bytes) ∷ []) name none ∙ ap (λ b. cond b (Some bytes) None) (itself name))

-- a record goes to the last of some files
written_choice : (same : Bool) (old new : List ℕ) (found : Option File)
    → cond same (Some (settled_file new)) found
    ≡ option_map_or (λ bytes. Some (settled_file bytes)) (cond same (Some new) None) (if is_some (cond same (Some old) None) then None else found)
written_choice true old new found = refl
written_choice false old new found = refl

pub carry_write : (front : Entries) (name old : List ℕ) (at : ℕ) (bytes : List ℕ) (files : Files)
    → entry_at front name ≡ None → Stand (front ++ (name, old) ∷ []) files → at ≤ length old → (q : List ℕ)
    → get (synced (written_at files name at bytes) name) q
    ≡ replaced (front ++ (name, old) ∷ []) (front ++ (name, overwritten old at bytes) ∷ []) files q
carry_write front name old at bytes files none stand within q =
    let new = overwritten old at bytes in
    found-written files name at bytes old (last_stands front name old files none stand) within q
    ∙ split_found [] front ((name, old) ∷ []) ((name, new) ∷ []) files q (cond (bytes_eq q name) (Some (settled_file new)) (get files q))
    (λ kept some. ap (λ b. cond b (Some (settled_file new)) (get files q)) (found_elsewhere front q name kept some none)
    ∙ stand q kept (entry_at-front front ((name, old) ∷ []) q kept some))
    (λ _. written_choice (bytes_eq q name) old new (get files q))

-- the last of some files gets another name
renamed_choice : (to from : Bool) (old : List ℕ) (found : Option File)
    → cond to (Some (settled_file old)) (cond from None found)
    ≡ option_map_or (λ bytes. Some (settled_file bytes)) (cond to (Some old) None) (if is_some (cond from (Some old) None) then None else found)
renamed_choice true from old found = refl
renamed_choice false true old found = refl
renamed_choice false false old found = refl

pub carry_rename : (front : Entries) (from to old : List ℕ) (files : Files)
    → entry_at front from ≡ None → entry_at front to ≡ None → Stand (front ++ (from, old) ∷ []) files → (q : List ℕ)
    → get (renamed files from to) q ≡ replaced (front ++ (from, old) ∷ []) (front ++ (to, old) ∷ []) files q
carry_rename front from to old files no_from no_to stand q =
    found-renamed files from to (settled_file old) (last_stands front from old files no_from stand) q
    ∙ split_found [] front ((from, old) ∷ []) ((to, old) ∷ []) files q (cond (bytes_eq q to) (Some (settled_file old)) (cond (bytes_eq q from) None (get files q)))
    (λ kept some.
    ap (λ b. cond b (Some (settled_file old)) (cond (bytes_eq q from) None (get files q))) (found_elsewhere front q to kept some no_to)
    ∙ ap (λ b. cond b None (get files q)) (found_elsewhere front q from kept some no_from)
    ∙ stand q kept (entry_at-front front ((from, old) ∷ []) q kept some))
    (λ _. renamed_choice (bytes_eq q to) (bytes_eq q from) old (get files q))

-- the calls of a change of file, without those that remove
found-changed : (files : Files) (from to new : List ℕ) (old bytes : List ℕ) → get files from ≡ Some (settled_file old) → (q : List ℕ)
    → get (synced (written_at (created (renamed files from to) new) new 0 bytes) new) q
    ≡ cond (bytes_eq q new) (Some (settled_file bytes)) (cond (bytes_eq q to) (Some (settled_file old)) (cond (bytes_eq q from) None (get files q)))
found-changed files from to new old bytes stands q =
    found-made (renamed files from to) new bytes q
    ∙ ap (cond (bytes_eq q new) (Some (settled_file bytes))) (found-renamed files from to (settled_file old) stands q)

refilled_choice : {A : Type 0} (b c : Bool) (x y z : Option A) → cond b x (cond c None (cond b y z)) ≡ cond b x (cond c None z)
refilled_choice true c x y z = refl
refilled_choice false true x y z = refl
refilled_choice false false x y z = refl

-- an entry that is not the first
not_first : {A : Type 0} (b : Bool) (x : A) (o : Option A) → cond b (Some x) o ≡ None → o ≡ None
not_first true x o none = cc
not_first false x o none = none

-- a file that is made, and written once another is removed
pub found-refilled : (files : Files) (name gone bytes : List ℕ) → name ≢ gone → (q : List ℕ)
    → get (synced (written_at (removed (created files name) gone) name 0 bytes) name) q
    ≡ cond (bytes_eq q name) (Some (settled_file bytes)) (cond (bytes_eq q gone) None (get files q))
found-refilled files name gone bytes differ q =
    let stands : get (removed (created files name) gone) name ≡ Some (settled_file []) =
    found-removed (created files name) gone name
    ∙ ap (λ b. cond b None (get (created files name) name)) (apart name gone differ)
    ∙ found-created files name name ∙ ap (λ b. cond b (Some (settled_file [])) (get files name)) (itself name) in
    found-written (removed (created files name) gone) name 0 bytes [] stands (omega arith) q
    ∙ ap (λ v. cond (bytes_eq q name) (Some (settled_file v)) (get (removed (created files name) gone) q)) (filled bytes)
    ∙ ap (cond (bytes_eq q name) (Some (settled_file bytes)))
    (found-removed (created files name) gone q ∙ ap (cond (bytes_eq q gone) None) (found-created files name q))
    ∙ refilled_choice (bytes_eq q name) (bytes_eq q gone) (Some (settled_file bytes)) (Some (settled_file [])) (get files q)

-- the last of some files is closed, and a new one comes behind it
changed_choice : (new to from : Bool) (old bytes : List ℕ) (found : Option File) → (to ≡ true → new ≡ false)
    → cond new (Some (settled_file bytes)) (cond to (Some (settled_file old)) (cond from None found))
    ≡ option_map_or (λ b. Some (settled_file b)) (cond to (Some old) (cond new (Some bytes) None)) (if is_some (cond from (Some old) None) then None else found)
changed_choice true true from old bytes found one = cc (one refl)
changed_choice true false from old bytes found one = refl
changed_choice false true from old bytes found one = refl
changed_choice false false true old bytes found one = refl
changed_choice false false false old bytes found one = refl

pub carry_change : (front : Entries) (from to new : List ℕ) (old bytes : List ℕ) (files : Files)
    → entry_at front from ≡ None → entry_at front to ≡ None → entry_at front new ≡ None → to ≢ new
    → Stand (front ++ (from, old) ∷ []) files → (q : List ℕ)
    → get (synced (written_at (created (renamed files from to) new) new 0 bytes) new) q
    ≡ replaced (front ++ (from, old) ∷ []) (front ++ (to, old) ∷ (new, bytes) ∷ []) files q
carry_change front from to new old bytes files no_from no_to no_new differ stand q =
    found-changed files from to new old bytes (last_stands front from old files no_from stand) q
    ∙ split_found [] front ((from, old) ∷ []) ((to, old) ∷ (new, bytes) ∷ []) files q
    (cond (bytes_eq q new) (Some (settled_file bytes)) (cond (bytes_eq q to) (Some (settled_file old)) (cond (bytes_eq q from) None (get files q))))
    (λ kept some.
    ap (λ b. cond b (Some (settled_file bytes)) (cond (bytes_eq q to) (Some (settled_file old)) (cond (bytes_eq q from) None (get files q)))) (found_elsewhere front q new kept some no_new)
    ∙ ap (λ b. cond b (Some (settled_file old)) (cond (bytes_eq q from) None (get files q))) (found_elsewhere front q to kept some no_to)
    ∙ ap (λ b. cond b None (get files q)) (found_elsewhere front q from kept some no_from)
    ∙ stand q kept (entry_at-front front ((from, old) ∷ []) q kept some))
    (λ _. changed_choice (bytes_eq q new) (bytes_eq q to) (bytes_eq q from) old bytes (get files q) (not_both q to new differ))

-- the same, and the oldest of the files goes
rotated_choice : (new gone to from : Bool) (old bytes oldest : List ℕ) (found : Option File) → (to ≡ true → new ≡ false) → (to ≡ true → gone ≡ false)
    → cond new (Some (settled_file bytes)) (cond gone None (cond to (Some (settled_file old)) (cond from None found)))
    ≡ option_map_or (λ b. Some (settled_file b)) (cond to (Some old) (cond new (Some bytes) None)) (if is_some (cond gone (Some oldest) (cond from (Some old) None)) then None else found)
rotated_choice true gone true from old bytes oldest found one other = cc (one refl)
rotated_choice true gone false from old bytes oldest found one other = refl
rotated_choice false true true from old bytes oldest found one other = cc (other refl)
rotated_choice false false true from old bytes oldest found one other = refl
rotated_choice false true false from old bytes oldest found one other = refl
rotated_choice false false false true old bytes oldest found one other = refl
rotated_choice false false false false old bytes oldest found one other = refl

pub carry_rotation : (gone oldest : List ℕ) (front : Entries) (from to new : List ℕ) (old bytes : List ℕ) (files : Files)
    → entry_at ((gone, oldest) ∷ front) from ≡ None → entry_at ((gone, oldest) ∷ front) to ≡ None → entry_at ((gone, oldest) ∷ front) new ≡ None
    → entry_at front gone ≡ None → to ≢ new → new ≢ gone → to ≢ gone
    → Stand ((gone, oldest) ∷ front ++ (from, old) ∷ []) files → (q : List ℕ)
    → get (synced (written_at (removed (created (renamed files from to) new) gone) new 0 bytes) new) q
    ≡ replaced ((gone, oldest) ∷ front ++ (from, old) ∷ []) (front ++ (to, old) ∷ (new, bytes) ∷ []) files q
carry_rotation gone oldest front from to new old bytes files no_from no_to no_new once differ unlike other stand q =
    let whole : List (List ℕ × List ℕ) = (gone, oldest) ∷ front in
    let behind : (name : List ℕ) → entry_at whole name ≡ None → entry_at front name ≡ None = λ name none. not_first (bytes_eq name gone) oldest (entry_at front name) none in
    found-refilled (renamed files from to) new gone bytes unlike q
    ∙ ap (λ o. cond (bytes_eq q new) (Some (settled_file bytes)) (cond (bytes_eq q gone) None o))
    (found-renamed files from to (settled_file old) (last_stands whole from old files no_from stand) q)
    ∙ split_found ((gone, oldest) ∷ []) front ((from, old) ∷ []) ((to, old) ∷ (new, bytes) ∷ []) files q
    (cond (bytes_eq q new) (Some (settled_file bytes)) (cond (bytes_eq q gone) None (cond (bytes_eq q to) (Some (settled_file old)) (cond (bytes_eq q from) None (get files q)))))
    (λ kept some.
    ap (λ b. cond b (Some (settled_file bytes)) (cond (bytes_eq q gone) None (cond (bytes_eq q to) (Some (settled_file old)) (cond (bytes_eq q from) None (get files q))))) (found_elsewhere front q new kept some (behind new no_new))
    ∙ ap (λ b. cond b None (cond (bytes_eq q to) (Some (settled_file old)) (cond (bytes_eq q from) None (get files q)))) (found_elsewhere front q gone kept some once)
    ∙ ap (λ b. cond b (Some (settled_file old)) (cond (bytes_eq q from) None (get files q))) (found_elsewhere front q to kept some (behind to no_to))
    ∙ ap (λ b. cond b None (get files q)) (found_elsewhere front q from kept some (behind from no_from))
    ∙ stand q kept (ap (λ b. cond b (Some oldest) (entry_at (front ++ (from, old) ∷ []) q)) (found_elsewhere front q gone kept some once) ∙ entry_at-front front ((from, old) ∷ []) q kept some))
    (λ _. rotated_choice (bytes_eq q new) (bytes_eq q gone) (bytes_eq q to) (bytes_eq q from) old bytes oldest (get files q) (not_both q to new differ) (not_both q to gone other))

-- the same, where the file that is closed is the oldest
sole_choice : (new to from : Bool) (old bytes : List ℕ) (found : Option File) → (to ≡ true → new ≡ false) → (to ≡ true → found ≡ None)
    → cond new (Some (settled_file bytes)) (cond to None (cond to (Some (settled_file old)) (cond from None found)))
    ≡ option_map_or (λ b. Some (settled_file b)) (cond new (Some bytes) None) (if is_some (cond from (Some old) None) then None else found)
sole_choice true to from old bytes found one free = refl
sole_choice false true true old bytes found one free = refl
sole_choice false true false old bytes found one free = sym (free refl)
sole_choice false false true old bytes found one free = refl
sole_choice false false false old bytes found one free = refl

pub carry_sole : (from to new : List ℕ) (old bytes : List ℕ) (files : Files) → to ≢ new → get files to ≡ None
    → Stand ((from, old) ∷ []) files → (q : List ℕ)
    → get (synced (written_at (removed (created (renamed files from to) new) to) new 0 bytes) new) q
    ≡ replaced ((from, old) ∷ []) ((new, bytes) ∷ []) files q
carry_sole from to new old bytes files differ free stand q =
    found-refilled (renamed files from to) new to bytes (λ e. differ (sym e)) q
    ∙ ap (λ o. cond (bytes_eq q new) (Some (settled_file bytes)) (cond (bytes_eq q to) None o))
    (found-renamed files from to (settled_file old) (last_stands [] from old files refl stand) q)
    ∙ sole_choice (bytes_eq q new) (bytes_eq q to) (bytes_eq q from) old bytes (get files q) (not_both q to new differ)
    (λ is. ap (get files) ((bytes_eq-Decides q to).0 is) ∙ free)

-- a stream is made: its cfg, and an empty file
made_choice : (cfg log : Bool) (text : List ℕ) (found : Option File) → (cfg ≡ true → log ≡ false)
    → cond log (Some (settled_file [])) (cond cfg (Some (settled_file text)) found)
    ≡ option_map_or (λ b. Some (settled_file b)) (cond cfg (Some text) (cond log (Some []) None)) found
made_choice true true text found one = cc (one refl)
made_choice true false text found one = refl
made_choice false true text found one = refl
made_choice false false text found one = refl

pub carry_made : (cfg log text : List ℕ) (files : Files) → cfg ≢ log → (q : List ℕ)
    → get (created (synced (written_at (created files cfg) cfg 0 text) cfg) log) q ≡ replaced [] ((cfg, text) ∷ (log, []) ∷ []) files q
carry_made cfg log text files differ q =
    found-created (synced (written_at (created files cfg) cfg 0 text) cfg) log q
    ∙ ap (cond (bytes_eq q log) (Some (settled_file []))) (found-made files cfg text q)
    ∙ made_choice (bytes_eq q cfg) (bytes_eq q log) text (get files q) (not_both q cfg log differ)
