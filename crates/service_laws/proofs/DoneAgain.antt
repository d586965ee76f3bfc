-- The calls of each event, made again after any attempts, leave what they would have left at once.
use Rattle.std.proofs.Common.{◌≡◌, ◌≢◌, ℕ, ◌≤◌, Bool, true, false, cond, List, [], ◌∷◌, length, refl, ap, sym, ◌∙◌, arith}
use Rattle.std.specs.Prelude.{Option, Some, None, option_map}
use Rattle.std.specs.Str.{bytes_eq}
use Rattle.std.specs.FinMap.{get, same_map}
use Rattle.std.specs.Cmp.Lexicographic.{nat_list_cmp_total}
use Rattle.disk_model.specs.Disk.{File, Files, settled_file, overwritten, file_written, file_synced, created, removed, renamed, written_at, synced}
use Rattle.disk_model.specs.DeviceCalls.{DeviceCall, CallCreate, CallWrite, CallSync, all_applied}
use Rattle.disk_model.proofs.Changes.{get-adjusted, adjusted_twice, written_again}
use Rattle.disk_model.proofs.Renaming.{renamed_absent}
use Rattle.disk_model.proofs.Shelving.{names_differ}
use Rattle.disk_model.proofs.Tearing.{length-overwritten, torn_overwritten}
use Rattle.stream_layout.proofs.FileLaws.{same_is, itself, apart, found-created, found-removed, found-renamed, found-made, found-refilled, written_whole}
pub use Rattle.stream_layout.proofs.RepeatLaws.{changing, rotating}
use Rattle.stream_layout.proofs.RepeatLaws.{made_again, changed_again, rotated_again, twice}
use Rattle.stream_layout.specs.Repeating.{AllSettled}
use Rattle.stream_layout.proofs.Settled.{none_loose, settled-but, all-settled, settled-put, settled-removed, settled-renamed}
use Rattle.stream_layout.proofs.WriteAgain.{written_once_more}
use Rattle.service_laws.proofs.Attempting.{IsRepeatable, repeatable}

-- files are the same where each name has the same file
pub same-files : (one other : Files) → ((q : List ℕ) → get one q ≡ get other q) → one ≡ other
same-files one other same = same_map nat_list_cmp_total names_differ one other same

once : {A : Type 0} (b : Bool) (x y : A) → cond b x (cond b x y) ≡ cond b x y
once true x y = refl
once false x y = refl

-- a stream is made

abbrev pub making : (cfg log text : List ℕ) → List DeviceCall
making cfg log text = CallCreate cfg ∷ CallWrite cfg 0 text ∷ CallSync cfg ∷ CallCreate log ∷ []

made-shown : (cfg log text : List ℕ) (files : Files) (q : List ℕ) → get (all_applied (making cfg log text) files) q ≡ cond (bytes_eq q log) (Some (settled_file [])) (cond (bytes_eq q cfg) (Some (settled_file text)) (get files q))
made-shown cfg log text files q =
    found-created (synced (written_at (created files cfg) cfg 0 text) cfg) log q
    ∙ ap (cond (bytes_eq q log) (Some (settled_file []))) (found-made files cfg text q)

made-settled : (cfg log text : List ℕ) (files : Files) → AllSettled files → AllSettled (all_applied (making cfg log text) files)
made-settled cfg log text files settled =
    let middle = synced (written_at (created files cfg) cfg 0 text) cfg in
    all-settled (created middle log)
    (settled-put none_loose middle (created middle log) log [] (found-created middle log)
    (settled-put none_loose files middle cfg text (found-made files cfg text) (settled-but none_loose files settled)))

pub made-repeatable : (cfg log text : List ℕ) (old : Files) → IsRepeatable (making cfg log text) old
made-repeatable cfg log text old =
    let calls = making cfg log text in
    repeatable calls AllSettled (λ attempts files left settled tried. made_again cfg log text attempts files left settled tried)
    (λ files settled. (
      made-settled cfg log text files settled,
      same-files (all_applied calls (all_applied calls files)) (all_applied calls files)
          (λ q. made-shown cfg log text (all_applied calls files) q
          ∙ ap (λ o. cond (bytes_eq q log) (Some (settled_file [])) (cond (bytes_eq q cfg) (Some (settled_file text)) o)) (made-shown cfg log text files q)
          ∙ twice (bytes_eq q log) (bytes_eq q cfg) (Some (settled_file [])) (Some (settled_file text)) (get files q)
          ∙ sym (made-shown cfg log text files q)),
    ))
    old (λ settled. settled)

-- a file that got another name is gone under its old one

pub renamed-gone : (files : Files) (from to : List ℕ) → from ≢ to → get (renamed files from to) from ≡ None
renamed-gone files from to differ = by_case (get files from) refl where
  by_case : (found : Option File) → get files from ≡ found → get (renamed files from to) from ≡ None
  by_case None none = ap (λ m. get m from) (renamed_absent files from to none) ∙ none
  by_case (Some file) stands =
      found-renamed files from to file stands from
      ∙ ap (λ b. cond b (Some file) (cond (bytes_eq from from) None (get files from))) (apart from to differ)
      ∙ ap (λ b. cond b None (get files from)) (itself from)

-- a name that stands for nothing does not come to stand for anything when another is given
pub renamed-stays : (files : Files) (from to name : List ℕ) → name ≢ to → get files name ≡ None → get (renamed files from to) name ≡ None
renamed-stays files from to name differ none = by_case (get files from) refl where
  gone : (b : Bool) → cond b None (get files name) ≡ None
  gone true = refl
  gone false = none

  by_case : (found : Option File) → get files from ≡ found → get (renamed files from to) name ≡ None
  by_case None absent = ap (λ m. get m name) (renamed_absent files from to absent) ∙ none
  by_case (Some file) stands =
      found-renamed files from to file stands name
      ∙ ap (λ b. cond b (Some file) (cond (bytes_eq name from) None (get files name))) (apart name to differ)
      ∙ gone (bytes_eq name from)

-- the file changes

pub changed-repeatable : (from to new bytes : List ℕ) (old : Files) → from ≢ to → from ≢ new → IsRepeatable (changing from to new bytes) old
changed-repeatable from to new bytes old differ unlike =
    let calls = changing from to new bytes in
    let refill = λ (files : Files). synced (written_at (created files new) new 0 bytes) new in
    repeatable calls AllSettled (λ attempts files left settled tried. changed_again from to new bytes attempts files left differ unlike settled tried)
    (λ files settled.
    let after = refill (renamed files from to) in
    let gone : get after from ≡ None =
    found-made (renamed files from to) new bytes from
    ∙ ap (λ b. cond b (Some (settled_file bytes)) (get (renamed files from to) from)) (apart from new unlike) ∙ renamed-gone files from to differ in (
      all-settled after (settled-put none_loose (renamed files from to) after new bytes (found-made (renamed files from to) new bytes)
          (settled-renamed none_loose from to files refl (settled-but none_loose files settled))),
      ap refill (renamed_absent after from to gone)
          ∙ same-files (refill after) after
          (λ q. found-made after new bytes q
          ∙ ap (cond (bytes_eq q new) (Some (settled_file bytes))) (found-made (renamed files from to) new bytes q)
          ∙ once (bytes_eq q new) (Some (settled_file bytes)) (get (renamed files from to) q)
          ∙ sym (found-made (renamed files from to) new bytes q)),
    ))
    old (λ settled. settled)

pub rotated-repeatable : (from to new gone bytes : List ℕ) (old : Files) → from ≢ to → from ≢ new → from ≢ gone → new ≢ gone → IsRepeatable (rotating from to new gone bytes) old
rotated-repeatable from to new gone bytes old differ unlike stays other =
    let calls = rotating from to new gone bytes in
    let refill = λ (files : Files). synced (written_at (removed (created files new) gone) new 0 bytes) new in
    let x = Some (settled_file bytes) in
    repeatable calls AllSettled (λ attempts files left settled tried. rotated_again from to new gone bytes attempts files left differ unlike stays other settled tried)
    (λ files settled.
    let moved = renamed files from to in
    let after = refill (renamed files from to) in
    let none : get after from ≡ None =
    found-refilled (renamed files from to) new gone bytes other from
    ∙ ap (λ b. cond b x (cond (bytes_eq from gone) None (get (renamed files from to) from))) (apart from new unlike)
    ∙ ap (λ b. cond b None (get (renamed files from to) from)) (apart from gone stays) ∙ renamed-gone files from to differ in (
      all-settled after (settled-put none_loose (removed moved gone) after new bytes
          (λ q. found-refilled moved new gone bytes other q ∙ ap (cond (bytes_eq q new) x) (sym (found-removed moved gone q)))
          (settled-removed none_loose gone moved (settled-renamed none_loose from to files refl (settled-but none_loose files settled)))),
      ap refill (renamed_absent after from to none)
          ∙ same-files (refill after) after
          (λ q. found-refilled after new gone bytes other q
          ∙ ap (λ o. cond (bytes_eq q new) x (cond (bytes_eq q gone) None o)) (found-refilled (renamed files from to) new gone bytes other q)
          ∙ twice (bytes_eq q new) (bytes_eq q gone) x None (get (renamed files from to) q)
          ∙ sym (found-refilled (renamed files from to) new gone bytes other q)),
    ))
    old (λ settled. settled)

-- a record is written into a file that stands

abbrev pub writing : (name : List ℕ) (at : ℕ) (bytes : List ℕ) → List DeviceCall
writing name at bytes = CallWrite name at bytes ∷ CallSync name ∷ []

-- the file stands, settled, and reaches to that place
abbrev pub Reaches : (name : List ℕ) (at : ℕ) → Files → Type 0
Reaches name at files = (whole : List ℕ) × (get files name ≡ Some (settled_file whole)) × (at ≤ length whole)

written-shown : (files : Files) (name : List ℕ) (at : ℕ) (bytes old : List ℕ) → get files name ≡ Some (settled_file old) → at ≤ length old → (q : List ℕ) → get (all_applied (writing name at bytes) files) q ≡ cond (bytes_eq q name) (Some (settled_file (overwritten old at bytes))) (get files q)
written-shown files name at bytes old stands within q =
    ap (λ m. get m q) (adjusted_twice (file_written at bytes) file_synced files name)
    ∙ get-adjusted (λ file. file_synced (file_written at bytes file)) files name q
    ∙ ap (λ b. cond b (option_map (λ file. file_synced (file_written at bytes file)) (get files name)) (get files q)) (same_is q name)
    ∙ ap (λ o. cond (bytes_eq q name) (option_map (λ file. file_synced (file_written at bytes file)) o) (get files q)) stands
    ∙ ap (λ file. cond (bytes_eq q name) (Some file) (get files q)) (written_whole at bytes old within)

overwritten-twice : (at : ℕ) (bytes old : List ℕ) → at ≤ length old → overwritten (overwritten old at bytes) at bytes ≡ overwritten old at bytes
overwritten-twice at bytes old within =
    written_again at bytes old (overwritten old at bytes) within (torn_overwritten old bytes bytes at within (omega arith))

pub written-repeatable : (name : List ℕ) (at : ℕ) (bytes : List ℕ) (old : Files) → Reaches name at old → IsRepeatable (writing name at bytes) old
written-repeatable name at bytes old reaches =
    let calls = writing name at bytes in
    repeatable calls (λ files. Reaches name at files × AllSettled files)
    (λ attempts files left sound tried. written_once_more at bytes sound.0.0 sound.0.2 name attempts files left sound.0.1 sound.1 tried)
    (λ files sound.
    let held = sound.0 in
    let now = overwritten held.0 at bytes in
    let long = length-overwritten held.0 bytes at held.2 in
    let shown = written-shown files name at bytes held.0 held.1 held.2 in
    let stands : get (all_applied calls files) name ≡ Some (settled_file now) =
    shown name ∙ ap (λ b. cond b (Some (settled_file now)) (get files name)) (itself name) in
    let within : at ≤ length now = omega (arith, long, held.2) in (
      (
        (now, stands, within),
        all-settled (all_applied calls files)
            (settled-put none_loose files (all_applied calls files) name now shown (settled-but none_loose files sound.1)),
      ),
      same-files (all_applied calls (all_applied calls files)) (all_applied calls files)
          (λ q. written-shown (all_applied calls files) name at bytes now stands within q
          ∙ ap (λ o. cond (bytes_eq q name) (Some (settled_file (overwritten now at bytes))) o) (shown q)
          ∙ ap (λ v. cond (bytes_eq q name) (Some (settled_file v)) (cond (bytes_eq q name) (Some (settled_file now)) (get files q))) (overwritten-twice at bytes held.0 held.2)
          ∙ once (bytes_eq q name) (Some (settled_file now)) (get files q)
          ∙ sym (shown q)),
    ))
    old (λ settled. (reaches, settled))
