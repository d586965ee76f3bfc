-- What is found after each changing call, and that a broken write done again leaves what one write leaves.
use Rattle.std.proofs.Common.{◌≡◌, ℕ, ◌+◌, ◌-◌, ◌<◌, ◌≤◌, Bool, true, false, cond, inl, inr, Some, None, option_map, List, [], ◌∷◌, length, get_or, refl, sym, ap, ◌∙◌, arith}
use Rattle.std.specs.Option.{option_map_or}
use Rattle.std.specs.Ordering.{nat_cmp, eq_by_cmp}
use Rattle.std.specs.Cmp.Lexicographic.{slice_cmp, nat_list_cmp_total}
use Rattle.std.specs.FinMap.{get, insert, remove, get-insert, get-remove}
use Rattle.std.proofs.lemmas.List.{ext_get_or, places}
use Rattle.disk_model.specs.Disk.{File, Files, empty_file, overwritten, adjusted, created, renamed, removed}
use Rattle.disk_model.specs.Failures.{Torn}
use Rattle.disk_model.proofs.Maps.{same_key, get-insert_same, insert_twice}
use Rattle.disk_model.proofs.Shelving.{names_differ}
use Rattle.disk_model.proofs.Tearing.{length-overwritten, overwritten_before, overwritten_behind, leb_cases, is_outside}

-- whether two names are equal
abbrev pub same_name : List ℕ → List ℕ → Bool
same_name q name = eq_by_cmp (slice_cmp nat_cmp) q name

-- after `create` the name has an empty file, and the other names have their files
pub get-created : (files : Files) (name q : List ℕ) → get (created files name) q ≡ cond (same_name q name) (Some empty_file) (get files q)
get-created files name q = get-insert nat_list_cmp_total files name empty_file q

-- after `remove` the name has no file, and the other names have their files
pub get-removed : (files : Files) (name q : List ℕ) → get (removed files name) q ≡ cond (same_name q name) None (get files q)
get-removed files name q = get-remove nat_list_cmp_total files name q

-- after `write_at` or `sync` the name has its file changed, and the other names have their files
pub get-adjusted : (change : File → File) (files : Files) (name q : List ℕ)
    → get (adjusted change files name) q ≡ cond (same_name q name) (option_map change (get files name)) (get files q)
get-adjusted change files name q =
    elim (get files name) as (λ f. get files name ≡ f
    → get (option_map_or (λ file. insert files name (change file)) f files) q ≡ cond (same_name q name) (option_map change f) (get files q)) [
      | None ↦ λ absent.
          elim (same_name q name) as (λ b. same_name q name ≡ b → get files q ≡ cond b None (get files q)) [
            | true ↦ λ e. ap (get files) (same_key nat_list_cmp_total names_differ q name e) ∙ absent
            | false ↦ λ e. refl
          ] refl
      | Some file ↦ λ stands. get-insert nat_list_cmp_total files name (change file) q
    ] refl

-- after `rename` the file stands under its new name, the old name has none, and the other names have their files
pub get-renamed : (files : Files) (from to q : List ℕ)
    → get (renamed files from to) q
    ≡ option_map_or (λ file. cond (same_name q to) (Some file) (cond (same_name q from) None (get files q))) (get files from) (get files q)
get-renamed files from to q =
    elim (get files from) as (λ f.
    get (option_map_or (λ file. insert (remove files from) to file) f files) q
    ≡ option_map_or (λ file. cond (same_name q to) (Some file) (cond (same_name q from) None (get files q))) f (get files q)) [
      | None ↦ refl
      | Some file ↦
          get-insert nat_list_cmp_total (remove files from) to file q
          ∙ ap (cond (same_name q to) (Some file)) (get-remove nat_list_cmp_total files from q)
    ]

-- a file changed twice is a file changed by both changes
pub adjusted_twice : (first second : File → File) (files : Files) (name : List ℕ)
    → adjusted second (adjusted first files name) name ≡ adjusted (λ file. second (first file)) files name
adjusted_twice first second files name =
    elim (get files name) as (λ f. get files name ≡ f
    → adjusted second (option_map_or (λ file. insert files name (first file)) f files) name
    ≡ option_map_or (λ file. insert files name (second (first file))) f files) [
      | None ↦ λ absent. rw absent refl
      | Some file ↦ λ stands.
          rw (get-insert_same nat_list_cmp_total names_differ files name (first file))
          (insert_twice nat_list_cmp_total names_differ files name (first file) (second (first file)))
    ] refl

-- what lies in the range of a write is what was written
overwritten_inside : (d s : List ℕ) (at place : ℕ) → at ≤ length d → at ≤ place → place < at + length s
    → get_or (overwritten d at s) place 0 ≡ get_or s (place - at) 0
overwritten_inside d s at place within from before = grind (arith, places)

-- a write that was broken off, done again, leaves the bytes that one write leaves
pub written_again : (at : ℕ) (bytes old left : List ℕ) → at ≤ length old
    → Torn ((at, length bytes) ∷ []) (length old) (length (overwritten old at bytes)) old left
    → overwritten left at bytes ≡ overwritten old at bytes
written_again at bytes old left within torn =
    let shorter = torn.no_shorter in
    let longer = torn.no_longer in
    let whole = length-overwritten old bytes at within in
    let again = length-overwritten left bytes at (omega arith) in
    ext_get_or 0 (overwritten left at bytes) (overwritten old at bytes) (omega arith) (λ place before.
    elim (leb_cases at place) [
      | inr front ↦
          overwritten_before left bytes at place (omega arith) front
          ∙ torn.kept place (omega arith) (is_outside at (length bytes) place (inl front))
          ∙ sym (overwritten_before old bytes at place within front)
      | inl from ↦
          elim (leb_cases (at + length bytes) place) [
            | inr inside ↦ overwritten_inside left bytes at place (omega arith) from inside ∙ sym (overwritten_inside old bytes at place within from inside)
            | inl behind ↦
                overwritten_behind left bytes at place (omega arith) behind
                ∙ torn.kept place (omega arith) (is_outside at (length bytes) place (inr behind))
                ∙ sym (overwritten_behind old bytes at place within behind)
          ]
    ])
