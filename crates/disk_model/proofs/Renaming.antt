-- A file that is given another name.
use Rattle.std.proofs.Common.{◌≡◌, ◌≢◌, true, false, Option, Some, None, Result, Ok, Err, OnErr, IsOk, IsSome, is_some, is_none, List, ℕ, Bor, refl, sym, ap, ◌∙◌}
use Rattle.std.specs.Option.{option_copied}
use Rattle.std.specs.Cmp.Lexicographic.{nat_list_cmp_total}
use Rattle.std.specs.FinMap.{get, insert, remove}
use Rattle.disk_model.specs.Disk.{File, Files, renamed}
use Rattle.disk_model.proofs.Maps.{get-insert_same, get-insert_other, get-remove_other, insert_standing, insert-remove, insert_twice, remove-insert_other}
use Rattle.disk_model.proofs.Shelving.{names_differ}

-- a file that is absent is not renamed
pub renamed_absent : (m : Files) (from to : List ℕ) → get m from ≡ None → renamed m from to ≡ m
renamed_absent m from to absent = rw absent refl

-- a file that stands is found under its new name, and no longer under the old one
pub renamed_standing : (m : Files) (from to : List ℕ) (file : File) → get m from ≡ Some file → renamed m from to ≡ insert (remove m from) to file
renamed_standing m from to file stands = rw stands refl

-- to give a file its own name changes nothing
pub renamed_itself : (m : Files) (name : List ℕ) → renamed m name name ≡ m
renamed_itself m name =
    elim (get m name) as (λ f. get m name ≡ f → renamed m name name ≡ m) [
      | None ↦ λ e. renamed_absent m name name e
      | Some file ↦ λ e.
          renamed_standing m name name file e ∙ insert-remove nat_list_cmp_total names_differ m name file
          ∙ insert_standing nat_list_cmp_total names_differ m name file e
    ] refl

-- a file stays where a place is made for its new name
pub still_stands : (m : Files) (from to : List ℕ) (v : File) → from ≢ to → get (insert m to v) from ≡ get m from
still_stands m from to v n = get-insert_other nat_list_cmp_total names_differ m to v from n

-- a place is made for the new name, the file is taken out, and put there
pub renamed_is : (m : Files) (from to : List ℕ) (v file : File) → from ≢ to → get (insert m to v) from ≡ Some file
    → insert (remove (insert m to v) from) to file ≡ renamed m from to
renamed_is m from to v file n found =
    ap (λ x. insert x to file) (remove-insert_other nat_list_cmp_total names_differ m to from v (λ e. n (sym e)))
    ∙ insert_twice nat_list_cmp_total names_differ (remove m from) to v file
    ∙ sym (renamed_standing m from to file (sym (still_stands m from to v n) ∙ found))

-- the place that was made stands when the file was taken out
pub place_stands : (m : Files) (from to : List ℕ) (v : File) → from ≢ to → IsSome (get (remove (insert m to v) from) to)
place_stands m from to v n =
    ap is_some (get-remove_other nat_list_cmp_total names_differ (insert m to v) from to (λ e. n (sym e))
    ∙ get-insert_same nat_list_cmp_total names_differ m to v)

-- a file that stands is not lost where a place is made
pub not_lost : (m : Files) (from to : List ℕ) (v : File) → from ≢ to → is_none (get m from) ≡ false → get (insert m to v) from ≢ None
not_lost m from to v n stands gone =
    let is : is_none (get m from) ≡ true = ap is_none (sym (still_stands m from to v n) ∙ gone) in cc

-- a call that is done has no error to tell of
pub no_error : {V E : Type 0} (P : Type 0) (r : Result V E) → IsOk r → OnErr r P
no_error P (Ok v) h = tt
no_error P (Err e) h = cc

-- what is told of a look-up that found nothing, and of one that found something
pub copied_none : {X : Type 0} (o : Option (Bor X)) (m : Option X) → is_some o ≡ false → option_copied o ≡ m → m ≡ None
copied_none None m h e = sym e
copied_none (Some x) m h e = cc

pub copied_some : {X : Type 0} (o : Option (Bor X)) (m : Option X) → is_some o ≡ true → option_copied o ≡ m → is_none m ≡ false
copied_some None m h e = cc
copied_some (Some x) m h e = ap is_none (sym e)
