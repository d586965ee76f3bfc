-- The bytes of the file that a record goes to.
use Rattle.std.proofs.Common.{◌≡◌, ℕ, ◌+◌, ◌-◌, ◌*◌, ◌/◌, ◌%◌, ◌<◌, ◌≤◌, List, [], ◌∷◌, ◌++◌, length, take, drop, refl, sym, ap, subst, ◌∙◌, arith, append-nil, length-drop}
use Rattle.std.specs.List.{concat}
use Rattle.std.proofs.lemmas.List.{take_all, drop_all, drop-append-le, length_push}
use Rattle.std.proofs.lemmas.List.Folds.{concat-append}
use Rattle.std.proofs.lemmas.Nat.{div-add-mod'}
use Rattle.std.proofs.Math.Nat.{mul-le-mul_right}
use Rattle.disk_model.specs.Disk.{overwritten}
use Rattle.stream_config.specs.declared.attrs.FullAction.{FullAction}
use Rattle.stream_config.specs.declared.attrs.FullAction.TheVariants.{Wrap, Halt, Rotate}
use Rattle.stream_config.specs.Events.{offset_in}
use Rattle.stream_layout.specs.LogFiles.{overlaid, records_from, records_in}
use Rattle.stream_layout.proofs.Rounds.{AreOfSize, length-concat, overwritten-concat, overlaid_more, overlaid_reaches, overlaid_sizes}

-- a number by its quotient and rest
divided : (n m : ℕ) → m ≡ m / n * n + m % n
divided n m = sym (div-add-mod' m n)

-- a record is put at its place in the bytes of its file
pub record IsPut (old : List (List ℕ)) (at : ℕ) (bytes : List ℕ) (new : List (List ℕ)) : Type 0 where
  pub within : at ≤ length (concat old)
  pub bytes_are : overwritten (concat old) at bytes ≡ concat new

-- among records of one size, at the place of a number
put_at : (size number : ℕ) (records new : List (List ℕ)) (bytes : List ℕ) → AreOfSize size records → length bytes ≡ size → number ≤ length records
    → new ≡ take number records ++ bytes ∷ drop (number + 1) records → IsPut records (number * size) bytes new
put_at size number records new bytes sizes whole within is =
    let long = length-concat size records sizes in
    record {
      within = subst (λ v. number * size ≤ v) (sym long) (mul-le-mul_right size within);
      bytes_are = overwritten-concat size number records bytes sizes whole within ∙ ap concat (sym is);
    }

-- in the one file of WRAP
put_over : (n size round k : ℕ) (records : List (List ℕ)) (bytes : List ℕ) → AreOfSize size records → length bytes ≡ size → k < n → length records ≡ round * n + k
    → IsPut (overlaid n records) (k * size) bytes (overlaid n (records ++ bytes ∷ []))
put_over n size round k records bytes sizes whole small is =
    put_at size k (overlaid n records) (overlaid n (records ++ bytes ∷ [])) bytes (overlaid_sizes size n records sizes) whole
    (overlaid_reaches n round k records small is) (overlaid_more n round k records bytes small is)

-- the records of the last file, and those with one more
pub records_from-last : (first : ℕ) (records : List (List ℕ)) → first ≤ length records → records_from first (length records) records ≡ drop first records
records_from-last first records within =
    take_all (length records - first) (drop first records) (let long = length-drop first records in omega (arith, long, within))

pub records_from-more : (first : ℕ) (records : List (List ℕ)) (bytes : List ℕ) → first ≤ length records
    → records_from first (length (records ++ bytes ∷ [])) (records ++ bytes ∷ []) ≡ records_from first (length records) records ++ bytes ∷ []
records_from-more first records bytes within =
    let all = records ++ bytes ∷ [] in
    let pushed : length all ≡ length records + 1 = length_push records bytes in
    records_from-last first all (omega (arith, pushed, within))
    ∙ drop-append-le first records (bytes ∷ []) within
    ∙ ap (λ rs. rs ++ bytes ∷ []) (sym (records_from-last first records within))

-- bytes put behind all others
put_end : (old bytes : List ℕ) → overwritten old (length old) bytes ≡ old ++ bytes
put_end old bytes =
    ap (λ front. front ++ bytes ++ drop (length old + length bytes) old) (take_all (length old) old (omega arith))
    ∙ ap (λ behind. old ++ bytes ++ behind) (drop_all (length old + length bytes) old (omega arith))
    ∙ append-nil (old ++ bytes)

put_last : (first at : ℕ) (records : List (List ℕ)) (bytes : List ℕ) → first ≤ length records → at ≡ length (concat (records_from first (length records) records))
    → IsPut (records_from first (length records) records) at bytes (records_from first (length (records ++ bytes ∷ [])) (records ++ bytes ∷ []))
put_last first at records bytes within is =
    let old = records_from first (length records) records in
    let more : concat (old ++ bytes ∷ []) ≡ concat old ++ bytes = concat-append old (bytes ∷ []) ∙ ap (λ behind. concat old ++ behind) (append-nil bytes) in
    record {
      within = omega (arith, is);
      bytes_are = ap (λ place. overwritten (concat old) place bytes) is ∙ put_end (concat old) bytes ∙ sym more ∙ ap concat (sym (records_from-more first records bytes within));
    }

-- the record that comes, where the file stays
pub put_record : (action : FullAction) (n size first bytes_before : ℕ) (records : List (List ℕ)) (bytes : List ℕ)
    → (action ≡ Wrap → (0 < n) × AreOfSize size records × (length bytes ≡ size)) → first ≤ length records
    → bytes_before ≡ length (concat (records_in action n first (length records) records))
    → IsPut (records_in action n first (length records) records) (offset_in action n size (length records) bytes_before) bytes
    (records_in action n first (length (records ++ bytes ∷ [])) (records ++ bytes ∷ []))
put_record Wrap n size first before records bytes alike within is =
    let sizes = alike refl in
    let some = sizes.0 in
    put_over n size (length records / n) (length records % n) records bytes sizes.1 sizes.2 (omega (arith, some)) (divided n (length records))
put_record Halt n size first before records bytes alike within is = put_last first before records bytes within is
put_record Rotate n size first before records bytes alike within is = put_last first before records bytes within is

-- the record with which a new file begins
pub file_begun_with : (records : List (List ℕ)) (bytes : List ℕ) → concat (records_from (length records) (length (records ++ bytes ∷ [])) (records ++ bytes ∷ [])) ≡ bytes
file_begun_with records bytes =
    let none : records_from (length records) (length records) records ≡ [] = records_from-last (length records) records (omega arith) ∙ drop_all (length records) records (omega arith) in
    ap concat (records_from-more (length records) records bytes (omega arith) ∙ ap (λ rs. rs ++ bytes ∷ []) none)
    ∙ append-nil bytes
