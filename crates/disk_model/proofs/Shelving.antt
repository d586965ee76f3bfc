-- A list of entries whose names rise, seen as the map of those entries.
use Rattle.std.proofs.Common.{◌≡◌, Bool, true, false, cond, not, Some, None, List, [], map, length, Result, Ok, Err, OnOk, OnErr, refl, sym, ap, ◌∙◌}
use Rattle.std.specs.declared.cmp.Ordering.{Ordering}
use Rattle.std.specs.Ordering.{is_eq, eq_by_cmp, nat_cmp}
use Rattle.std.specs.Cmp.{IsTotalOrder, alike_right, eq_by_cmp_equiv}
use Rattle.std.specs.Cmp.Lexicographic.{slice_cmp}
use Rattle.std.specs.FinMap.{IsAntisymmetric, slice_cmp-IsAntisymmetric, nat_cmp-IsAntisymmetric, get, insert, remove, from_sorted, same_entries_map, entries-insert, entries-from_sorted, get-from_sorted, get-remove, same_map, keys, empty, empty_of_len, len-entries}
use Rattle.std.specs.Option.{option_map_or}
use Rattle.std.specs.FinMap.Entries.{put, find, is_sorted, is_sorted-put, is_sorted-where_key, find-where_key}
use Rattle.std.proofs.lemmas.Float.{T_from_true}
use Rattle.disk_model.specs.Shelf.{without, adjusted_in}
use Rattle.ais_values.proofs.Basics.{true_from_T}

-- names tie only where they are equal
pub names_differ : IsAntisymmetric (slice_cmp nat_cmp)
names_differ = slice_cmp-IsAntisymmetric nat_cmp-IsAntisymmetric

turned : {Y : Type 0} (b : Bool) (x y : Y) → cond (not b) x y ≡ cond b y x
turned true x y = refl
turned false x y = refl

module _ {K X : Type 0} {R : K → K → Ordering} (o : IsTotalOrder R) (same : IsAntisymmetric R) where
  -- an entry put in its place keeps the list rising
  pub sorted_put : (k : K) (v : X) (es : List (K × X)) → is_sorted R es ≡ true → is_sorted R (put R k v es) ≡ true
  sorted_put k v es sorted = true_from_T _ (is_sorted-put R o k v es (T_from_true _ sorted))

  -- entries left out keep the list rising
  pub sorted_without : (k : K) (es : List (K × X)) → is_sorted R es ≡ true → is_sorted R (without R k es) ≡ true
  sorted_without k es sorted = true_from_T _ (is_sorted-where_key R (λ x. not (eq_by_cmp R k x)) es (T_from_true _ sorted))

  -- what is found in the map is found in the list
  pub find_shelved : (k : K) (es : List (K × X)) → is_sorted R es ≡ true → get (from_sorted {R = R} es) k ≡ find R k es
  find_shelved k es sorted = get-from_sorted R es k (T_from_true _ sorted)

  -- an entry put in its place is put into the map
  pub put_shelved : (k : K) (v : X) (es : List (K × X)) → is_sorted R es ≡ true
      → from_sorted {R = R} (put R k v es) ≡ insert (from_sorted es) k v
  put_shelved k v es sorted = same_entries_map _ _
      (entries-from_sorted R (put R k v es) (is_sorted-put R o k v es (T_from_true _ sorted))
      ∙ ap (put R k v) (sym (entries-from_sorted R es (T_from_true _ sorted)))
      ∙ sym (entries-insert o (from_sorted es) k v))

  -- entries left out are removed from the map
  pub without_shelved : (k : K) (es : List (K × X)) → is_sorted R es ≡ true
      → from_sorted {R = R} (without R k es) ≡ remove (from_sorted es) k
  without_shelved k es sorted = same_map o same _ _ (λ q.
      get-from_sorted R (without R k es) q (is_sorted-where_key R (λ x. not (eq_by_cmp R k x)) es (T_from_true _ sorted))
      ∙ find-where_key R (λ x. not (eq_by_cmp R k x)) q (λ x t. ap (λ r. not (is_eq r)) (sym (alike_right o q x k t))) es
      ∙ turned (eq_by_cmp R k q) (find R q es) None
      ∙ ap (λ b. cond b None (find R q es)) ((eq_by_cmp_equiv o).symm k q)
      ∙ ap (cond (eq_by_cmp R q k) None) (sym (get-from_sorted R es q (T_from_true _ sorted)))
      ∙ sym (get-remove o (from_sorted es) k q))

  -- the keys of the map are those of the list
  pub keys_shelved : (es : List (K × X)) → is_sorted R es ≡ true → keys (from_sorted {R = R} es) ≡ map (λ e. e.0) es
  keys_shelved es sorted = ap (map (λ e. e.0)) (entries-from_sorted R es (T_from_true _ sorted))

  -- the value at a key changed in the list is changed in the map
  pub sorted_adjusted : (change : X → X) (k : K) (es : List (K × X)) → is_sorted R es ≡ true → is_sorted R (adjusted_in R change k es) ≡ true
  sorted_adjusted change k es sorted =
      elim (find R k es) as (λ v. is_sorted R (option_map_or (λ v. put R k (change v) es) v es) ≡ true) [
        | None ↦ sorted
        | Some v ↦ sorted_put k (change v) es sorted
      ]

  pub adjusted_shelved : (change : X → X) (k : K) (es : List (K × X)) → is_sorted R es ≡ true
      → from_sorted {R = R} (adjusted_in R change k es)
      ≡ option_map_or (λ v. insert (from_sorted {R = R} es) k (change v)) (get (from_sorted {R = R} es) k) (from_sorted {R = R} es)
  adjusted_shelved change k es sorted =
      elim (find R k es) as (λ f. from_sorted {R = R} (option_map_or (λ v. put R k (change v) es) f es)
      ≡ option_map_or (λ v. insert (from_sorted {R = R} es) k (change v)) f (from_sorted {R = R} es)) [
        | None ↦ refl
        | Some v ↦ put_shelved k (change v) es sorted
      ]
      ∙ ap (λ f. option_map_or (λ v. insert (from_sorted {R = R} es) k (change v)) f (from_sorted {R = R} es)) (sym (find_shelved k es sorted))

-- no entries are no files
pub no_entries : {K X : Type 0} (R : K → K → Ordering) → from_sorted {X = X} {R = R} [] ≡ empty
no_entries R = empty_of_len (from_sorted []) (len-entries (from_sorted []) ∙ ap length (entries-from_sorted R [] tt))

-- what follows from both outcomes of a call
pub either_way : {V E A B C : Type 0} (r : Result V E) → OnOk r A → OnErr r B → (A → C) → (B → C) → C
either_way (Ok v) a b f g = f a
either_way (Err e) a b f g = g b
