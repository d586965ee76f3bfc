-- What the first row of a name or of a code says, on a table whose names and codes differ.
use Rattle.std.proofs.Common.{◌≡◌, ℕ, Bool, true, false, not, cond, List, [], ◌∷◌, Some, None, refl, sym, ap, ◌∙◌, inl, inr, ⊎_elim}
use Rattle.std.specs.Prelude.{◌↔◌}
use Rattle.std.specs.Bool.{Decides}
use Rattle.std.specs.List.{list_any, find}
use Rattle.std.proofs.lemmas.Slice.Eq.{bytes_eq-Decides}
use Rattle.std.proofs.lemmas.Bool.Decides.{Decides-eqb}
use Rattle.std.proofs.lemmas.Bool.{and_parts, not-true, or_right}
use Rattle.ais_values.specs.declared.codes.CodeRow.{CodeRow}
use Rattle.ais_values.specs.Codes.{all_differ, HasPair, HasRow, are_apart, has_name, has_code}

-- elements with a key and a value, and a test that finds a key
module _ {X K V : Type 0} (key : X → K) (value : X → V) (is : K → X → Bool) (decides : (k : K) (x : X) → Decides (is k x) (key x ≡ k)) where
  abbrev Pairs : List X → K → V → Type 0
  Pairs = HasPair key value

  any_from_HasPair : (xs : List X) (k : K) (v : V) → Pairs xs k v → list_any (is k) xs ≡ true
  any_from_HasPair [] k v h = absurd h
  any_from_HasPair (x ∷ xs) k v (inl p) = rw ((decides k x).1 p.0) refl
  any_from_HasPair (x ∷ xs) k v (inr q) = or_right (is k x) (list_any (is k) xs) (any_from_HasPair xs k v q)

  -- the first element of the key has the one value that is paired with it
  pub first_of_key : (xs : List X) (k : K) (x : X) → all_differ (λ a. is (key a)) xs ≡ true → find (is k) xs ≡ Some x → (v : V) → (value x ≡ v) ↔ Pairs xs k v
  first_of_key [] k x apart found v = cc
  first_of_key (a ∷ xs) k x apart found v =
      let parts = and_parts (not (list_any (is (key a)) xs)) (all_differ (λ a. is (key a)) xs) apart in
      let later : list_any (is (key a)) xs ≡ false = not-true (list_any (is (key a)) xs) parts.0 in
      let at : (b : Bool) → is k a ≡ b → cond b (Some a) (find (is k) xs) ≡ Some x → (value x ≡ v) ↔ Pairs (a ∷ xs) k v = elim [
        | true ↦ λ test here.
            let same : a ≡ x = cc in
            let its : key a ≡ k = (decides k a).0 test in (
              λ e. inl (its, ap value same ∙ e),
              ⊎_elim (λ p. sym (ap value same) ∙ p.1)
                  (λ q. let again = any_from_HasPair xs k v q in let here_too = ap (λ l. list_any (is l) xs) its in absurd (cc)),
            )
        | false ↦ λ test here.
            let rest = first_of_key xs k x parts.1 here v in
            (λ e. inr (rest.0 e), ⊎_elim (λ p. let yes = (decides k a).1 p.0 in absurd (cc)) rest.1)
      ] in
      at (is k a) refl found

  -- where no element has the key nothing is paired with it
  pub none_of_key : (xs : List X) (k : K) (v : V) → find (is k) xs ≡ None → Pairs xs k v → ⊥
  none_of_key [] k v h p = p
  none_of_key (a ∷ xs) k v h p =
      let at : (b : Bool) → is k a ≡ b → cond b (Some a) (find (is k) xs) ≡ None → ⊥ = elim [
        | true ↦ λ test here. cc
        | false ↦ λ test here.
            ⊎_elim (λ q. let yes = (decides k a).1 q.0 in cc) (λ q. none_of_key xs k v here q) p
      ] in
      at (is k a) refl h

-- a key with its value is a value with its key
pub HasPair-swapped : {X K V : Type 0} (key : X → K) (value : X → V) (xs : List X) (k : K) (v : V) → HasPair key value xs k v ↔ HasPair value key xs v k
HasPair-swapped key value [] k v = (λ h. h, λ h. h)
HasPair-swapped key value (x ∷ xs) k v =
    let rest = HasPair-swapped key value xs k v in
    (⊎_elim (λ p. inl (p.1, p.0)) (λ q. inr (rest.0 q)), ⊎_elim (λ p. inl (p.1, p.0)) (λ q. inr (rest.1 q)))

-- the rows of a table whose names and codes differ
module _ {S : Type 0} (text : S → List ℕ) (rows : List (CodeRow S)) (apart : are_apart text rows ≡ true) where
  abbrev parts : (all_differ (λ row. has_name text (text row.name)) rows ≡ true) × (all_differ (λ row. has_code row.code) rows ≡ true)
  parts = and_parts (all_differ (λ row. has_name text (text row.name)) rows) (all_differ (λ row. has_code row.code) rows) apart

  -- the first row of a name has its code
  pub code_from_name : (name : List ℕ) (row : CodeRow S) → find (has_name text name) rows ≡ Some row → (code : ℕ) → (row.code ≡ code) ↔ HasRow text rows name code
  code_from_name name row found code =
      first_of_key (λ r. text r.name) (λ r. r.code) (has_name text) (λ k r. bytes_eq-Decides (text r.name) k) rows name row parts.0 found code

  pub no_name : (name : List ℕ) → find (has_name text name) rows ≡ None → (code : ℕ) → ¬ HasRow text rows name code
  no_name name none code =
      none_of_key (λ r. text r.name) (λ r. r.code) (has_name text) (λ k r. bytes_eq-Decides (text r.name) k) rows name code none

  -- the first row of a code has its name
  pub name_from_code : (code : ℕ) (row : CodeRow S) → find (has_code code) rows ≡ Some row → (name : List ℕ) → (text row.name ≡ name) ↔ HasRow text rows name code
  name_from_code code row found name =
      let swap = HasPair-swapped (λ (r : CodeRow S). r.code) (λ (r : CodeRow S). text r.name) rows code name in
      let here = first_of_key (λ r. r.code) (λ r. text r.name) has_code (λ k r. Decides-eqb r.code k) rows code row parts.1 found name in
      (λ e. swap.0 (here.0 e), λ h. here.1 (swap.1 h))

  pub no_code : (code : ℕ) → find (has_code code) rows ≡ None → (name : List ℕ) → ¬ HasRow text rows name code
  no_code code none name h =
      let swap = HasPair-swapped (λ (r : CodeRow S). r.code) (λ (r : CodeRow S). text r.name) rows code name in
      none_of_key (λ r. r.code) (λ r. text r.name) has_code (λ k r. Decides-eqb r.code k) rows code name none (swap.1 h)
