-- Words of public clauses, of tables of codes: which rows a table has, and that its names and its codes differ.
use Rattle.std.specs.Prelude.{◌≡◌, ℕ, Bool, true, not, ◌&&◌, ◌==◌, ◌⊎◌, List, [], ◌∷◌}
use Rattle.std.specs.List.{list_any}
use Rattle.std.specs.Str.{bytes_eq}
use Rattle.ais_values.specs.declared.codes.CodeRow.{CodeRow}

-- no element is the same as a later one
abbrev pub all_differ : {X : Type 0} → (X → X → Bool) → List X → Bool
all_differ same [] = true
all_differ same (x ∷ xs) = not (list_any (same x) xs) && all_differ same xs

-- some element has this key and this value
abbrev pub HasPair : {X K V : Type 0} → (X → K) → (X → V) → List X → K → V → Type 0
HasPair key value [] k v = ⊥
HasPair key value (x ∷ xs) k v = ((key x ≡ k) × (value x ≡ v)) ⊎ HasPair key value xs k v

-- whether the row has this code
abbrev pub has_code : {S : Type 0} → ℕ → CodeRow S → Bool
has_code code row = row.code == code

-- what follows takes the bytes of a name
module _ {S : Type 0} (text : S → List ℕ) where
  -- whether the row has this name
  abbrev pub has_name : List ℕ → CodeRow S → Bool
  has_name name row = bytes_eq (text row.name) name

  -- some row of the table pairs this name with this code
  abbrev pub HasRow : List (CodeRow S) → List ℕ → ℕ → Type 0
  HasRow rows name code = HasPair (λ row. text row.name) (λ row. row.code) rows name code

  -- no two rows of the table have one name, and no two have one code
  abbrev pub are_apart : List (CodeRow S) → Bool
  are_apart rows = all_differ (λ row. has_name (text row.name)) rows && all_differ (λ row. has_code row.code) rows
