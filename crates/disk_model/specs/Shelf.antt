-- Words of the bodies alone: entries in a list, in the order of their keys.
use Rattle.std.specs.Prelude.{◌≡◌, ℕ, suc, ◌<◌, ◌≤◌, not, List, [], ◌∷◌, length, slice_index_or, slice_set, if◌then◌else◌, Some, None}
use Rattle.std.specs.List.{insert, remove}
use Rattle.std.specs.Option.{option_map_or}
use Rattle.std.specs.declared.cmp.Ordering.{Ordering}
use Rattle.std.specs.Ordering.{is_lt, eq_by_cmp}
use Rattle.std.specs.FinMap.Entries.{where_key, find, put}

-- how many entries at the front have keys below k
abbrev pub place_of : {K X : Type 0} → (K → K → Ordering) → K → List (K × X) → ℕ
place_of R k [] = 0
place_of R k (e ∷ es) = if is_lt (R e.0 k) then suc (place_of R k es) else 0

-- the entries whose keys do not tie with k
abbrev pub without : {K X : Type 0} → (K → K → Ordering) → K → List (K × X) → List (K × X)
without R k es = where_key R (λ x. not (eq_by_cmp R k x)) es

-- the key stands at this place: what is found there, put there, and left out there
pub record KeyStandsAt {K X : Type 0} (R : K → K → Ordering) (k : K) (es : List (K × X)) (i : ℕ) : Type 0 where
  pub within : i < length es
  pub found : (d : K × X) → find R k es ≡ Some (slice_index_or es i d).1
  pub put_is : (v : X) (d : K × X) → put R k v es ≡ slice_set es i ((slice_index_or es i d).0, v)
  pub without_is : without R k es ≡ remove es i

-- the key does not stand, and would stand at this place
pub record KeyLacksAt {K X : Type 0} (R : K → K → Ordering) (k : K) (es : List (K × X)) (i : ℕ) : Type 0 where
  pub within : i ≤ length es
  pub missing : find R k es ≡ None
  pub put_is : (v : X) → put R k v es ≡ insert es i (k, v)
  pub without_is : without R k es ≡ es

-- the value at a key changed; nothing changes where the key does not stand
abbrev pub adjusted_in : {K X : Type 0} → (K → K → Ordering) → (X → X) → K → List (K × X) → List (K × X)
adjusted_in R change k es = option_map_or (λ v. put R k (change v) es) (find R k es) es
