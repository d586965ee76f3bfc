-- Lists of which the first so many elements are changed.
use Rattle.std.proofs.Common.{◌≡◌, ℕ, zero, suc, ◌<◌, List, [], ◌∷◌, length, map, get_or, set, refl, ap, arith}

-- the list of which the function has changed the first so many elements
abbrev pub changed_front : {X : Type 0} → (X → X) → ℕ → List X → List X
changed_front change zero xs = xs
changed_front change (suc n) [] = []
changed_front change (suc n) (x ∷ xs) = change x ∷ changed_front change n xs

module _ {X : Type 0} (change : X → X) where
  pub length-changed_front : (n : ℕ) (xs : List X) → length (changed_front change n xs) ≡ length xs
  length-changed_front zero xs = refl
  length-changed_front (suc n) [] = refl
  length-changed_front (suc n) (x ∷ xs) = ap (λ k. suc k) (length-changed_front n xs)

  -- the next element is not changed yet
  pub get_or-next : (n : ℕ) (xs : List X) (d : X) → get_or (changed_front change n xs) n d ≡ get_or xs n d
  get_or-next zero xs d = refl
  get_or-next (suc n) [] d = refl
  get_or-next (suc n) (x ∷ xs) d = get_or-next n xs d

  -- one element more is changed
  pub set-next : (n : ℕ) (xs : List X) (d : X) → n < length xs → set (changed_front change n xs) n (change (get_or xs n d)) ≡ changed_front change (suc n) xs
  set-next n [] d within = absurd (omega arith)
  set-next zero (x ∷ xs) d within = refl
  set-next (suc n) (x ∷ xs) d within = ap (λ ys. change x ∷ ys) (set-next n xs d (omega arith))

  -- all are changed
  pub changed_front-all : (n : ℕ) (xs : List X) → n ≡ length xs → changed_front change n xs ≡ map change xs
  changed_front-all zero [] all = refl
  changed_front-all zero (x ∷ xs) all = absurd (omega arith)
  changed_front-all (suc n) [] all = absurd (omega arith)
  changed_front-all (suc n) (x ∷ xs) all = ap (λ ys. change x ∷ ys) (changed_front-all n xs (omega arith))
