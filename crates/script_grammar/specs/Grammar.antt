-- Words of public clauses: how grammars are put together. A grammar relates values to the texts that spell them.
use Rattle.std.specs.Prelude.{◌≡◌, ℕ, ◌⊎◌, Option, Some, None, List, [], ◌∷◌, ◌++◌}

-- nothing stands, and the value is this one
abbrev pub Known : {X : Type 0} → X → X → List ℕ → Type 0
Known made x text = (x ≡ made) × (text ≡ [])

-- the word stands first, and behind it what P spells
abbrev pub Word : {X : Type 0} → List ℕ → (X → List ℕ → Type 0) → X → List ℕ → Type 0
Word word P x text = (rest : List ℕ) × (text ≡ word ++ rest) × P x rest

-- a text of some value stands first, and behind it what P of that value spells
abbrev pub Part : {A X : Type 0} → (A → List ℕ → Type 0) → (A → X → List ℕ → Type 0) → X → List ℕ → Type 0
Part {A} S P x text = (a : A) × (front : List ℕ) × (rest : List ℕ) × (text ≡ front ++ rest) × S a front × P a x rest

-- one of the forms, each by its word and what stands behind the word
abbrev pub OneOf : {X : Type 0} → List (List ℕ × (X → List ℕ → Type 0)) → X → List ℕ → Type 0
OneOf [] x text = ⊥
OneOf (form ∷ forms) x text = Word form.0 form.1 x text ⊎ OneOf forms x text

-- nothing stands, and the value is the absent one; or the word stands and a text of some value, of which the value is made
abbrev pub Optional : {A X : Type 0} → X → (A → X) → List ℕ → (A → List ℕ → Type 0) → X → List ℕ → Type 0
Optional {A} absent made word S x text =
    Known absent x text ⊎ ((a : A) × (own : List ℕ) × (x ≡ made a) × (text ≡ word ++ own) × S a own)

-- a value of which something holds
abbrev pub Such : {X : Type 0} → (X → Type 0) → (X → List ℕ → Type 0) → X → List ℕ → Type 0
Such Holds S x text = Holds x × S x text

-- any number of values, each behind a comma
abbrev pub BehindCommas : {X : Type 0} → (X → List ℕ → Type 0) → List X → List ℕ → Type 0
BehindCommas S [] text = text ≡ []
BehindCommas S (x ∷ xs) text = (front : List ℕ) × (rest : List ℕ) × (text ≡ 44 ∷ front ++ rest) × S x front × BehindCommas S xs rest

-- one or more values, separated by commas
abbrev pub Listed : {X : Type 0} → (X → List ℕ → Type 0) → List X → List ℕ → Type 0
Listed S [] text = ⊥
Listed S (x ∷ xs) text = (front : List ℕ) × (rest : List ℕ) × (text ≡ front ++ rest) × S x front × BehindCommas S xs rest

-- the word and a value, or nothing
abbrev pub Maybe : {X : Type 0} → List ℕ → (X → List ℕ → Type 0) → Option X → List ℕ → Type 0
Maybe word S = Optional None Some word S

-- the word and a value, or nothing for the value that is meant where nothing stands
abbrev pub Unless : {X : Type 0} → X → List ℕ → (X → List ℕ → Type 0) → X → List ℕ → Type 0
Unless absent word S = Optional absent (λ x. x) word S

-- the word and one or more values, or nothing for the empty list
abbrev pub MaybeList : {X : Type 0} → List ℕ → (X → List ℕ → Type 0) → List X → List ℕ → Type 0
MaybeList word S = Unless [] word (Listed S)
