-- Words of public clauses: words on lists whose newest element comes first.
use Rattle.std.specs.Prelude.{◌≡◌, ℕ, suc, ◌==◌, if◌then◌else◌, List, [], ◌∷◌, ◌++◌, length}
pub use Rattle.client_set.specs.Members.{Stands}
pub use Rattle.client_set.specs.Rising.{put, without}

-- the list begins, at its oldest end, with the elements of old
abbrev pub EndsIn : {X : Type 0} → List X → List X → Type 0
EndsIn {X} new old = (more : List X) × (new ≡ more ++ old)

-- the oldest element has the number 1, and each newer one the next
abbrev pub IsNumbered : {X : Type 0} → List (ℕ × X) → Type 0
IsNumbered [] = Unit {0}
IsNumbered (x ∷ xs) = (x.0 ≡ suc (length xs)) × IsNumbered xs

-- how many pairs have this key, and the pairs of a key count 1, 2, 3 and so on
abbrev pub count_of : ℕ → List (ℕ × ℕ) → ℕ
count_of key [] = 0
count_of key (mark ∷ marks) = if mark.0 == key then suc (count_of key marks) else count_of key marks

abbrev pub IsCounted : List (ℕ × ℕ) → Type 0
IsCounted [] = Unit {0}
IsCounted (mark ∷ marks) = (mark.1 ≡ suc (count_of mark.0 marks)) × IsCounted marks
