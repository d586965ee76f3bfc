-- Words of bodies alone: reading on lists of bytes, in the shape of the grammar. A value is read with the bytes that follow it.
use Rattle.std.specs.Prelude.{ℕ, zero, suc, Bool, Option, Some, None, List, [], ◌∷◌, ◌==◌, length, option_and_then, option_map, if◌then◌else◌}
use Rattle.std.specs.Option.{option_map_or}

-- what follows the word, where the bytes begin with it
abbrev pub skipped : List ℕ → List ℕ → Option (List ℕ)
skipped [] bytes = Some bytes
skipped (w ∷ word) [] = None
skipped (w ∷ word) (b ∷ bytes) = if b == w then skipped word bytes else None

-- reads nothing
abbrev pub known : {X : Type 0} → X → List ℕ → Option (X × List ℕ)
known made bytes = Some (made, bytes)

-- reads what follows the word
abbrev pub word : {X : Type 0} → List ℕ → (List ℕ → Option (X × List ℕ)) → List ℕ → Option (X × List ℕ)
word w at bytes = option_and_then at (skipped w bytes)

-- reads a value, and by it what follows
abbrev pub part : {A X : Type 0} → (List ℕ → Option (A × List ℕ)) → (A → List ℕ → Option (X × List ℕ)) → List ℕ → Option (X × List ℕ)
part at next bytes = option_and_then (λ found. next found.0 found.1) (at bytes)

-- reads behind the first word that stands there
abbrev pub one_of : {X : Type 0} → List (List ℕ × (List ℕ → Option (X × List ℕ))) → List ℕ → Option (X × List ℕ)
one_of [] bytes = None
one_of (form ∷ forms) bytes = option_map_or form.1 (skipped form.0 bytes) (one_of forms bytes)

abbrev pub with_made : {A X : Type 0} → (A → X) → A × List ℕ → X × List ℕ
with_made made found = (made found.0, found.1)

-- reads behind the word where it stands, and else nothing
abbrev pub optional : {A X : Type 0} → X → (A → X) → List ℕ → (List ℕ → Option (A × List ℕ)) → List ℕ → Option (X × List ℕ)
optional absent made w at bytes = option_map_or (λ rest. option_map (with_made made) (at rest)) (skipped w bytes) (Some (absent, bytes))

abbrev pub passing : {X : Type 0} → (X → Bool) → X × List ℕ → Option (X × List ℕ)
passing test found = if test found.0 then Some found else None

-- reads a value that passes the test
abbrev pub such : {X : Type 0} → (X → Bool) → (List ℕ → Option (X × List ℕ)) → List ℕ → Option (X × List ℕ)
such test at bytes = option_and_then (passing test) (at bytes)

abbrev pub with_first : {X : Type 0} → X → List X × List ℕ → List X × List ℕ
with_first x found = (x ∷ found.0, found.1)

-- reads at most so many values, each behind a comma
abbrev pub behind_commas : {X : Type 0} → ℕ → (List ℕ → Option (X × List ℕ)) → List ℕ → Option (List X × List ℕ)
behind_commas zero at bytes = Some ([], bytes)
behind_commas (suc n) at bytes = option_map_or
    (λ rest. option_and_then (λ found. option_map (with_first found.0) (behind_commas n at found.1)) (at rest))
    (skipped (44 ∷ []) bytes)
    (Some ([], bytes))

-- reads one or more values, separated by commas
abbrev pub listed : {X : Type 0} → (List ℕ → Option (X × List ℕ)) → List ℕ → Option (List X × List ℕ)
listed at bytes = option_and_then (λ found. option_map (with_first found.0) (behind_commas (length bytes) at found.1)) (at bytes)

abbrev pub maybe : {X : Type 0} → List ℕ → (List ℕ → Option (X × List ℕ)) → List ℕ → Option (Option X × List ℕ)
maybe w at = optional None Some w at

abbrev pub unless : {X : Type 0} → X → List ℕ → (List ℕ → Option (X × List ℕ)) → List ℕ → Option (X × List ℕ)
unless absent w at = optional absent (λ x. x) w at

abbrev pub maybe_list : {X : Type 0} → List ℕ → (List ℕ → Option (X × List ℕ)) → List ℕ → Option (List X × List ℕ)
maybe_list w at = unless [] w (listed at)

abbrev pub alone : {X : Type 0} → X → List ℕ → Option X
alone x [] = Some x
alone x (b ∷ bytes) = None

-- reads a value behind which nothing follows
abbrev pub whole : {X : Type 0} → (List ℕ → Option (X × List ℕ)) → List ℕ → Option X
whole at bytes = option_and_then (λ found. alone found.0 found.1) (at bytes)
