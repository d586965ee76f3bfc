-- Words of public clauses: a net, the byte strings that were posted, the newest first, each once. The first that was posted has the place 1.
use Rattle.std.specs.Prelude.{ℕ, suc, ◌+◌, ◌*◌, Bool, false, ◌||◌, ◌==◌, if◌then◌else◌, Option, Some, None, List, [], ◌∷◌, length}
use Rattle.std.specs.Str.{bytes_eq}

-- whether these bytes stand in the net
abbrev pub knows : List ℕ → List (List ℕ) → Bool
knows bytes [] = false
knows bytes (known ∷ net) = bytes_eq bytes known || knows bytes net

-- bytes are posted: the net gets them once
abbrev pub posted : List ℕ → List (List ℕ) → List (List ℕ)
posted bytes net = if knows bytes net then net else bytes ∷ net

-- the bytes at a place
abbrev pub bytes_at : ℕ → List (List ℕ) → Option (List ℕ)
bytes_at place [] = None
bytes_at place (known ∷ net) = if place == suc (length net) then Some known else bytes_at place net

-- the place of these bytes
abbrev pub place_of : List ℕ → List (List ℕ) → Option ℕ
place_of bytes [] = None
place_of bytes (known ∷ net) = if bytes_eq bytes known then Some (suc (length net)) else place_of bytes net

-- how a string begins, by its first seven bytes; 0 where there are fewer
abbrev pub front_of : List ℕ → ℕ
front_of (a ∷ b ∷ c ∷ d ∷ e ∷ f ∷ g ∷ bytes) =
    (((((a * 256 + b) * 256 + c) * 256 + d) * 256 + e) * 256 + f) * 256 + g
front_of bytes = 0

-- the place of the newest string of this front
abbrev pub newest_with : ℕ → List (List ℕ) → Option ℕ
newest_with front [] = None
newest_with front (bytes ∷ net) =
    if front_of bytes == front then Some (suc (length net)) else newest_with front net

-- the net before the string at this place was posted
abbrev pub net_before : ℕ → List (List ℕ) → List (List ℕ)
net_before place [] = []
net_before place (known ∷ net) = if place == suc (length net) then net else net_before place net
