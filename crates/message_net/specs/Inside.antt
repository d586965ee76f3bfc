-- Words of bodies alone: how a net is kept, in a set that keeps the order in which its strings came, with the places of strings by their fronts.
use Rattle.std.specs.Prelude.{◌≡◌, ℕ, ⊤, nat_eq, Option, List, [], ◌∷◌, length, map, reverse}
use Rattle.std.specs.Global.{Vec}
use Rattle.std.specs.HashMap.{get}
use Rattle.message_net.specs.declared.net.Net.TheInside.{Inside}
use Rattle.message_net.specs.Nets.{front_of, newest_with}

abbrev pub net_from : List (Vec ℕ) → List (List ℕ)
net_from strings = reverse (map (λ (bytes : Vec ℕ). bytes.items) strings)

abbrev pub net_of : Inside → List (List ℕ)
net_of inside = net_from inside.strings.keys

-- beside each string, the oldest first, stands where the newest one of its front stood as it came; the net had these before
abbrev pub AreOlder : List (List ℕ) → List (Vec ℕ) → List (Option ℕ) → Type 0
AreOlder net [] [] = ⊤
AreOlder net [] (place ∷ older) = ⊥
AreOlder net (string ∷ strings) [] = ⊥
AreOlder net (string ∷ strings) (place ∷ older) =
    (place ≡ newest_with (front_of string.items) net) × AreOlder (string.items ∷ net) strings older

-- each front has the place of its newest string
abbrev pub AreNewest : (ℕ → Option ℕ) → List (Vec ℕ) → Type 0
AreNewest newest strings = (front : ℕ) → newest front ≡ newest_with front (net_from strings)

pub record AreFound (strings : List (Vec ℕ)) (places : ℕ → Option ℕ) (others : List (Option ℕ)) : Type 0 where
  pub newest : AreNewest places strings
  pub count : length others ≡ length strings
  pub older : AreOlder [] strings others

abbrev pub IsFound : Inside → Type 0
IsFound inside = AreFound inside.strings.keys (get nat_eq inside.newest) inside.older.items
