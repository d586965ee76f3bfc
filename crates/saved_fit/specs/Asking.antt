-- Words of bodies alone: the windows of clients, and the items of a subscription.
use Rattle.std.specs.Prelude.{◌≡◌, ◌≤◌, ◌+◌, ◌⊎◌, ℕ, nat_lt, true, false, List, [], length, map}
use Rattle.std.specs.List.Sorted.{IsPartitionPoint}
use Rattle.calls.specs.declared.saved.SavedSub.{SavedSub}
use Rattle.calls.specs.declared.saved.SavedWindow.{SavedWindow}

-- the clients that windows are of
abbrev pub clients_of : List SavedWindow → List ℕ
clients_of windows = map (λ (window : SavedWindow). window.client) windows

-- the windows before this place are those of lower clients, and no others
abbrev pub IsCutAt : (client place : ℕ) → List SavedWindow → Type 0
IsCutAt client place windows =
    IsPartitionPoint (λ (window : SavedWindow). nat_lt window.client client ≡ true)
    (λ (window : SavedWindow). nat_lt window.client client ≡ false) windows place

-- something is lost only while all places are taken
abbrev pub IsFull : ℕ → SavedSub → Type 0
IsFull capacity sub = (sub.lost ≡ []) ⊎ (length sub.held ≡ capacity)

-- items have places and numbers
pub record HasNumbers (number capacity : ℕ) (sub : SavedSub) : Type 0 where
  pub first : 1 ≤ sub.first
  pub places : length sub.held ≤ capacity
  pub numbers : sub.first + length sub.held ≤ number + 1
