-- Words of bodies alone: byte strings that are read.
use Rattle.std.specs.Prelude.{◌≡◌, ℕ, List}
use Rattle.wire.specs.declared.message.WireWhy.{WireWhy}
use Rattle.wire.specs.Messages.{Spells, IsRefusedAt}
use Rattle.cluster_clients.specs.declared.fetching.Fetched.{Fetched}
use Rattle.cluster_clients.specs.declared.fetching.Fetched.TheVariants.{Whole, Bad}

-- what the bytes are read as: their message; or, where no message spells them, how many of them are the front of a spelling and
-- what is wrong there, and nothing else
abbrev pub IsReadAs : List ℕ → Fetched → Type 0
IsReadAs bytes (Whole message) = Spells message bytes
IsReadAs bytes (Bad front why) =
    IsRefusedAt bytes front why
    × ((other : ℕ) (reason : WireWhy) → IsRefusedAt bytes other reason → (other ≡ front) × (reason ≡ why))
