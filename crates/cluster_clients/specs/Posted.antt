-- Words of public clauses: messages that are posted one after another.
use Rattle.std.specs.Prelude.{◌≡◌, ℕ, List, [], ◌∷◌, ◌++◌, take}
use Rattle.cluster_facts.specs.Types.{Message}
use Rattle.cluster_facts.specs.Service.{Plain, IsPlain}
use Rattle.cluster_facts.specs.Messages.{Posting}
use Rattle.cluster_facts.specs.World.{posted}
use Rattle.cluster_events.specs.Lines.{Told}
use Rattle.cluster_events.specs.ClientEvents.{post_lines}
use Rattle.event_text.specs.Texts.{printed}
use Rattle.cluster_clients.specs.Spelled.{AreSpelled}

-- messages are posted, from the first on: the net, and the lines
abbrev pub posted_all : Plain → List Message → List Posting → List Posting
posted_all plain [] net = net
posted_all plain (message ∷ messages) net = posted_all plain messages (posted plain message net)

abbrev pub lines_all : Plain → List Message → List Posting → List Told
lines_all plain [] net = []
lines_all plain (message ∷ messages) net =
    lines_all plain messages (posted plain message net) ++ post_lines plain message net

abbrev pub PostsAll : List Message → List (List ℕ) → List (List ℕ) → List (List ℕ) → List (List ℕ) → Type 0
PostsAll messages old new before after =
    (plain : Plain) (net : List Posting) → IsPlain plain → AreSpelled net old → AreSpelled (posted_all plain messages net) new
    × (after ≡ before ++ printed (lines_all plain messages net))

-- some messages were posted, from the first on
abbrev pub PostsSome : List Message → List (List ℕ) → List (List ℕ) → Type 0
PostsSome messages old new =
    (plain : Plain) (net : List Posting) → IsPlain plain → AreSpelled net old → (count : ℕ)
    × AreSpelled (posted_all plain (take count messages) net) new
