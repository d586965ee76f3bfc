-- Words of public clauses: what an event leads to: the state after it, and its lines, the last one first.
use Rattle.std.specs.Prelude.{List, [], ◌∷◌, ◌++◌}
use Rattle.cluster_events.specs.Lines.{Told}

pub record Outcome (S : Type 0) : Type 0 where
  pub state : S
  pub told : List Told

-- nothing is printed
abbrev pub quietly : {S : Type 0} → S → Outcome S
quietly state = record { state = state; told = [] }

-- the state stays, and one line is printed
abbrev pub telling : {S : Type 0} → S → Told → Outcome S
telling state line = record { state = state; told = line ∷ [] }

-- an outcome after another: what was told first stands behind
abbrev pub behind : {S : Type 0} → Outcome S → Outcome S → Outcome S
behind first outcome = record { state = outcome.state; told = outcome.told ++ first.told }

-- one event after another
abbrev pub and_then : {S : Type 0} → Outcome S → (S → Outcome S) → Outcome S
and_then outcome event =
    let next = event outcome.state in
    record { state = next.state; told = next.told ++ outcome.told }

-- an event for each element, from the first on
abbrev pub for_each : {S X : Type 0} → (X → S → Outcome S) → List X → S → Outcome S
for_each event [] state = quietly state
for_each event (x ∷ xs) state = and_then (event x state) (for_each event xs)
