-- Words of laws: what hearing a message did is told by the lengths of history and net.
use Rattle.std.specs.Prelude.{◌≡◌, ℕ, ◌||◌, nat_lt, if◌then◌else◌, List, [], length}
use Rattle.cluster_facts.specs.History.{committed}
use Rattle.cluster_facts.specs.World.{World}
use Rattle.cluster_events.specs.Lines.{Told}
use Rattle.cluster_events.specs.Outcomes.{Outcome}
use Rattle.cluster_events.specs.Servers.{State}
use Rattle.cluster_events.specs.Settling.{is_loud}
use Rattle.event_text.specs.Texts.{printed}
use Rattle.cluster_clients.specs.Taken.{kept_lines}

-- the lines are loud exactly where the history grew, and all of them are kept where history or net grew, else none
pub record Measured (past more net posted : ℕ) (told : List Told) : Type 0 where
  pub loud : is_loud told ≡ nat_lt past more
  pub lines : kept_lines told ≡ (if nat_lt past more || nat_lt net posted then printed told else [])

-- so it is of an event
abbrev pub IsMeasured : {P : Type 0} → World → Outcome (State P) → Type 0
IsMeasured old outcome =
    Measured (length (committed old.core)) (length (committed outcome.state.world.core)) (length old.net) (length outcome.state.world.net) outcome.told
