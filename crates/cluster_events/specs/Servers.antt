-- Words of public clauses: a world with its servers, whatever these are.
use Rattle.std.specs.Prelude.{ℕ, zero, suc, Option, Some, None}
use Rattle.cluster_facts.specs.Types.{Entry}
use Rattle.cluster_facts.specs.World.{World}
use Rattle.cluster_events.specs.Lines.{Standing}
use Rattle.cluster_events.specs.Outcomes.{Outcome, quietly, and_then}

-- the world, and what the servers keep beside it
pub record State (P : Type 0) : Type 0 where
  pub world : World
  pub peers : P

-- what servers do
pub record Servers (P : Type 0) : Type 0 where
  -- the active server accepts an entry
  pub accept : Entry → State P → Outcome (State P)
  -- the first message of the link is delivered, that of the way back, or the entry in hand is worked; none where that cannot be
  pub mirror : State P → Option (Outcome (State P))
  pub ack : State P → Option (Outcome (State P))
  pub work : State P → Option (Outcome (State P))
  -- with so many of these steps none is left
  pub steps : ℕ
  -- the servers' roles and the lengths of their lists
  pub standing : State P → Standing

-- an event of the world alone
abbrev pub in_world : {P : Type 0} → (World → Outcome World) → State P → Outcome (State P)
in_world event state =
    let outcome = event state.world in
    record { state = record { world = outcome.state; peers = state.peers }; told = outcome.told }

-- a step where there is one, and otherwise what follows
abbrev pub or_else : {P : Type 0} → Option (Outcome (State P)) → Option (Outcome (State P)) → Option (Outcome (State P))
or_else None other = other
or_else (Some outcome) other = Some outcome

-- mirror, else ack, else work
abbrev pub advance : {P : Type 0} → Servers P → State P → Option (Outcome (State P))
advance servers state = or_else (servers.mirror state) (or_else (servers.ack state) (servers.work state))

-- what follows a step, where there was one
abbrev pub after_step : {P : Type 0} → (State P → Outcome (State P)) → Option (Outcome (State P)) → State P → Outcome (State P)
after_step others None state = quietly state
after_step others (Some outcome) state = and_then outcome others

-- at most so many steps
abbrev pub advances : {P : Type 0} → Servers P → ℕ → State P → Outcome (State P)
advances servers zero state = quietly state
advances servers (suc steps) state = after_step (advances servers steps) (advance servers state) state

-- while possible, mirror, else ack, else work
abbrev pub drain : {P : Type 0} → Servers P → State P → Outcome (State P)
drain servers state = advances servers servers.steps state
