-- Words of public clauses: events over a disk that may fail in the work of an entry. Which works failed is known only once an event is
-- over: so an event comes to an outcome over every device that agrees with what happened on the entries that were worked in it.
use Rattle.std.specs.Prelude.{◌≡◌, ℕ, suc, ◌<◌, ◌≤◌, nat_le, if◌then◌else◌, List, length}
use Rattle.ais_values.specs.Causes.{Rose}
use Rattle.cluster_facts.specs.Types.{Entry}
use Rattle.cluster_events.specs.Outcomes.{Outcome}
use Rattle.cluster_events.specs.Servers.{State}

-- how many changing calls the deeds of an entry behind a history make; and how many servers fall in a row by faults of the disk in the
-- deeds of the entry of a number: the active one in its work, and each that fails as it takes over
pub record Device : Type 0 where
  pub calls : List Entry → Entry → ℕ
  pub fails : ℕ → ℕ

-- an event, and where one ends, by how many servers fall at each entry
abbrev pub EventBy : Type 0 → Type 0
EventBy P = (ℕ → ℕ) → State P → Outcome (State P)

abbrev pub EndBy : Type 0 → Type 1
EndBy P = (ℕ → ℕ) → State P → Outcome (State P) → Type 0

-- how many entries are answered
abbrev pub answered_in : {P : Type 0} → State P → ℕ
answered_in state = length state.world.core.answered

-- the works of the entries behind the first number, up to the last, fail as it happened
abbrev pub AgreesIn : ℕ → ℕ → (ℕ → ℕ) → (ℕ → ℕ) → Type 0
AgreesIn first last happened fails = (number : ℕ) → first < number → number ≤ last → fails number ≡ happened number

-- the event comes to this outcome, over every device that agrees with what happened on the entries worked in it
pub record ComesTo {P : Type 0} (event : EventBy P) (happened : ℕ → ℕ) (state : State P) (outcome : Outcome (State P)) : Type 0 where
  pub later : answered_in state ≤ answered_in outcome.state
  pub is : (fails : ℕ → ℕ) → AgreesIn (answered_in state) (answered_in outcome.state) happened fails → event fails state ≡ outcome

-- it ends here, over every device that agrees with what happened up to the entry in hand
pub record EndsOver {P : Type 0} (Ends : EndBy P) (happened : ℕ → ℕ) (state : State P) (end : Outcome (State P)) : Type 0 where
  pub later : answered_in state ≤ answered_in end.state
  pub is : (fails : ℕ → ℕ) → AgreesIn (answered_in state) (suc (answered_in end.state)) happened fails → Ends fails state end

-- what happened in one event up to an entry, and in the next one from there on
abbrev pub spliced : ℕ → (ℕ → ℕ) → (ℕ → ℕ) → ℕ → ℕ
spliced middle first second number = if nat_le number middle then first number else second number

-- a work fails only where the disk's count of faults rose
abbrev pub IsCaused : ℕ → ℕ → (ℕ → ℕ) → Type 0
IsCaused before after happened = (Rose before after → ⊥) → (number : ℕ) → happened number ≡ 0
