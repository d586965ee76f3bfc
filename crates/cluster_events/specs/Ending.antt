-- Words of public clauses: where an event ends by the disk in a step of the servers, over any servers: what is left, and what was told.
use Rattle.std.specs.Prelude.{◌≡◌, ℕ, ◌<◌, Bool, true, false, ◌⊎◌, None, List, ◌∷◌, ◌++◌}
use Rattle.script_lines.specs.declared.line.Line.{Line}
use Rattle.script_lines.specs.declared.line.Line.TheVariants as line
use Rattle.cluster_facts.specs.Types.{Reply, Entry, Called, Message, Answer}
use Rattle.cluster_facts.specs.Lists.{Stands}
use Rattle.cluster_facts.specs.Service.{Plain}
use Rattle.cluster_facts.specs.Agents.{resent}
use Rattle.cluster_facts.specs.World.{number_of}
use Rattle.cluster_events.specs.Lines.{Told}
use Rattle.cluster_events.specs.Outcomes.{Outcome, behind}
use Rattle.cluster_events.specs.Servers.{State, Servers, advances, drain}
use Rattle.cluster_events.specs.Events.{hear}
use Rattle.cluster_events.specs.Settling.{turn, client_turns, Rounds}

-- where an event ends from a state
abbrev pub EndAt : Type 0 → Type 1
EndAt P = State P → Outcome (State P) → Type 0

-- what follows an outcome ends
pub record EndsBehind {P : Type 0} (first : Outcome (State P)) (Ends : EndAt P) (end : Outcome (State P)) : Type 0 where
  pub last : Outcome (State P)
  pub ends : Ends first.state last
  pub is : end ≡ behind first last

-- a step of servers ends: nothing is to be mirrored or confirmed, and they end as they work
pub record StepEnds {P : Type 0} (servers : Servers P) (AtWork : EndAt P) (state : State P) (end : Outcome (State P)) : Type 0 where
  pub mirror : servers.mirror state ≡ None
  pub ack : servers.ack state ≡ None
  pub works : AtWork state end

-- a drain ends in one of its steps
pub record DrainEnds {P : Type 0} (servers : Servers P) (AtStep : EndAt P) (state : State P) (end : Outcome (State P)) : Type 0 where
  pub steps : ℕ
  pub within : steps < servers.steps
  pub ends : EndsBehind (advances servers steps state) AtStep end

-- a turn ends once its message was heard
abbrev pub TurnEnds : {P : Type 0} → Plain → Servers P → EndAt P → Message → EndAt P
TurnEnds plain servers AtStep message state end =
    EndsBehind (hear plain servers (number_of plain message state.world.net) message state) (DrainEnds servers AtStep) end

-- Of an event for each element, that of one element ends, after those of the elements before it.
pub data EachEnds {S X : Type 0} (event : X → S → Outcome S) (Ends : X → S → Outcome S → Type 0) : List X → S → Outcome S → Type 0 where
  Here : {x : X} {xs : List X} {state : S} {end : Outcome S} → Ends x state end → EachEnds event Ends (x ∷ xs) state end
  Later : {x : X} {xs : List X} {state : S} {end : Outcome S} → EachEnds event Ends xs (event x state).state end
      → EachEnds event Ends (x ∷ xs) state (behind (event x state) end)

-- one of these turns ends
abbrev pub TurnsEnd : {P : Type 0} → Plain → Servers P → EndAt P → List Message → EndAt P
TurnsEnd plain servers AtStep messages state end = EachEnds (turn plain servers) (TurnEnds plain servers AtStep) messages state end

-- one of a client's turns ends
abbrev pub ClientEnds : {P : Type 0} → Plain → Servers P → EndAt P → ℕ → EndAt P
ClientEnds plain servers AtStep client state end = TurnsEnd plain servers AtStep (resent client (state.world.agents client)) state end

abbrev pub ClientsEnd : {P : Type 0} → Plain → Servers P → EndAt P → List ℕ → EndAt P
ClientsEnd plain servers AtStep clients state end =
    EachEnds (client_turns plain servers) (ClientEnds plain servers AtStep) clients state end

-- a round ends in the drain at its start, or in the turns of a client
abbrev pub RoundEnds : {P : Type 0} → Plain → Servers P → EndAt P → EndAt P
RoundEnds plain servers AtStep state end =
    DrainEnds servers AtStep state end
    ⊎ EndsBehind (drain servers state) (λ drained. ClientsEnd plain servers AtStep drained.world.clients drained) end

-- `settle` ends in a round, after others that were loud
pub record SettleEnds {P : Type 0} (plain : Plain) (servers : Servers P) (AtStep : EndAt P) (start : State P) (end : Outcome (State P)) : Type 0 where
  pub between : State P
  pub lines : List Told
  pub rounds : Rounds plain servers start between lines true
  pub last : Outcome (State P)
  pub ends : RoundEnds plain servers AtStep between last
  pub is : end ≡ record { state = last.state; told = last.told ++ lines }

-- A crash alone may end a run behind an entry that was answered.

abbrev pub is_crash : Line → Bool
is_crash (line.Crash server) = true
is_crash _ = false

-- none of these messages is a reply to the last of these entries
abbrev pub LacksLast : List Entry → List Message → Type 0
LacksLast (Called client number time call ∷ past) messages = (reply : Reply) → Stands (Answer client number reply) messages → ⊥
LacksLast _ messages = Unit {0}
