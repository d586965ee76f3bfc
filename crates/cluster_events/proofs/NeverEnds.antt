-- Where no step of the servers ends, no event of rounds ends.
use Rattle.std.proofs.Common.{ℕ, inl, inr, List}
use Rattle.cluster_facts.specs.Types.{Message}
use Rattle.cluster_facts.specs.Service.{Plain}
use Rattle.cluster_facts.specs.World.{number_of}
use Rattle.cluster_events.specs.Outcomes.{Outcome}
use Rattle.cluster_events.specs.Servers.{State, Servers, advances, drain}
use Rattle.cluster_events.specs.Events.{hear}
use Rattle.cluster_events.specs.Settling.{turn, client_turns}
use Rattle.cluster_events.specs.Ending.EachEnds.{Here, Later}
use Rattle.cluster_events.specs.Ending.{EndAt, DrainEnds, TurnEnds, ClientEnds, ClientsEnd, RoundEnds, SettleEnds, EachEnds}

-- a row of events ends in one of them
each-never : {S X : Type 0} (event : X → S → Outcome S) (Ends : X → S → Outcome S → Type 0) → ((x : X) (state : S) (end : Outcome S) → Ends x state end → ⊥) → {xs : List X} {state : S} {end : Outcome S} → EachEnds event Ends xs state end → ⊥
each-never event Ends never (Here {x = x} {state = state} {end = end} ends) = never x state end ends
each-never event Ends never (Later ends) = each-never event Ends never ends

module _ {P : Type 0} (plain : Plain) (servers : Servers P) (AtStep : EndAt P) (never : (state : State P) (end : Outcome (State P)) → AtStep state end → ⊥) where
  drain-never : (state : State P) (end : Outcome (State P)) → DrainEnds servers AtStep state end → ⊥
  drain-never state end ends = never (advances servers ends.steps state).state ends.ends.last ends.ends.ends

  turn-never : (message : Message) (state : State P) (end : Outcome (State P)) → TurnEnds plain servers AtStep message state end → ⊥
  turn-never message state end ends =
      drain-never (hear plain servers (number_of plain message state.world.net) message state).state ends.last ends.ends

  client-never : (client : ℕ) (state : State P) (end : Outcome (State P)) → ClientEnds plain servers AtStep client state end → ⊥
  client-never client state end ends = each-never (turn plain servers) (TurnEnds plain servers AtStep) turn-never ends

  clients-never : (clients : List ℕ) (state : State P) (end : Outcome (State P)) → ClientsEnd plain servers AtStep clients state end → ⊥
  clients-never clients state end ends =
      each-never (client_turns plain servers) (ClientEnds plain servers AtStep) client-never ends

  round-never : (state : State P) (end : Outcome (State P)) → RoundEnds plain servers AtStep state end → ⊥
  round-never state end (inl ends) = drain-never state end ends
  round-never state end (inr ends) =
      let drained = (drain servers state).state in clients-never drained.world.clients drained ends.last ends.ends

  pub settle-never : (state : State P) (end : Outcome (State P)) → SettleEnds plain servers AtStep state end → ⊥
  settle-never state end ends = round-never ends.between ends.last ends.ends
