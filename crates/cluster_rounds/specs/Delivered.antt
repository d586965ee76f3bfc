-- Words of public clauses: messages of the net that are delivered or sent again, and what clients ask, over any servers.
use Rattle.std.specs.Prelude.{◌≡◌, ℕ, ◌≤◌, Bool, true, false, None, List}
use Rattle.std.specs.List.{AllByRecursion}
use Rattle.wire.specs.declared.message.Message.{Message}
use Rattle.wire.specs.declared.message.WireWhy.{WireWhy}
use Rattle.plain_service.specs.Setups.{Setup}
use Rattle.service_laws.specs.PlainOf.{plain_of}
use Rattle.cluster_facts.specs.Types.{Ask, Request, Answer, Delivery, Receipt}
use Rattle.cluster_facts.specs.Lists.{Stands}
use Rattle.cluster_facts.specs.Messages.{messages_in}
use Rattle.cluster_facts.specs.World.{posting_at, number_of}
use Rattle.cluster_events.specs.Outcomes.{Outcome, for_each}
use Rattle.cluster_events.specs.Servers.{State, in_world}
use Rattle.cluster_events.specs.ClientEvents.{ask, inject}
use Rattle.cluster_events.specs.Events.{hear, delivered, deliver, resend}
use Rattle.client_agent.specs.declared.answers.How.{How}
use Rattle.cluster_rounds.specs.declared.cluster.Cluster.{Cluster}
use Rattle.cluster_clients.specs.Clients.{dispatch_as}
use Rattle.cluster_clients.specs.Spelled.{IsRaw, IsSpelling}
use Rattle.cluster_rounds.specs.Kits.{Kit, calm_servers}
use Rattle.cluster_rounds.specs.Worlds.{Does, Event, Happened, IsGood, Shows}

-- a reply or an item, which is for an agent; a request or a receipt, which is for the active server
abbrev pub is_for_agent : Message → Bool
is_for_agent (Answer client number reply) = true
is_for_agent (Delivery client key item) = true
is_for_agent _ = false

abbrev pub is_for_server : Message → Bool
is_for_server (Request client number call) = true
is_for_server (Receipt client key through) = true
is_for_server _ = false

-- all these messages stand in the net
abbrev pub AllStandIn : {P : Type 0} → List Message → State P → Type 0
AllStandIn messages state = AllByRecursion (λ message. Stands message (messages_in state.world.net)) messages

-- the client of a line is 1 to 4,096
pub record IsCaller (client : ℕ) : Type 0 where
  pub from : 1 ≤ client
  pub to : client ≤ 4096

module _ {Peers Group : Type 0} (kit : Kit Peers Group) where
  abbrev pub delivered_by : ℕ → Message → Event kit
  delivered_by place message setup state = delivered (plain_of setup) (calm_servers kit setup) place message state

  -- the byte string of a place was delivered, or there is none
  abbrev pub Delivers : ℕ → Bool → Cluster Group → Cluster Group → List (List ℕ) → List (List ℕ) → Type 0
  Delivers place true old new before after =
      Does kit (λ setup state. deliver (plain_of setup) (calm_servers kit setup) place state) old new before after
  Delivers place false old new before after =
      (new ≡ old) × (after ≡ before)
      × ((setup : Setup) (state : State Peers) → Shows kit setup state old → posting_at place state.world.net ≡ None)

  -- bytes are injected that no message spells, or nothing was done since a message spells them
  abbrev pub injected_by : List ℕ → ℕ → WireWhy → Event kit
  injected_by bytes front why setup state = in_world (inject bytes front why) state

  abbrev pub Injects : List ℕ → Bool → Cluster Group → Cluster Group → List (List ℕ) → List (List ℕ) → Type 0
  Injects bytes true old new before after = (raw : IsRaw bytes) × Does kit (injected_by bytes raw.front raw.why) old new before after
  Injects bytes false old new before after = IsSpelling bytes × (new ≡ old) × (after ≡ before)

  -- a message that an agent sends again is heard
  abbrev pub again : Setup → Message → State Peers → Outcome (State Peers)
  again setup message state =
      hear (plain_of setup) (calm_servers kit setup) (number_of (plain_of setup) message state.world.net) message state

  abbrev pub resent_by : ℕ → Event kit
  resent_by client setup state = resend (plain_of setup) (calm_servers kit setup) client state

  -- messages are heard, from the first on, where all of them stand in the net
  abbrev pub HearsAll : List Message → Cluster Group → Cluster Group → List (List ℕ) → List (List ℕ) → Type 0
  HearsAll messages old new before after =
      (setup : Setup) (state : State Peers) → IsGood kit setup state → Shows kit setup state old → AllStandIn messages state
      → Happened kit setup (for_each (again setup) messages state) new before after

  -- a client asks for a call
  abbrev pub asked_by : ℕ → Ask → Event kit
  asked_by client asked setup state = in_world (ask (plain_of setup) client asked) state

  -- callbacks of a client are handed out
  abbrev pub dispatched_by : How → ℕ → Event kit
  dispatched_by how client setup state = in_world (dispatch_as how client) state
