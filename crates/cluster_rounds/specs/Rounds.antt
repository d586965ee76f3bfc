-- Words of bodies, and of public clauses: what the events of a round of `settle` come to. Lines on messages without effect are left out.
use Rattle.std.specs.Prelude.{◌≡◌, ℕ, Bool, List, ◌++◌}
use Rattle.std.specs.List.{AllByRecursion}
use Rattle.disk_model.specs.declared.answers.DiskAnswer.{DiskAnswer}
use Rattle.plain_service.specs.Setups.{Setup}
use Rattle.service_laws.specs.PlainOf.{plain_of}
use Rattle.cluster_facts.specs.Types.{Message, Delivery}
use Rattle.cluster_facts.specs.Lists.{Stands}
use Rattle.cluster_facts.specs.Messages.{answers_to, messages_in}
use Rattle.cluster_facts.specs.World.{number_of}
use Rattle.cluster_events.specs.Outcomes.{Outcome, for_each}
use Rattle.cluster_events.specs.Servers.{State, in_world, advances, drain}
use Rattle.cluster_events.specs.Events.{reply_at, hear}
use Rattle.cluster_events.specs.Settling.{take_answer_by, take_answer, turn, client_turns, take_pushed, push_round, round, is_loud}
use Rattle.cluster_events.specs.Devices.{EventBy, EndBy}
use Rattle.cluster_events.specs.Ending.{DrainEnds, TurnEnds, TurnsEnd, ClientEnds, ClientsEnd, RoundEnds, SettleEnds}
use Rattle.cluster_rounds.specs.declared.cluster.Cluster.{Cluster}
use Rattle.cluster_clients.specs.Taken.{kept_lines, taken_as}
use Rattle.cluster_rounds.specs.Kits.{Kit, calm_servers, device_by, servers_at}
use Rattle.cluster_rounds.specs.Worlds.{Event, IsGood, IsIdle, Shows}

-- nothing is in hand, and the messages stand in the net
abbrev pub IsIdleWithAll : {P : Type 0} → List Message → State P → Type 0
IsIdleWithAll messages state = IsIdle state × AllByRecursion (λ message. Stands message (messages_in state.world.net)) messages

-- the message brings an item
abbrev pub IsItem : Message → Type 0
IsItem (Delivery client key item) = Unit {0}
IsItem _ = ⊥

-- the same of items
abbrev pub IsIdleWithItems : {P : Type 0} → List Message → State P → Type 0
IsIdleWithItems items state = IsIdleWithAll items state × AllByRecursion IsItem items

module _ {Peers Group : Type 0} (kit : Kit Peers Group) where
  -- what an event of a round came to: the cluster, its lines, whether it was loud, and what the disks tell
  pub record Played (setup : Setup) (state : State Peers) (outcome : Outcome (State Peers)) (new : Cluster Group) (before after : List (List ℕ))
      (loud : Bool) (held left : kit.Seen) : Type 0 where
    pub shows : Shows kit setup outcome.state new
    pub good : IsGood kit setup outcome.state
    pub lines : after ≡ before ++ kept_lines outcome.told
    pub loudness : loud ≡ is_loud outcome.told
    pub files : kit.Tells setup state held → kit.Leaves setup outcome.state held left

  -- an event that works nothing was played, over each state that the cluster stood for and of which P is so
  abbrev pub Plays : (State Peers → Type 0) → Event kit → Cluster Group → Cluster Group → List (List ℕ) → List (List ℕ) → Bool → Type 0
  Plays P event old new before after loud =
      (held : kit.Seen) (setup : Setup) (state : State Peers) → IsGood kit setup state → Shows kit setup state old → P state
      → Played setup state (event setup state) new before after loud held held

  -- The events of a round that work nothing.

  -- a message is heard under its own number
  abbrev pub heard_so : Message → Event kit
  heard_so message setup state =
      hear (plain_of setup) (calm_servers kit setup) (number_of (plain_of setup) message state.world.net) message state

  -- a reply or an item is delivered. Its number is told only where it has no effect
  abbrev pub message_taken : Message → Event kit
  message_taken message setup state = in_world (taken_as (plain_of setup) 0 message) state

  -- the reply to the call of this number is delivered, if the net has one
  abbrev pub reply_taken : ℕ → ℕ → Event kit
  reply_taken client number setup state =
      in_world (take_answer_by (plain_of setup) client number (reply_at number (answers_to client (messages_in state.world.net)))) state

  abbrev pub answer_taken : Message → Event kit
  answer_taken message setup state = in_world (take_answer (plain_of setup) message) state

  abbrev pub item_taken : Message → Event kit
  item_taken item setup state = in_world (take_pushed (plain_of setup) item) state

  abbrev pub items_taken : List Message → Event kit
  items_taken items setup state = for_each (λ item. in_world (take_pushed (plain_of setup) item)) items state

  abbrev pub round_pushed : Event kit
  round_pushed setup state = push_round (plain_of setup) (calm_servers kit setup) state

  -- Those that may work entries, by the works that fail.

  abbrev pub EventOver : Type 0
  EventOver = Setup → EventBy Peers

  abbrev pub advances_by : ℕ → EventOver
  advances_by steps setup fails state = advances (servers_at kit setup fails) steps state

  abbrev pub drain_by : EventOver
  drain_by setup fails state = drain (servers_at kit setup fails) state

  abbrev pub turn_by : Message → EventOver
  turn_by message setup fails state = turn (plain_of setup) (servers_at kit setup fails) message state

  abbrev pub turns_by : List Message → EventOver
  turns_by messages setup fails state = for_each (turn (plain_of setup) (servers_at kit setup fails)) messages state

  abbrev pub client_by : ℕ → EventOver
  client_by client setup fails state = client_turns (plain_of setup) (servers_at kit setup fails) client state

  abbrev pub clients_by : List ℕ → EventOver
  clients_by clients setup fails state = for_each (client_turns (plain_of setup) (servers_at kit setup fails)) clients state

  -- all clients of the state
  abbrev pub each_by : EventOver
  each_by setup fails state = clients_by state.world.clients setup fails state

  abbrev pub round_by : EventOver
  round_by setup fails state = round (plain_of setup) (servers_at kit setup fails) state

  -- Where these end by the disks: by a fault that no server survives, or by a stop behind which none goes on.

  abbrev pub EndOver : Type 1
  EndOver = DiskAnswer → Setup → EndBy Peers

  abbrev pub EndsStep : EndOver
  EndsStep answer setup fails = kit.EndsAt answer (plain_of setup) (device_by setup fails)

  abbrev pub EndsDrain : EndOver
  EndsDrain answer setup fails state end = DrainEnds (servers_at kit setup fails) (EndsStep answer setup fails) state end

  abbrev pub EndsTurn : Message → EndOver
  EndsTurn message answer setup fails state end =
      TurnEnds (plain_of setup) (servers_at kit setup fails) (EndsStep answer setup fails) message state end

  abbrev pub EndsTurns : List Message → EndOver
  EndsTurns messages answer setup fails state end =
      TurnsEnd (plain_of setup) (servers_at kit setup fails) (EndsStep answer setup fails) messages state end

  abbrev pub EndsClient : ℕ → EndOver
  EndsClient client answer setup fails state end =
      ClientEnds (plain_of setup) (servers_at kit setup fails) (EndsStep answer setup fails) client state end

  abbrev pub EndsClients : List ℕ → EndOver
  EndsClients clients answer setup fails state end =
      ClientsEnd (plain_of setup) (servers_at kit setup fails) (EndsStep answer setup fails) clients state end

  -- in the turns of a client of the state
  abbrev pub EndsEach : EndOver
  EndsEach answer setup fails state end = EndsClients state.world.clients answer setup fails state end

  abbrev pub EndsRound : EndOver
  EndsRound answer setup fails state end =
      RoundEnds (plain_of setup) (servers_at kit setup fails) (EndsStep answer setup fails) state end

  abbrev pub EndsSettle : EndOver
  EndsSettle answer setup fails state end =
      SettleEnds (plain_of setup) (servers_at kit setup fails) (EndsStep answer setup fails) state end
