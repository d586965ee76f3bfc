-- Byte strings that are read back from the net.
use Rattle.std.proofs.Common.{◌≡◌, ℕ, Bool, true, false, Some, None, List, refl, ap, sym, subst}
use Rattle.wire.specs.declared.message.Message.{Message}
use Rattle.wire.specs.MessageSpelling.{MessageFits, MessageInRange}
use Rattle.service_laws.specs.PlainOf.{plain_of}
use Rattle.cluster_facts.specs.Types.{Entry, Request, Answer, Delivery, Receipt}
use Rattle.cluster_facts.specs.Service.{Plain}
use Rattle.cluster_facts.specs.Facts.{IsOfRun}
use Rattle.cluster_facts.proofs.Words.{All-at}
use Rattle.cluster_facts.proofs.Posting.{posting_at-stands}
use Rattle.client_agent.specs.Seen.{Seen}
use Rattle.cluster_facts.specs.Messages.{messages_in}
use Rattle.cluster_events.specs.Outcomes.{Outcome}
use Rattle.cluster_events.specs.Servers.{State, Servers, in_world}
use Rattle.cluster_events.specs.Events.{hear, delivered, deliver_by, deliver}
use Rattle.cluster_rounds.specs.declared.cluster.Cluster.{Cluster}
use Rattle.cluster_clients.specs.declared.fetching.Fetched.TheVariants.{Whole}
use Rattle.cluster_clients.specs.Spelled.{IsFetched}
use Rattle.cluster_clients.specs.Taken.{Takes, taken_as}
use Rattle.cluster_rounds.specs.Delivered.{Delivers, delivered_by, is_for_agent, is_for_server}
use Rattle.cluster_rounds.specs.Kits.{IsKit, Kit, calm_servers}
use Rattle.cluster_rounds.specs.Worlds.{DoesIf, Happened, StandsIn, heard_by}
use Rattle.cluster_rounds.proofs.TakenSteps.{takes-happens}

module _ {Peers Group : Type 0} (kit : Kit Peers Group) (laws : IsKit kit) where
  -- A message of the net is in range.

  pub fits-agent : (message : Message) → is_for_agent message ≡ true → MessageFits message → MessageInRange message
  fits-agent (Answer client number reply) is fits = (fits.0, fits.1)
  fits-agent (Delivery client key item) is fits = (fits.0, fits.1, record { number = fits.2.number })
  fits-agent _ is fits = cc

  pub fits-server : (message : Message) → is_for_server message ≡ true → MessageFits message → MessageInRange message
  fits-server (Request client number call) is fits = (fits.0, fits.1)
  fits-server (Receipt client key through) is fits = (fits.0, fits.1, fits.2)
  fits-server _ is fits = cc

  -- What a delivery comes to.

  delivered-agent : (plain : Plain) (servers : Servers Peers) (place : ℕ) (message : Message) (state : State Peers) → is_for_agent message ≡ true → delivered plain servers place message state ≡ in_world (taken_as plain place message) state
  delivered-agent plain servers place (Answer client number reply) state is = refl
  delivered-agent plain servers place (Delivery client key item) state is = refl
  delivered-agent plain servers place _ state is = cc

  delivered-server : (plain : Plain) (servers : Servers Peers) (place : ℕ) (message : Message) (state : State Peers) → is_for_server message ≡ true → delivered plain servers place message state ≡ hear plain servers place message state
  delivered-server plain servers place (Request client number call) state is = refl
  delivered-server plain servers place (Receipt client key through) state is = refl
  delivered-server plain servers place _ state is = cc

  -- each message of the net is for an agent or for the active server
  is-for : (plain : Plain) (past : List Entry) (message : Message) → IsOfRun plain past message → is_for_agent message ≡ false → is_for_server message ≡ false → ⊥
  is-for plain past (Request client number call) of agent server = cc
  is-for plain past (Answer client number reply) of agent server = cc
  is-for plain past (Delivery client key item) of agent server = cc
  is-for plain past (Receipt client key through) of agent server = cc
  is-for plain past _ of agent server = elim of [ ]

  pub delivers-agent : (place : ℕ) (message : Message) (old : Cluster Group) (net : List (List ℕ)) (agents : List Seen) (before after : List (List ℕ)) (loud : Bool) → is_for_agent message ≡ true → Takes (Some place) message old.net net old.agents agents before after loud → (DoesIf kit) (StandsIn message) ((delivered_by kit) place message) old (record old { net = net; agents = agents }) before after
  delivers-agent place message old net agents before after loud is takes setup state good shows stands =
      let H : Outcome (State Peers) → Type 0 = λ outcome. (Happened kit) setup outcome (record old { net = net; agents = agents }) before after in
      subst H (sym (delivered-agent (plain_of setup) (calm_servers kit setup) place message state is)) ((takes-happens kit laws) setup place message state old net agents before after loud good shows stands takes)

  pub delivers-server : (place : ℕ) (message : Message) (old new : Cluster Group) (before after : List (List ℕ)) → is_for_server message ≡ true → (DoesIf kit) (StandsIn message) ((heard_by kit) place message) old new before after → (DoesIf kit) (StandsIn message) ((delivered_by kit) place message) old new before after
  delivers-server place message old new before after is hears setup state good shows stands =
      let H : Outcome (State Peers) → Type 0 = λ outcome. (Happened kit) setup outcome new before after in
      subst H (sym (delivered-server (plain_of setup) (calm_servers kit setup) place message state is)) (hears setup state good shows stands)

  pub delivers-none : (place : ℕ) (message : Message) (old : Cluster Group) (before after : List (List ℕ)) → is_for_agent message ≡ false → is_for_server message ≡ false → (DoesIf kit) (StandsIn message) ((delivered_by kit) place message) old old before after
  delivers-none place message old before after agent server setup state good shows stands =
      absurd (is-for (plain_of setup) state.world.core.answered message (All-at (IsOfRun (plain_of setup) state.world.core.answered) message (messages_in state.world.net) good.steady.sound.facts.run stands) agent server)

  -- a message that was fetched is delivered
  pub delivers-fetched : (place : ℕ) (message : Message) (old new : Cluster Group) (before after : List (List ℕ)) → IsFetched place old.net (Some (Whole message)) → (DoesIf kit) (StandsIn message) ((delivered_by kit) place message) old new before after → (Delivers kit) place true old new before after
  delivers-fetched place message old new before after fetched does setup state good shows =
      let plain = plain_of setup in
      let at = fetched.1 state.world.net shows.net in
      let same : deliver plain (calm_servers kit setup) place state ≡ delivered plain (calm_servers kit setup) place message state = ap (λ found. deliver_by plain (calm_servers kit setup) place found state) at in
      let H : Outcome (State Peers) → Type 0 = λ outcome. (Happened kit) setup outcome new before after in
      subst H (sym same) (does setup state good shows (posting_at-stands place state.world.net message at))

  pub delivers-nothing : (place : ℕ) (old : Cluster Group) (before : List (List ℕ)) → IsFetched place old.net None → (Delivers kit) place false old old before before
  delivers-nothing place old before fetched = (refl, refl, λ setup state shows. fetched state.world.net shows.net)
