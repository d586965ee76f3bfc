-- What the disks' armed counts and what they hold are told as behind events that work nothing.
use Rattle.std.proofs.Common.{◌≡◌, ℕ, Option, Some, None, List, [], ◌∷◌, refl, sym, subst}
use Rattle.plain_service.specs.Setups.{Setup}
use Rattle.service_laws.specs.PlainOf.{plain_of}
use Rattle.cluster_facts.specs.Types.{Ask, Message, Answer, Delivery}
use Rattle.cluster_facts.specs.Messages.{Posting, Spelled, Raw}
use Rattle.cluster_facts.specs.Service.{Plain}
use Rattle.cluster_facts.specs.Agents.{call_of, refusal, resent}
use Rattle.cluster_facts.specs.History.{Hand, Empty}
use Rattle.cluster_facts.specs.World.{posting_at, number_of}
use Rattle.cluster_events.specs.Outcomes.{Outcome, for_each}
use Rattle.cluster_events.specs.Servers.{State, Servers, in_world}
use Rattle.cluster_events.specs.ClientEvents.{post}
use Rattle.cluster_events.specs.Events.{hear, delivered, deliver_by, push_by}
use Rattle.cluster_events.specs.Running.{Shelf, show_by}
use Rattle.client_agent.specs.declared.answers.How.{How}
use Rattle.cluster_rounds.specs.Kits.{IsKit, Kit, calm_servers, device_by}
use Rattle.cluster_rounds.specs.Resting.{Rests}
use Rattle.cluster_rounds.specs.Worlds.{pushed}
use Rattle.cluster_rounds.specs.Delivered.{asked_by, dispatched_by, again, resent_by}
use Rattle.cluster_rounds.proofs.TakenSteps.{asked-moved, dispatched-moved}
use Rattle.cluster_rounds.proofs.HearSteps.{hear-places}
use Rattle.cluster_rounds.proofs.ArmedSteps as armed
use Rattle.cluster_lines.specs.Steps.{deliver_at, file_shown}

-- what the servers keep is left by posts
posts-peers : {P : Type 0} (plain : Plain) (items : List Message) (state : State P) → (for_each (λ item. in_world (post plain item)) items state).state.peers ≡ state.peers
posts-peers plain [] state = refl
posts-peers plain (item ∷ items) state = posts-peers plain items (in_world (post plain item) state).state

push_by-peers : {P : Type 0} (plain : Plain) (servers : Servers P) (hand : Hand) (state : State P) → (push_by plain servers hand state).state.peers ≡ state.peers
push_by-peers plain servers Empty state = posts-peers plain (plain.held state.world.core.answered) state
push_by-peers plain servers _ state = refl

module _ {Peers Group : Type 0} (kit : Kit Peers Group) (laws : IsKit kit) where
  -- no disk is asked, and what is kept tells of the same armed counts, as the disks tell what they hold
  pub record Keeps (setup : Setup) (state : State Peers) (outcome : Outcome (State Peers)) : Type 0 where
    pub rests : Rests (calm_servers kit setup) state outcome.state
    pub armed : (seen : kit.Seen) → kit.Armed state.peers seen → kit.Armed outcome.state.peers seen
    pub tells : (seen : kit.Seen) → kit.Tells setup state seen → kit.Tells setup outcome.state seen

  -- the same of an event that may ask a disk, of which nothing is said
  pub record LeavesAlone (setup : Setup) (state : State Peers) (outcome : Outcome (State Peers)) : Type 0 where
    pub armed : (seen : kit.Seen) → kit.Armed state.peers seen → kit.Armed outcome.state.peers seen
    pub tells : (seen : kit.Seen) → kit.Tells setup state seen → kit.Tells setup outcome.state seen

  -- so it is where core and servers stay
  pub stays-put : (setup : Setup) (state : State Peers) (outcome : Outcome (State Peers)) → outcome.state.world.core ≡ state.world.core → outcome.state.peers ≡ state.peers → Keeps setup state outcome
  stays-put setup state outcome core peers = record {
    rests = (armed.core-rested kit laws) setup state outcome.state core peers;
    armed = λ seen told. subst (λ (p : Peers). kit.Armed p seen) (sym peers) told;
    tells = λ seen told. laws.moves setup state outcome.state seen core peers told;
  }

  hear-keeps : (setup : Setup) (place : ℕ) (message : Message) (state : State Peers) → Keeps setup state (hear (plain_of setup) (calm_servers kit setup) place message state)
  hear-keeps setup place message state =
      let plain = plain_of setup in
      let device = device_by setup (λ number. 0) in
      record {
        rests = (armed.hear-rested kit laws) place message setup state;
        armed = λ seen told. subst (λ (s : State Peers). kit.Armed s.peers seen) (sym (hear-places plain (calm_servers kit setup) place (number_of plain message state.world.net) message state).state) ((armed.hear-keeps kit laws) message setup state seen told);
        tells = λ seen told. (armed.hear-told kit laws) place message setup state seen told;
      }

  delivered-keeps : (setup : Setup) (place : ℕ) (message : Message) (state : State Peers) → Keeps setup state (delivered (plain_of setup) (calm_servers kit setup) place message state)
  delivered-keeps setup place (Answer client number reply) state =
      stays-put setup state _ (armed.take_reply-core place client number reply state.world) refl
  delivered-keeps setup place (Delivery client key item) state =
      stays-put setup state _ (armed.take_item-core (plain_of setup) place client key item state.world) refl
  delivered-keeps setup place message state = hear-keeps setup place message state

  deliver_by-keeps : (setup : Setup) (place : ℕ) (found : Option Posting) (state : State Peers) → Keeps setup state (deliver_by (plain_of setup) (calm_servers kit setup) place found state)
  deliver_by-keeps setup place None state = stays-put setup state _ refl refl
  deliver_by-keeps setup place (Some (Spelled message)) state = delivered-keeps setup place message state
  deliver_by-keeps setup place (Some (Raw bytes front why)) state = stays-put setup state _ refl refl

  pub deliver-keeps : (setup : Setup) (place : ℕ) (state : State Peers) → Keeps setup state ((deliver_at kit) place setup state)
  deliver-keeps setup place state = deliver_by-keeps setup place (posting_at place state.world.net) state

  agains-keep : (setup : Setup) (messages : List Message) (state : State Peers) → Keeps setup state (for_each ((again kit) setup) messages state)
  agains-keep setup [] state = stays-put setup state _ refl refl
  agains-keep setup (message ∷ messages) state =
      let first = hear-keeps setup (number_of (plain_of setup) message state.world.net) message state in
      let others = agains-keep setup messages ((again kit) setup message state).state in
      record {
        rests = (armed.rests-both kit laws) setup state ((again kit) setup message state).state (for_each ((again kit) setup) (message ∷ messages) state).state first.rests others.rests;
        armed = λ seen told. others.armed seen (first.armed seen told);
        tells = λ seen told. others.tells seen (first.tells seen told);
      }

  pub resend-keeps : (setup : Setup) (client : ℕ) (state : State Peers) → Keeps setup state ((resent_by kit) client setup state)
  resend-keeps setup client state = agains-keep setup (resent client (state.world.agents client)) state

  pub push-keeps : (setup : Setup) (state : State Peers) → Keeps setup state ((pushed kit) setup state)
  push-keeps setup state =
      let plain = plain_of setup in
      let servers = calm_servers kit setup in
      record {
        rests = (armed.pushed-rested kit laws) setup state;
        armed = λ seen. subst (λ (peers : Peers). kit.Armed peers seen) (sym (push_by-peers plain servers state.world.core.hand state));
        tells = λ seen told. (armed.pushed-told kit laws) setup state seen told;
      }

  pub asked-keeps : (setup : Setup) (client : ℕ) (asked : Ask) (state : State Peers) → Keeps setup state ((asked_by kit) client asked setup state)
  asked-keeps setup client asked state =
      stays-put setup state _ ((asked-moved kit laws) (plain_of setup) client (call_of asked) (refusal asked (state.world.agents client)) state.world).core refl

  pub dispatched-keeps : (setup : Setup) (how : How) (client : ℕ) (state : State Peers) → Keeps setup state ((dispatched_by kit) how client setup state)
  dispatched-keeps setup how client state =
      stays-put setup state _ ((dispatched-moved kit laws) how client state.world).core refl

  shown-keeps : (setup : Setup) (name : List ℕ) (found : Option (List (List ℕ))) (state : State Peers) → Keeps setup state (show_by (calm_servers kit setup) name found state)
  shown-keeps setup name None state = stays-put setup state _ refl refl
  shown-keeps setup name (Some texts) state = stays-put setup state _ refl refl

  pub shows-keep : (setup : Setup) (name : List ℕ) (shelf : Shelf) (state : State Peers) → Keeps setup state ((file_shown kit) name setup shelf state)
  shows-keep setup name shelf state = shown-keeps setup name (shelf.text name state.world.core.answered) state
