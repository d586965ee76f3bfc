-- What a message that the server hears comes to, at a state.
use Rattle.std.proofs.Common.{◌≡◌, ℕ, suc, ◌<◌, Bool, true, Option, Some, None, List, [], ◌∷◌, ◌++◌, length, refl, ap, sym, subst, ◌∙◌, append-nil}
use Rattle.calls.specs.History.{Pushed}
use Rattle.wire.specs.MessageSpelling.{MessageInRange}
use Rattle.wire.specs.declared.message.Message.TheVariants as wire
use Rattle.plain_service.specs.Setups.{Setup}
use Rattle.service_laws.specs.PlainOf.{plain_of}
use Rattle.service_laws.proofs.ServiceLaws.{is_plain}
use Rattle.cluster_facts.specs.Types.{Entry, Message}
use Rattle.cluster_facts.specs.Lists.{Stands}
use Rattle.cluster_facts.specs.Messages.{messages_in}
use Rattle.cluster_facts.specs.History.{Hand, Empty, Waiting}
use Rattle.cluster_facts.specs.Ranges.{CanCome}
use Rattle.cluster_facts.specs.World.{World}
use Rattle.cluster_events.specs.Cores.{with_core}
use Rattle.cluster_events.specs.Servers.{State}
use Rattle.cluster_events.specs.Serving.{IsSteady}
use Rattle.mirror.specs.declared.heard.Heard.{Heard}
use Rattle.mirror.specs.declared.state.NodeState.{NodeState as Node}
use Rattle.mirror.specs.Replicas.{at_work}
use Rattle.mirror.specs.Hearing.{accepted_alone}
use Rattle.mirror.specs.Pairing.{IsHeard, mirrored}
use Rattle.lead_server.specs.Told.{IsTold}
use Rattle.lead_rounds.specs.Leading.{lead_by}
use Rattle.lead_rounds.proofs.HearSteps.{message-happens, told_as, waits_as}
use Rattle.group_cluster.specs.Seats.{Clear, Sent}
use Rattle.cluster_clients.proofs.DispatchSteps.{agents-as}
use Rattle.cluster_rounds.specs.declared.cluster.Cluster.{Cluster}
use Rattle.cluster_rounds.specs.Kits.{calm_servers}
use Rattle.cluster_rounds.specs.Worlds.{Happened, IsGood, Shows, heard_by}
use Rattle.script_lines.specs.declared.line.Server.TheVariants.{A}
use Rattle.cold_cluster.specs.Cold.{Alone, IsCold, seats_with}
use Rattle.lone_server.specs.declared.lone.Lone.{Lone}
use Rattle.cold_servers.specs.declared.solo.Solo.{Solo}
use Rattle.cold_servers.specs.ColdKit.{cold_kit}
use Rattle.cold_servers.specs.ColdLaws.{cold_laws}
use Rattle.cold_servers.specs.ColdNodes.{OwnBy, active_by, up_by}
use Rattle.cold_servers.proofs.MarkSteps.{mark_by, seats-are}

-- what is left of the code
abbrev pub heard_as : Cluster Solo → Node → List Message → List (List ℕ) → Pushed → Cluster Solo
heard_as old node more net history =
    record old { servers = record { lone = record old.servers.lone { node = node; link = old.servers.lone.link ++ more } }; net = net; history = history }

-- With nothing in hand.

abbrev pub idle_at : World → Bool → Option ℕ → Option ℕ → State Alone
idle_at world keeps armed beside = record {
  world = with_core world.core.answered Empty world;
  peers = record { mirrored = record { acting = A; seats = seats_with Clear keeps; armed = None }; up = true; armed = armed; beside = beside };
}

pub is-idle : (state : State Alone) → (cold : IsCold state) → state.peers.up ≡ true → state.world.core.hand ≡ Empty → idle_at state.world cold.1.keeps state.peers.armed state.peers.beside ≡ state
is-idle state cold up empty =
    let beside = cold.1 in
    let seats = ap (λ (hand : Hand). seats_with (mark_by hand) beside.keeps) (sym empty) ∙ seats-are state cold in
    λ i. record {
      world = record state.world { core = record { answered = state.world.core.answered; hand = sym empty i } };
      peers = record {
        mirrored = record { acting = sym beside.acting i; seats = seats i; armed = sym beside.unarmed i };
        up = sym up i;
        armed = state.peers.armed;
        beside = state.peers.beside;
      };
    }

-- An entry that is accepted waits, and is on the way to the journal.

abbrev waits_for : World → Bool → Option ℕ → Option ℕ → Entry → State Alone
waits_for world keeps armed beside entry = record {
  world = with_core world.core.answered (Waiting entry) world;
  peers = record { mirrored = record { acting = A; seats = seats_with Sent keeps; armed = None }; up = true; armed = armed; beside = beside };
}

accepts-idle : (setup : Setup) (world : World) (keeps : Bool) (armed beside : Option ℕ) (old : Cluster Solo) (node : Node) (net : List (List ℕ)) (history : Pushed) (heard : Heard) (place : ℕ) (before after : List (List ℕ)) (entry : Entry) → IsGood cold_kit setup (idle_at world keeps armed beside) → Shows cold_kit setup (idle_at world keeps armed beside) old → IsTold place heard old.net net old.history.entries history.entries before after → heard ≡ mirrored (suc (length world.core.answered)) (accepted_alone entry) → node ≡ record (active_by setup world.core.answered Empty) { replica = at_work setup world.core.answered entry; waits = Some entry } → IsSteady (plain_of setup) IsCold (waits_for world keeps armed beside entry) → CanCome entry world.core.answered
    → Happened cold_kit setup (record { state = waits_for world keeps armed beside entry; told = [] }) (heard_as old node heard.to_peer net history) before after
accepts-idle setup world keeps armed beside old node net history heard place before after entry good shows tells is node_is steady can =
    let past = world.core.answered in
    let message = wire.Mirror (suc (length past)) entry in
    let state = waits_for world keeps armed beside entry in
    let more : heard.to_peer ≡ message ∷ [] = ap (λ (h : Heard). h.to_peer) is in
    let told = subst (λ (h : Heard). IsTold place h old.net net old.history.entries history.entries before after) is tells in
    let posts = told.posts (plain_of setup) world.net (is_plain setup) shows.net in
    let new : node ≡ active_by setup past (Waiting entry) = node_is in
    subst (λ (messages : List Message). Happened cold_kit setup (record { state = state; told = [] }) (heard_as old node messages net history) before after) (sym more) (
      record {
        own = λ i. record (shows.own i) { node = new i; link = (shows.own i).link ++ message ∷ [] };
        net = posts.0;
        agents = agents-as (idle_at world keeps armed beside).world state.world old.agents refl refl refl shows.agents;
        history = told.commits.0 ∙ shows.history;
        now = shows.now;
        callbacks = shows.callbacks;
      },
      record { begins = good.begins; steady = steady; range = (can, good.range); moment = good.moment },
      told.commits.1 ∙ append-nil told.between ∙ posts.1,
    )

-- **a message is heard**
pub hears-happen : (setup : Setup) (state : State Alone) (old : Cluster Solo) (node : Node) (net : List (List ℕ)) (history : Pushed) (heard : Heard) (place : ℕ) (message : Message) (before after : List (List ℕ)) → IsGood cold_kit setup state → Shows cold_kit setup state old → state.peers.up ≡ true → Stands message (messages_in state.world.net) → MessageInRange message → (state.world.core.hand ≡ Empty → length state.world.core.answered < 4000000000) → IsHeard message old.now old.servers.lone.node heard node → IsTold place heard old.net net old.history.entries history.entries before after
    → Happened cold_kit setup (heard_by cold_kit place message setup state) (heard_as old node heard.to_peer net history) before after
hears-happen setup state old node net history heard place message before after good shows up stands range few hears tells =
    message-happens cold_kit cold_laws setup state true old old.servers.lone.node node (record { lone = record old.servers.lone { node = node; link = old.servers.lone.link ++ heard.to_peer } }) net history heard place before after good shows tells stays message led stands range few hears accepts
  where
    own : old.servers.lone ≡ up_by setup state.world.core.answered state.world.core.hand state.peers
    own = subst (λ (b : Bool). OwnBy b setup state.world.core.answered state.world.core.hand state.peers old.servers.lone) up shows.own

    led : old.servers.lone.node ≡ lead_by setup state.world.core.answered state.world.core.hand true
    led = ap (λ (s : Lone). s.node) own

    stays : node ≡ old.servers.lone.node → heard.to_peer ≡ [] → cold_kit.Own setup state.world.core.answered state.world.core.hand state.peers (record { lone = record old.servers.lone { node = node; link = old.servers.lone.link ++ heard.to_peer } })
    stays same none =
        let kept : old.servers.lone.link ++ heard.to_peer ≡ old.servers.lone.link = ap (λ more. old.servers.lone.link ++ more) none ∙ append-nil old.servers.lone.link in
        subst (λ (s : Lone). cold_kit.Own setup state.world.core.answered state.world.core.hand state.peers (record { lone = s })) (sym (λ i. record old.servers.lone { node = same i; link = kept i })) shows.own

    accepts : state.world.core.hand ≡ Empty → (entry : Entry) → heard ≡ told_as true (suc (length state.world.core.answered)) (accepted_alone entry) → node ≡ record (lead_by setup state.world.core.answered Empty true) { replica = at_work setup state.world.core.answered entry; waits = waits_as true (Some entry) } → IsSteady (plain_of setup) IsCold ((calm_servers cold_kit setup).accept entry state).state → CanCome entry state.world.core.answered → Happened cold_kit setup ((calm_servers cold_kit setup).accept entry state) (heard_as old node heard.to_peer net history) before after
    accepts empty entry is node_is steady can =
        let cold = good.steady.good in
        let same = is-idle state cold up empty in
        let G : State Alone → Type 0 = λ s. IsSteady (plain_of setup) IsCold ((calm_servers cold_kit setup).accept entry s).state in
        let H : State Alone → Type 0 = λ s. Happened cold_kit setup ((calm_servers cold_kit setup).accept entry s) (heard_as old node heard.to_peer net history) before after in
        subst H same
        (accepts-idle setup state.world cold.1.keeps state.peers.armed state.peers.beside old node net history heard place before after entry
        (subst (λ (s : State Alone). IsGood cold_kit setup s) (sym same) good) (subst (λ (s : State Alone). Shows cold_kit setup s old) (sym same) shows) tells is node_is (subst G (sym same) steady) can)
