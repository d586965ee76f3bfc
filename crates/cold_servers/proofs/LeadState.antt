-- The server of the code is the active one of each state in which it is up.
use Rattle.std.proofs.Common.{◌≡◌, ℕ, Bool, true, List, ◌++◌, ap, sym, subst, ◌∙◌}
use Rattle.calls.specs.History.{Pushed}
use mir.Syntax.{w64}
use mir.Val.{to_z, of_z}
use Rattle.wire.specs.MessageSpelling.{MessageInRange}
use Rattle.plain_service.specs.Setups.{Setup}
use Rattle.cluster_facts.specs.Types.{Message}
use Rattle.cluster_facts.specs.Lists.{Stands}
use Rattle.cluster_facts.specs.Messages.{messages_in}
use Rattle.cluster_events.specs.Servers.{State}
use Rattle.mirror.specs.declared.state.NodeState.{NodeState as Node}
use Rattle.mirror.specs.Replicas.{at_rest}
use Rattle.lead_server.specs.Heard.{Hears}
use Rattle.lead_rounds.specs.Leading.{lead_by}
use Rattle.lead_rounds.proofs.LeadSteps.{has-room, heard-then}
use Rattle.lead_rounds.proofs.PushSteps.{rests-in}
use Rattle.cluster_rounds.specs.declared.cluster.Cluster.{Cluster}
use Rattle.cluster_rounds.specs.Worlds.{Happened, IsGood, IsIdle, Shows, heard_by}
use Rattle.cold_cluster.specs.Cold.{Alone}
use Rattle.lone_server.specs.declared.lone.Lone.{Lone}
use Rattle.cold_servers.specs.declared.solo.Solo.{Solo}
use Rattle.cold_servers.specs.ColdKit.{cold_kit}
use Rattle.cold_servers.specs.ColdLaws.{cold_laws}
use Rattle.cold_servers.specs.ColdNodes.{OwnBy}
use Rattle.cold_servers.proofs.HearState.{hears-happen}

pub lead-so : (setup : Setup) (state : State Alone) (old : Cluster Solo) → Shows cold_kit setup state old → state.peers.up ≡ true → old.servers.lone.node ≡ lead_by setup state.world.core.answered state.world.core.hand true
lead-so setup state old shows up =
    let core = state.world.core in
    ap (λ (servers : Lone). servers.node) (subst (λ (b : Bool). OwnBy b setup core.answered core.hand state.peers old.servers.lone) up shows.own)

-- **a message was heard, and what is mirrored is on the way**
pub hear-comes : (setup : Setup) (state : State Alone) (old : Cluster Solo) (node : Node) (link mirrored : List Message) (net : List (List ℕ)) (history : Pushed) (place : ℕ) (message : Message) (before after : List (List ℕ)) → IsGood cold_kit setup state → Shows cold_kit setup state old → state.peers.up ≡ true → Stands message (messages_in state.world.net) → MessageInRange message → Hears place message (to_z w64 (of_z w64 old.now)) old.servers.lone.node node old.net net old.history.entries history.entries before after mirrored → link ≡ old.servers.lone.link ++ mirrored
    → Happened cold_kit setup (heard_by cold_kit place message setup state) (record old { servers = record { lone = record old.servers.lone { node = node; link = link } }; net = net; history = history }) before after
hear-comes setup state old node link mirrored net history place message before after good shows up stands range heard link_is =
    let core = state.world.core in
    let led = lead-so setup state old shows up in
    let hears = heard-then cold_kit cold_laws setup state old message heard.heard old.servers.lone.node node good shows heard.hears in
    let same : link ≡ old.servers.lone.link ++ heard.heard.to_peer = link_is ∙ ap (λ more. old.servers.lone.link ++ more) heard.beside in
    subst (λ (l : List Message). Happened cold_kit setup (heard_by cold_kit place message setup state) (record old { servers = record { lone = record old.servers.lone { node = node; link = l } }; net = net; history = history }) before after) (sym same)
    (hears-happen setup state old node net history heard.heard place message before after good shows up stands range (has-room setup core.answered core.hand true old.servers.lone.node led heard.room) hears heard.told)

-- with nothing in hand it is at rest
pub rests-so : (setup : Setup) (state : State Alone) (old : Cluster Solo) → Shows cold_kit setup state old → state.peers.up ≡ true → IsIdle state → old.servers.lone.node.replica ≡ at_rest setup state.world.core.answered
rests-so setup state old shows up idle =
    rests-in setup state.world.core.answered state.world.core.hand true old.servers.lone.node (lead-so setup state old shows up) idle
