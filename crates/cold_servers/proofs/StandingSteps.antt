-- How the server and its journal are shown.
use Rattle.std.proofs.Common.{◌≡◌, ℕ, Bool, true, false, Some, List, [], ◌∷◌, ◌++◌, length, refl, ap, sym, ◌∙◌}
use Rattle.script_lines.specs.declared.line.Line.{Line}
use Rattle.script_language.specs.Printing.{line_text}
use Rattle.plain_service.specs.Setups.{Setup}
use Rattle.cluster_facts.specs.Types.{Entry}
use Rattle.cluster_facts.specs.History.{Hand, Empty, Waiting, Applied, Ready}
use Rattle.cluster_events.specs.declared.lines.Standing.{Standing}
use Rattle.cluster_events.specs.declared.lines.Roles.TheVariants.{Two}
use Rattle.cluster_events.specs.declared.lines.ServerRole.TheVariants as shown
use Rattle.cluster_events.specs.Servers.{State}
use Rattle.event_text.specs.Texts.{refused_line}
use Rattle.mirror.specs.declared.heard.Role.{Role}
use Rattle.mirror.specs.declared.heard.Role.TheVariants.{Active, Standby, Joining, Down}
use Rattle.mirror.specs.declared.state.NodeState.{NodeState}
use Rattle.mirror.specs.Replicas.{number_in_hand}
use Rattle.mirror.proofs.ReplicaLaws.{count-is}
use Rattle.lead_server.specs.Roles.{role_shown}
use Rattle.group_cluster.specs.Seats.{hand_number}
use Rattle.cluster_clients.specs.Spelled.{AreSpelled}
use Rattle.cluster_clients.proofs.PostingSteps.{spelled-length}
use Rattle.cluster_rounds.specs.declared.cluster.Cluster.{Cluster}
use Rattle.cluster_rounds.specs.Worlds.{Shows, IsGood, Does}
use Rattle.cluster_lines.specs.Showing.{refused}
use Rattle.cold_cluster.specs.Cold.{Alone, IsCold}
use Rattle.cold_cluster.specs.Standing.{any_armed, role_up, shown_up, standing_cold}
use Rattle.lone_server.specs.declared.lone.Lone.{Lone}
use Rattle.cold_servers.specs.declared.solo.Solo.{Solo}
use Rattle.cold_servers.specs.ColdKit.{cold_kit}
use Rattle.cold_servers.specs.ColdNodes.{IsFallen, OwnBy, active_by, up_by}
use Rattle.cold_servers.specs.Standing.{standing_as}
use Rattle.cold_servers.specs.Steps.{AllDown, AllUp, is_active}
use Rattle.cold_servers.proofs.MarkSteps.{backs-are, links-are}

-- the server that is up is active
pub active-role : (setup : Setup) (past : List Entry) (hand : Hand) → (active_by setup past hand).replica.role ≡ Active
active-role setup past Empty = refl
active-role setup past (Waiting entry) = refl
active-role setup past (Applied entry) = refl
active-role setup past (Ready entry) = refl

armed-role : (armed : Bool) → role_shown armed Active ≡ role_up armed
armed-role true = refl
armed-role false = refl

hand-number : (setup : Setup) (past : List Entry) (hand : Hand) → number_in_hand (active_by setup past hand).replica ≡ hand_number (length past) hand
hand-number setup past Empty = refl
hand-number setup past (Waiting entry) = ap Some (count-is setup (entry ∷ past))
hand-number setup past (Applied entry) = ap Some (count-is setup (entry ∷ past))
hand-number setup past (Ready entry) = ap Some (count-is setup (entry ∷ past))

by-up : (up : Bool) (setup : Setup) (state : State Alone) (world : Cluster Solo) → IsCold state → AreSpelled state.world.net world.net → OwnBy up setup state.world.core.answered state.world.core.hand state.peers world.servers.lone → standing_as world ≡ shown_up up state
by-up true setup state world cold net own =
    let core = state.world.core in
    let armed = any_armed state.peers in
    let S : Lone → ℕ → Standing = λ servers count. record {
      roles = Two (role_shown servers.armed servers.node.replica.role) shown.Journal;
      net = count;
      link = length servers.link;
      back = length servers.back;
      in_hand = number_in_hand servers.node.replica;
    }
    in
    (λ i. S (own i) (sym (spelled-length state.world.net world.net net) i))
    ∙ (λ i. record {
      roles = Two ((ap (role_shown armed) (active-role setup core.answered core.hand) ∙ armed-role armed) i) shown.Journal;
      net = length state.world.net;
      link = links-are state cold i;
      back = backs-are state cold i;
      in_hand = hand-number setup core.answered core.hand i;
    })
by-up false setup state world cold net own = λ i. record {
  roles = Two (role_shown (own.down.armed i) (own.down.node i).replica.role) shown.Journal;
  net = sym (spelled-length state.world.net world.net net) i;
  link = length (own.down.link i);
  back = length (own.down.back i);
  in_hand = number_in_hand (own.down.node i).replica;
}

-- By its role it is told whether the server is up.

down-role : (peers : Alone) (servers : Lone) → IsFallen peers servers → servers.node.replica.role ≡ Active → ⊥
down-role peers servers own active = let is = sym (ap (λ (n : NodeState). n.replica.role) own.down.node) ∙ active in cc

up-role : (setup : Setup) (past : List Entry) (hand : Hand) (peers : Alone) (servers : Lone) → servers ≡ up_by setup past hand peers
    → servers.node.replica.role ≡ Active
up-role setup past hand peers servers own = ap (λ (s : Lone). s.node.replica.role) own ∙ active-role setup past hand

active-up : (up : Bool) (setup : Setup) (past : List Entry) (hand : Hand) (peers : Alone) (servers : Lone) → OwnBy up setup past hand peers servers
    → servers.node.replica.role ≡ Active → up ≡ true
active-up true setup past hand peers servers own active = refl
active-up false setup past hand peers servers own active = absurd (down-role peers servers own active)

inactive-down : (up : Bool) (setup : Setup) (past : List Entry) (hand : Hand) (peers : Alone) (servers : Lone) → OwnBy up setup past hand peers servers
    → (servers.node.replica.role ≡ Active → ⊥) → up ≡ false
inactive-down true setup past hand peers servers own other = absurd (other (up-role setup past hand peers servers own))
inactive-down false setup past hand peers servers own other = refl

pub role-up : (world : Cluster Solo) → world.servers.lone.node.replica.role ≡ Active → AllUp world
role-up world active setup state good shows =
    active-up state.peers.up setup state.world.core.answered state.world.core.hand state.peers world.servers.lone shows.own active

pub role-down : (world : Cluster Solo) → (world.servers.lone.node.replica.role ≡ Active → ⊥) → AllDown world
role-down world other setup state good shows =
    inactive-down state.peers.up setup state.world.core.answered state.world.core.hand state.peers world.servers.lone shows.own other

pub role-rests : (role : Role) → (role ≡ Active → ⊥) → is_active role ≡ false
role-rests Active other = absurd (other refl)
role-rests Standby other = refl
role-rests Joining other = refl
role-rests Down other = refl

-- **what is shown of them**
pub standing-is : (setup : Setup) (state : State Alone) (world : Cluster Solo) → IsGood cold_kit setup state → Shows cold_kit setup state world → standing_as world ≡ standing_cold state
standing-is setup state world good shows = by-up state.peers.up setup state world good.steady.good shows.net shows.own

-- **a refusal leaves all as it is, and prints its line**
pub refuses : (next : Line) (world : Cluster Solo) (before after : List (List ℕ)) → after ≡ before ++ refused_line (line_text next) (standing_as world) ∷ [] → Does cold_kit (refused cold_kit next) world world before after
refuses next world before after is setup state good shows =
    (shows, good, is ∙ ap (λ standing. before ++ refused_line (line_text next) standing ∷ []) (standing-is setup state world good shows))
