-- A good state of two servers: the seat of the active one is empty, and the other one has the other seat.
use Rattle.std.proofs.Common.{◌≡◌, true, false, List, [], ◌∷◌, map, refl, ap, sym, subst, ◌∙◌}
use Rattle.script_lines.specs.declared.line.Server.{Server}
use Rattle.script_lines.specs.declared.line.Server.TheVariants.{A, B, C}
use Rattle.wire.specs.declared.message.Message.{Message}
use Rattle.plain_service.specs.Setups.{Setup}
use Rattle.cluster_facts.specs.Types.{Entry}
use Rattle.cluster_facts.specs.History.{Hand, Empty}
use Rattle.cluster_events.specs.Servers.{State}
use Rattle.mirror.specs.declared.state.NodeState.{NodeState as Node}
use Rattle.group_cluster.specs.Seats as defined
use Rattle.group_cluster.specs.Seats.{Stance, Out, Peers, IsApart, AreNames, IsGroup, is_named, names_of, same_server, link_of, back_of}
use Rattle.group_servers.specs.declared.group.Seat.{Seat}
use Rattle.group_servers.specs.declared.group.Group.{Group}
use Rattle.group_servers.specs.GroupNodes.{bare, node_by, seats_by, servers_of, to_server, from_server}
use Rattle.cluster_core.specs.Worlds.{seats_beside}

-- two servers, of which this one is active, by the stance of the other one
abbrev pub two_beside : Server → Stance → List defined.Seat
two_beside A stance = record { server = A; stance = Out } ∷ record { server = B; stance = stance } ∷ []
two_beside _ stance = record { server = A; stance = stance } ∷ record { server = B; stance = Out } ∷ []

abbrev pub IsOfTwo : Server → Type 0
IsOfTwo A = Unit {0}
IsOfTwo B = Unit {0}
IsOfTwo C = ⊥

pub record AreTwo (acting : Server) (seats : List defined.Seat) : Type 0 where
  pub stance : Stance
  pub is : seats ≡ two_beside acting stance
  pub acts : IsOfTwo acting

abbrev first_name : List Server → Server
first_name [] = A
first_name (server ∷ servers) = server

abbrev second_name : List Server → Server
second_name [] = A
second_name (server ∷ servers) = first_name servers

pub are-two : (acting : Server) (seats : List defined.Seat) → IsApart acting seats → AreNames 2 (names_of seats) → is_named acting (names_of seats) ≡ true → AreTwo acting seats
are-two acting [] apart names acts = cc
are-two acting (one ∷ []) apart names acts = cc
are-two A (one ∷ other ∷ []) apart names acts =
    let first : one.server ≡ A = ap first_name names in
    let second : other.server ≡ B = ap second_name names in
    let out : one.stance ≡ Out = apart.0 (ap (λ server. same_server server A) first) in
    record { stance = other.stance; is = λ i. record { server = first i; stance = out i } ∷ record { server = second i; stance = other.stance } ∷ []; acts = tt }
are-two B (one ∷ other ∷ []) apart names acts =
    let first : one.server ≡ A = ap first_name names in
    let second : other.server ≡ B = ap second_name names in
    let out : other.stance ≡ Out = apart.1.0 (ap (λ server. same_server server B) second) in
    record { stance = one.stance; is = λ i. record { server = first i; stance = one.stance } ∷ record { server = second i; stance = out i } ∷ []; acts = tt }
are-two C (one ∷ other ∷ []) apart names acts =
    let none : true ≡ false = sym acts ∙ ap (is_named C) names in
    cc
are-two acting (one ∷ other ∷ more ∷ seats) apart names acts = cc

-- **a good state is one of two servers**
pub two-good : (state : State Peers) → IsGroup 2 state → AreTwo state.peers.acting state.peers.seats
two-good state good = are-two state.peers.acting state.peers.seats good.apart good.names good.acts

-- the seats of the code, in the order in which a world puts them together
pub record AreBeside (acting : Server) (seats : List Seat) : Type 0 where
  pub other : Node
  pub link : List Message
  pub back : List Message
  pub is : seats ≡ seats_beside acting other link back
  pub acts : IsOfTwo acting

seats-as : (setup : Setup) (past : List Entry) (hand : Hand) (acting : Server) (stance : Stance) → seats_by setup past hand (two_beside acting stance) ≡ seats_beside acting (node_by setup past hand stance) (map (to_server setup) (link_of past hand stance)) (map from_server (back_of past stance))
seats-as setup past hand A stance = refl
seats-as setup past hand B stance = refl
seats-as setup past hand C stance = refl

bare-as : (setup : Setup) (past : List Entry) (hand : Hand) (acting : Server) (stance : Stance) → bare setup past hand (two_beside acting stance) ≡ seats_beside acting (node_by setup past hand stance) [] []
bare-as setup past hand A stance = refl
bare-as setup past hand B stance = refl
bare-as setup past hand C stance = refl

-- those at a good state
pub shown-beside : (setup : Setup) (state : State Peers) (servers : Group 2) → IsGroup 2 state → servers ≡ servers_of 2 setup state → AreBeside servers.acting servers.seats
shown-beside setup state servers good own =
    let core = state.world.core in
    let two = two-good state good in
    let node = node_by setup core.answered core.hand two.stance in
    let link = map (to_server setup) (link_of core.answered core.hand two.stance) in
    let back = map from_server (back_of core.answered two.stance) in
    record {
      other = node;
      link = link;
      back = back;
      is = ap (λ (s : Group 2). s.seats) own
          ∙ ap (seats_by setup core.answered core.hand) two.is
          ∙ seats-as setup core.answered core.hand state.peers.acting two.stance
          ∙ ap (λ (acting : Server). seats_beside acting node link back) (sym (ap (λ (s : Group 2). s.acting) own));
      acts = subst IsOfTwo (sym (ap (λ (s : Group 2). s.acting) own)) two.acts;
    }

-- and those that are left where no server is active
pub fallen-beside : (setup : Setup) (state : State Peers) (servers : Group 2) → IsGroup 2 state → servers.acting ≡ state.peers.acting → servers.seats ≡ bare setup state.world.core.answered Empty state.peers.seats → AreBeside servers.acting servers.seats
fallen-beside setup state servers good same fell =
    let past = state.world.core.answered in
    let two = two-good state good in
    let node = node_by setup past Empty two.stance in
    record {
      other = node;
      link = [];
      back = [];
      is = fell
          ∙ ap (bare setup past Empty) two.is
          ∙ bare-as setup past Empty state.peers.acting two.stance
          ∙ ap (λ (acting : Server). seats_beside acting node [] []) (sym same);
      acts = subst IsOfTwo (sym same) two.acts;
    }
