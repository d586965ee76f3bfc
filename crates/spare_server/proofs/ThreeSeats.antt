-- A world of three servers and its parts: the seats of all three, and who of them is active.
use Rattle.std.proofs.Common.{◌≡◌, Bool, true, false, if◌then◌else◌, List, [], ◌∷◌, map, refl, ap, sym, subst, ◌∙◌}
use Rattle.script_lines.specs.declared.line.Server.{Server}
use Rattle.script_lines.specs.declared.line.Server.TheVariants.{A, B, C}
use Rattle.wire.specs.declared.message.Message.{Message}
use Rattle.plain_service.specs.Setups.{Setup}
use Rattle.cluster_facts.specs.Types.{Entry}
use Rattle.cluster_facts.specs.History.{Hand, Empty, Waiting, Applied, Ready}
use Rattle.cluster_events.specs.Servers.{State}
use Rattle.mirror.specs.declared.state.NodeState.{NodeState as Node}
use Rattle.mirror.specs.Replicas.{down}
use Rattle.mirror.specs.Pairing.{alone}
use Rattle.group_cluster.specs.Seats as defined
use Rattle.group_cluster.specs.Seats.{Stance, Out, Owed, Linking, Standby, Peers, IsApart, IsGroup, names_of, same_server, link_of, back_of}
use Rattle.cluster_rounds.specs.declared.cluster.Cluster.{Cluster}
use Rattle.group_servers.specs.declared.group.Seat.{Seat}
use Rattle.group_servers.specs.declared.group.Group.{Group}
use Rattle.group_servers.specs.GroupUses.{AreToldAlike}
use Rattle.group_servers.specs.GroupNodes.{active_by, bare, bare_by, node_by, seats_by, servers_of, to_server, from_server}
use Rattle.spare_server.specs.declared.world.TrioWorld.{TrioWorld}
use Rattle.spare_server.specs.Parts.{acting_in, first_seat, is_active, second_seat, third_seat, whole_of}
use Rattle.spare_server.specs.Worlds.{empty_trio, node_of, parts_of, seats_of, with_node}

-- Three servers of a good state.

pub record AreThree (owns : List defined.Seat) : Type 0 where
  pub one : defined.Seat
  pub other : defined.Seat
  pub third : defined.Seat
  pub is : owns ≡ one ∷ other ∷ third ∷ []
  pub first : one.server ≡ A
  pub second : other.server ≡ B
  pub last : third.server ≡ C

abbrev first_name : List Server → Server
first_name [] = A
first_name (server ∷ servers) = server

abbrev second_name : List Server → Server
second_name [] = A
second_name (server ∷ servers) = first_name servers

abbrev third_name : List Server → Server
third_name [] = A
third_name (server ∷ servers) = second_name servers

pub are-three : (owns : List defined.Seat) → names_of owns ≡ A ∷ B ∷ C ∷ [] → AreThree owns
are-three [] names = cc
are-three (one ∷ []) names = cc
are-three (one ∷ other ∷ []) names = cc
are-three (one ∷ other ∷ third ∷ []) names =
    record { one = one; other = other; third = third; is = refl; first = ap first_name names; second = ap second_name names; last = ap third_name names }
are-three (one ∷ other ∷ third ∷ more ∷ owns) names = cc

pub three-good : (state : State Peers) → IsGroup 3 state → AreThree state.peers.seats
three-good state good = are-three state.peers.seats good.names

-- The seats of the code are those of some world, with a server that is down in the active one's.
pub record AreSeats (acting : Server) (seats : List Seat) : Type 0 where
  pub world : TrioWorld
  pub is : seats ≡ seats_of (with_node acting (alone down) world)

abbrev seat_as : (Stance → Node) → (link back : Stance → List Message) → defined.Seat → Seat
seat_as node link back own = record { server = own.server; node = node own.stance; link = link own.stance; back = back own.stance }

-- a world with these
abbrev world_as : (Stance → Node) → (link back : Stance → List Message) → (one other third : Stance) → TrioWorld
world_as node link back one other third = record empty_trio {
  a = node one;
  b = node other;
  c = node third;
  link_a = link one;
  link_b = link other;
  link_c = link third;
  back_a = back one;
  back_b = back other;
  back_c = back third;
}

seats-at : (node : Stance → Node) (link back : Stance → List Message) → node Out ≡ alone down → (acting : Server) (one other third : defined.Seat) → one.server ≡ A → other.server ≡ B → third.server ≡ C → IsApart acting (one ∷ other ∷ third ∷ []) → AreSeats acting (map (seat_as node link back) (one ∷ other ∷ third ∷ []))
seats-at node link back none A one other third first second last apart =
    let is : node one.stance ≡ alone down = ap node (apart.0 (ap (λ server. same_server server A) first)) ∙ none in
    record {
      world = world_as node link back one.stance other.stance third.stance;
      is = λ i.
          record { server = first i; node = is i; link = link one.stance; back = back one.stance }
          ∷ record { server = second i; node = node other.stance; link = link other.stance; back = back other.stance }
          ∷ record { server = last i; node = node third.stance; link = link third.stance; back = back third.stance }
          ∷ [];
    }
seats-at node link back none B one other third first second last apart =
    let is : node other.stance ≡ alone down = ap node (apart.1.0 (ap (λ server. same_server server B) second)) ∙ none in
    record {
      world = world_as node link back one.stance other.stance third.stance;
      is = λ i.
          record { server = first i; node = node one.stance; link = link one.stance; back = back one.stance }
          ∷ record { server = second i; node = is i; link = link other.stance; back = back other.stance }
          ∷ record { server = last i; node = node third.stance; link = link third.stance; back = back third.stance }
          ∷ [];
    }
seats-at node link back none C one other third first second last apart =
    let is : node third.stance ≡ alone down = ap node (apart.1.1.0 (ap (λ server. same_server server C) last)) ∙ none in
    record {
      world = world_as node link back one.stance other.stance third.stance;
      is = λ i.
          record { server = first i; node = node one.stance; link = link one.stance; back = back one.stance }
          ∷ record { server = second i; node = node other.stance; link = link other.stance; back = back other.stance }
          ∷ record { server = last i; node = is i; link = link third.stance; back = back third.stance }
          ∷ [];
    }

seats-as : (node : Stance → Node) (link back : Stance → List Message) → node Out ≡ alone down → (acting : Server) (owns : List defined.Seat) → AreThree owns → IsApart acting owns → AreSeats acting (map (seat_as node link back) owns)
seats-as node link back none acting owns three apart =
    subst (λ (o : List defined.Seat). AreSeats acting (map (seat_as node link back) o)) (sym three.is)
    (seats-at node link back none acting three.one three.other three.third three.first three.second three.last (subst (λ (o : List defined.Seat). IsApart acting o) three.is apart))

-- those at a good state
pub shown-seats : (setup : Setup) (state : State Peers) (servers : Group 3) → IsGroup 3 state → servers ≡ servers_of 3 setup state → AreSeats servers.acting servers.seats
shown-seats setup state servers good own =
    let core = state.world.core in
    let node : Stance → Node = node_by setup core.answered core.hand in
    let link : Stance → List Message = λ stance. map (to_server setup) (link_of core.answered core.hand stance) in
    let back : Stance → List Message = λ stance. map from_server (back_of core.answered stance) in
    let same : servers.acting ≡ state.peers.acting = ap (λ (s : Group 3). s.acting) own in
    let seats : AreSeats state.peers.acting (seats_by setup core.answered core.hand state.peers.seats) =
    seats-as node link back refl state.peers.acting state.peers.seats (three-good state good) good.apart in
    subst (λ (acting : Server). AreSeats acting servers.seats) (sym same)
    (subst (λ (s : List Seat). AreSeats state.peers.acting s) (sym (ap (λ (s : Group 3). s.seats) own)) seats)

bare-as : (setup : Setup) (past : List Entry) (hand : Hand) (owns : List defined.Seat) → bare setup past hand owns ≡ map (bare_by setup past hand) owns
bare-as setup past hand [] = refl
bare-as setup past hand (own ∷ owns) = ap (λ rest. bare_by setup past hand own ∷ rest) (bare-as setup past hand owns)

-- and those that are left where no server is active
pub fallen-seats : (setup : Setup) (state : State Peers) (servers : Group 3) → IsGroup 3 state → servers.acting ≡ state.peers.acting → servers.seats ≡ bare setup state.world.core.answered Empty state.peers.seats → AreSeats servers.acting servers.seats
fallen-seats setup state servers good same fell =
    let past = state.world.core.answered in
    let none : Stance → List Message = λ stance. [] in
    let seats : AreSeats state.peers.acting (map (bare_by setup past Empty) state.peers.seats) =
    seats-as (node_by setup past Empty) none none refl state.peers.acting state.peers.seats (three-good state good) good.apart in
    subst (λ (acting : Server). AreSeats acting servers.seats) (sym same)
    (subst (λ (s : List Seat). AreSeats state.peers.acting s) (sym (fell ∙ bare-as setup past Empty state.peers.seats)) seats)

-- A world taken apart and put together.

pub same-whole : (acting : Server) (world : TrioWorld) → whole_of (parts_of acting world) ≡ world
same-whole A world = refl
same-whole B world = refl
same-whole C world = refl

parts-by : (acting : Server) (world : TrioWorld) (parts : Cluster (Group 3)) → parts_of acting (whole_of (record parts { servers = record parts.servers { acting = acting; seats = seats_of (with_node acting (alone down) world) } })) ≡ record parts { servers = record parts.servers { acting = acting; seats = seats_of (with_node acting (alone down) world) } }
parts-by A world parts = refl
parts-by B world parts = refl
parts-by C world parts = refl

-- parts with such seats are those of the world that they make
pub parts-back : (parts : Cluster (Group 3)) → AreSeats parts.servers.acting parts.servers.seats → parts_of parts.servers.acting (whole_of parts) ≡ parts
parts-back parts are =
    let with_seats : List Seat → Cluster (Group 3) = λ seats. record parts { servers = record parts.servers { seats = seats } } in
    subst (λ (seats : List Seat). parts_of parts.servers.acting (whole_of (with_seats seats)) ≡ with_seats seats) (sym are.is)
    (parts-by parts.servers.acting are.world parts)

-- where it led still, the server that was active is in the world as in its parts
pub told-alike : (acting : Server) (parts : Cluster (Group 3)) → AreToldAlike acting parts.servers (parts_of acting (whole_of parts)).servers
told-alike A parts =
    let own = parts.servers.active in
    let seat = (first_seat parts.servers.seats).node in
    record { armed = refl; leads = λ is. (refl, ap (λ (server : Server). if same_server server A then own else seat) is) }
told-alike B parts =
    let own = parts.servers.active in
    let seat = (second_seat parts.servers.seats).node in
    record { armed = refl; leads = λ is. (refl, ap (λ (server : Server). if same_server server B then own else seat) is) }
told-alike C parts =
    let own = parts.servers.active in
    let seat = (third_seat parts.servers.seats).node in
    record { armed = refl; leads = λ is. (refl, ap (λ (server : Server). if same_server server C then own else seat) is) }

-- Who is active.

other-idle : (setup : Setup) (past : List Entry) (hand : Hand) (stance : Stance) → is_active (node_by setup past hand stance).replica.role ≡ false
other-idle setup past hand Out = refl
other-idle setup past hand Owed = refl
other-idle setup past hand (Linking sent) = refl
other-idle setup past hand (Standby on_way mark keeps) = refl

pub active-acts : (setup : Setup) (past : List Entry) (hand : Hand) (owns : List defined.Seat) → is_active (active_by setup past hand owns).replica.role ≡ true
active-acts setup past Empty owns = refl
active-acts setup past (Waiting entry) owns = refl
active-acts setup past (Applied entry) owns = refl
active-acts setup past (Ready entry) owns = refl

abbrev pub first_node : List Seat → Node
first_node (one ∷ seats) = one.node
first_node _ = alone down

abbrev pub second_node : List Seat → Node
second_node (one ∷ other ∷ seats) = other.node
second_node _ = alone down

abbrev pub third_node : List Seat → Node
third_node (one ∷ other ∷ third ∷ seats) = third.node
third_node _ = alone down

abbrev choose : (b c : Bool) → Server
choose b c = if b then B else if c then C else A

idle : (setup : Setup) (past : List Entry) (hand : Hand) (stance : Stance) (node : Node) → node ≡ node_by setup past hand stance → is_active node.replica.role ≡ false
idle setup past hand stance node is = ap (λ (n : Node). is_active n.replica.role) is ∙ other-idle setup past hand stance

acts : (setup : Setup) (past : List Entry) (hand : Hand) (owns : List defined.Seat) (node : Node) → node ≡ active_by setup past hand owns → is_active node.replica.role ≡ true
acts setup past hand owns node is = ap (λ (n : Node). is_active n.replica.role) is ∙ active-acts setup past hand owns

-- the second server and the third are not active but as the active one
acts-at : (acting : Server) (setup : Setup) (past : List Entry) (hand : Hand) (owns : List defined.Seat) (one other third : defined.Seat) (world : TrioWorld) → node_of acting world ≡ active_by setup past hand owns → seats_of (with_node acting (alone down) world) ≡ seats_by setup past hand (one ∷ other ∷ third ∷ []) → acting_in world ≡ acting
acts-at A setup past hand owns one other third world active seats =
    let b = idle setup past hand other.stance world.b (ap second_node seats) in
    let c = idle setup past hand third.stance world.c (ap third_node seats) in
    (λ i. choose (b i) (c i))
acts-at B setup past hand owns one other third world active seats =
    ap (λ b. choose b (is_active world.c.replica.role)) (acts setup past hand owns world.b active)
acts-at C setup past hand owns one other third world active seats =
    let b = idle setup past hand other.stance world.b (ap second_node seats) in
    let c = acts setup past hand owns world.c active in
    (λ i. choose (b i) (c i))

-- **the active server of a world is that of each good state that it stands for**
pub acts-in : (setup : Setup) (state : State Peers) (world : TrioWorld) → IsGroup 3 state → (parts_of state.peers.acting world).servers ≡ servers_of 3 setup state → acting_in world ≡ state.peers.acting
acts-in setup state world good own =
    let core = state.world.core in
    let three = three-good state good in
    acts-at state.peers.acting setup core.answered core.hand state.peers.seats three.one three.other three.third world
    (ap (λ (servers : Group 3). servers.active) own)
    (ap (λ (servers : Group 3). servers.seats) own ∙ ap (seats_by setup core.answered core.hand) three.is)
