-- What is shown of the servers, and refusals.
use Rattle.std.proofs.Common.{◌≡◌, ℕ, ◌+◌, ◌*◌, ◌-◌, ◌^◌, ◌≤◌, Bool, true, false, nat_le, if◌then◌else◌, Option, Some, None, List, [], ◌∷◌, ◌++◌, length, refl, ap, sym, ◌∙◌, arith}
use Rattle.std.specs.Prelude.{is_some}
use Rattle.std.proofs.lemmas.List.{length-map}
use Rattle.script_lines.specs.declared.line.Line.{Line}
use Rattle.script_lines.specs.declared.line.Server.{Server}
use Rattle.script_lines.specs.declared.line.Server.TheVariants.{A, B, C}
use Rattle.script_language.specs.Printing.{line_text}
use Rattle.plain_service.specs.Setups.{Setup}
use Rattle.cluster_facts.specs.Types.{Entry}
use Rattle.cluster_facts.specs.History.{Hand, Empty, Waiting, Applied, Ready}
use Rattle.cluster_events.specs.declared.lines.Standing.{Standing}
use Rattle.cluster_events.specs.declared.lines.Roles.TheVariants.{Two, Three}
use Rattle.cluster_events.specs.Servers.{State}
use Rattle.event_text.specs.Texts.{refused_line}
use Rattle.mirror.specs.Replicas.{number_in_hand}
use Rattle.mirror.proofs.ReplicaLaws.{count-is}
use Rattle.lead_server.specs.Roles.{role_shown}
use Rattle.group_cluster.specs.Seats as defined
use Rattle.group_cluster.specs.Seats.{Clear, Sent, Took, Stance, Out, Owed, Linking, Standby, Peers, hand_number, link_of, back_of, links, backs, role_of, role_of_active, role_by, roles_of, same_server, stance_of, standing_group}
use Rattle.group_cluster.proofs.Seating.{few-seats}
use Rattle.cluster_clients.proofs.PostingSteps.{spelled-length}
use Rattle.cluster_rounds.specs.declared.cluster.Cluster.{Cluster}
use Rattle.cluster_rounds.specs.Worlds.{Shows, IsGood, Does}
use Rattle.group_servers.specs.declared.group.Group.{Group}
use Rattle.group_servers.specs.GroupKit.{group_kit}
use Rattle.group_servers.specs.GroupNodes.{active_by, node_by, seat_by, seats_by, servers_of, to_server, from_server}
use Rattle.group_servers.specs.Standing.{role_at, role_in, roles_in, saturated, links_of, backs_of, standing_as}
use Rattle.group_servers.specs.Steps.{refused_by}

-- Roles.

active-role : (setup : Setup) (past : List Entry) (hand : Hand) (owns : List defined.Seat) (armed : Option ℕ) → role_shown (is_some armed) (active_by setup past hand owns).replica.role ≡ role_of_active armed
active-role setup past Empty owns None = refl
active-role setup past Empty owns (Some left) = refl
active-role setup past (Waiting entry) owns None = refl
active-role setup past (Waiting entry) owns (Some left) = refl
active-role setup past (Applied entry) owns None = refl
active-role setup past (Applied entry) owns (Some left) = refl
active-role setup past (Ready entry) owns None = refl
active-role setup past (Ready entry) owns (Some left) = refl

other-role : (setup : Setup) (past : List Entry) (hand : Hand) (armed : Bool) (stance : Stance) → role_shown armed (node_by setup past hand stance).replica.role ≡ role_by stance
other-role setup past hand true Out = refl
other-role setup past hand false Out = refl
other-role setup past hand true Owed = refl
other-role setup past hand false Owed = refl
other-role setup past hand true (Linking sent) = refl
other-role setup past hand false (Linking sent) = refl
other-role setup past hand true (Standby on_way mark keeps) = refl
other-role setup past hand false (Standby on_way mark keeps) = refl

-- the server of a name
found-role : (setup : Setup) (past : List Entry) (hand : Hand) (server : Server) (owns : List defined.Seat) → role_at server (seats_by setup past hand owns) ≡ (node_by setup past hand (stance_of server owns)).replica.role
found-role setup past hand server [] = refl
found-role setup past hand server (own ∷ owns) = by (same_server server own.server) (found-role setup past hand server owns)
  where
    by : (b : Bool) → role_at server (seats_by setup past hand owns) ≡ (node_by setup past hand (stance_of server owns)).replica.role → (if b then (node_by setup past hand own.stance).replica.role else role_at server (seats_by setup past hand owns)) ≡ (node_by setup past hand (if b then own.stance else stance_of server owns)).replica.role
    by true deeper = refl
    by false deeper = deeper

pub role-is : (n : ℕ) (setup : Setup) (state : State Peers) (server : Server) → role_in server (servers_of n setup state) ≡ role_of server state.peers
role-is n setup state server =
    let core = state.world.core in
    let owns = state.peers.seats in
    let armed = is_some state.peers.armed in
    λ i. if same_server server state.peers.acting
    then active-role setup core.answered core.hand owns state.peers.armed i
    else (ap (role_shown armed) (found-role setup core.answered core.hand server owns) ∙ other-role setup core.answered core.hand armed (stance_of server owns)) i

-- of two servers, or of three
roles-are : (n : ℕ) (setup : Setup) (state : State Peers) → roles_in (servers_of n setup state) ≡ roles_of state.peers
roles-are n setup state =
    let long = length-map state.peers.seats (seat_by setup state.world.core.answered state.world.core.hand) in
    λ i. if nat_le 3 (long i)
    then Three (role-is n setup state A i) (role-is n setup state B i) (role-is n setup state C i)
    else Two (role-is n setup state A i) (role-is n setup state B i)

-- the number of the entry in hand
hand-number : (setup : Setup) (past : List Entry) (hand : Hand) (owns : List defined.Seat) → number_in_hand (active_by setup past hand owns).replica ≡ hand_number (length past) hand
hand-number setup past Empty owns = refl
hand-number setup past (Waiting entry) owns = ap Some (count-is setup (entry ∷ past))
hand-number setup past (Applied entry) owns = ap Some (count-is setup (entry ∷ past))
hand-number setup past (Ready entry) owns = ap Some (count-is setup (entry ∷ past))

-- Sums.

mirror-few : (past : List Entry) (hand : Hand) → length (defined.mirror_of past hand) ≤ 1
mirror-few past Empty = omega arith
mirror-few past (Waiting entry) = omega arith
mirror-few past (Applied entry) = omega arith
mirror-few past (Ready entry) = omega arith

link-few : (past : List Entry) (hand : Hand) (stance : Stance) → length (link_of past hand stance) ≤ 2
link-few past hand Out = omega arith
link-few past hand Owed = omega arith
link-few past hand (Linking true) = let few = mirror-few past hand in omega arith
link-few past hand (Linking false) = omega arith
link-few past hand (Standby on_way Sent keeps) = let few = mirror-few past hand in omega arith
link-few past hand (Standby on_way Clear keeps) = omega arith
link-few past hand (Standby on_way Took keeps) = omega arith

back-few : (past : List Entry) (stance : Stance) → length (back_of past stance) ≤ 2
back-few past Out = omega arith
back-few past Owed = omega arith
back-few past (Linking sent) = omega arith
back-few past (Standby None Clear keeps) = omega arith
back-few past (Standby None Sent keeps) = omega arith
back-few past (Standby None Took keeps) = omega arith
back-few past (Standby (Some number) Clear keeps) = omega arith
back-few past (Standby (Some number) Sent keeps) = omega arith
back-few past (Standby (Some number) Took keeps) = omega arith

links-few : (past : List Entry) (hand : Hand) (owns : List defined.Seat) → links past hand owns ≤ 2 * length owns
links-few past hand [] = omega arith
links-few past hand (own ∷ owns) = let one = link-few past hand own.stance in let others = links-few past hand owns in omega arith

backs-few : (past : List Entry) (owns : List defined.Seat) → backs past owns ≤ 2 * length owns
backs-few past [] = omega arith
backs-few past (own ∷ owns) = let one = back-few past own.stance in let others = backs-few past owns in omega arith

-- no sum stops
saturated-is : (one other : ℕ) → one + other ≤ 2 ^ 64 - 1 → saturated one other ≡ one + other
saturated-is one other within = omega arith

links-are : (setup : Setup) (past : List Entry) (hand : Hand) (owns : List defined.Seat) → links past hand owns ≤ 2 ^ 64 - 1 → links_of (seats_by setup past hand owns) ≡ links past hand owns
links-are setup past hand [] within = refl
links-are setup past hand (own ∷ owns) within =
    (λ i. saturated (length-map (link_of past hand own.stance) (to_server setup) i) (links-are setup past hand owns (omega arith) i))
    ∙ saturated-is (length (link_of past hand own.stance)) (links past hand owns) within

backs-are : (setup : Setup) (past : List Entry) (hand : Hand) (owns : List defined.Seat) → backs past owns ≤ 2 ^ 64 - 1 → backs_of (seats_by setup past hand owns) ≡ backs past owns
backs-are setup past hand [] within = refl
backs-are setup past hand (own ∷ owns) within =
    (λ i. saturated (length-map (back_of past own.stance) from_server i) (backs-are setup past hand owns (omega arith) i))
    ∙ saturated-is (length (back_of past own.stance)) (backs past owns) within

module _ (n : ℕ) where
  -- **what is shown of the servers**
  pub standing-is : (setup : Setup) (state : State Peers) (world : Cluster (Group n)) → IsGood (group_kit n) setup state → Shows (group_kit n) setup state world → standing_as world ≡ standing_group state
  standing-is setup state world good shows =
      let core = state.world.core in
      let owns = state.peers.seats in
      let few = few-seats n owns good.steady.good.names in
      let links_few = links-few core.answered core.hand owns in
      let backs_few = backs-few core.answered owns in
      let S : Group n → ℕ → Standing = λ servers net. record {
        roles = roles_in servers;
        net = net;
        link = links_of servers.seats;
        back = backs_of servers.seats;
        in_hand = number_in_hand servers.active.replica;
      }
      in
      (λ i. S (shows.own i) (sym (spelled-length state.world.net world.net shows.net) i))
      ∙ (λ i. record {
        roles = roles-are n setup state i;
        net = length state.world.net;
        link = links-are setup core.answered core.hand owns (omega arith) i;
        back = backs-are setup core.answered core.hand owns (omega arith) i;
        in_hand = hand-number setup core.answered core.hand owns i;
      })

  -- **a refusal leaves all as it is, and prints its line**
  pub refuses : (line : Line) (world : Cluster (Group n)) (before after : List (List ℕ)) → after ≡ before ++ refused_line (line_text line) (standing_as world) ∷ [] → Does (group_kit n) (refused_by n line) world world before after
  refuses line world before after is setup state good shows =
      (shows, good, is ∙ ap (λ standing. before ++ refused_line (line_text line) standing ∷ []) (standing-is setup state world good shows))
