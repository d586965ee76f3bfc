-- What the servers are as one comes back.
use Rattle.std.proofs.Common.{◌≡◌, Bool, true, false, ◌||◌, if◌then◌else◌, List, [], ◌∷◌, map, refl, ap, sym, ◌∙◌}
use Rattle.std.specs.List.{list_any}
use Rattle.script_lines.specs.declared.line.Server.{Server}
use Rattle.wire.specs.declared.message.Message.{Message}
use Rattle.plain_service.specs.Setups.{Setup}
use Rattle.cluster_facts.specs.Types.{Entry}
use Rattle.cluster_facts.specs.History.{Hand, Empty, Waiting, Applied, Ready}
use Rattle.mirror.specs.declared.heard.Heard.{Heard}
use Rattle.mirror.specs.declared.state.NodeState.{NodeState as Node}
use Rattle.mirror.specs.declared.node.Tie.TheVariants.{Apart, Linked}
use Rattle.mirror.specs.Pairing.{alone, joining}
use Rattle.group_cluster.specs.Seats as defined
use Rattle.group_cluster.specs.Seats.{Stance, Out, Owed, Linking, Standby, any_seat, is_up, link_of, names_of, same_server, stance_of}
use Rattle.group_cluster.specs.Falling.{back_by, joining_by, set_at}
use Rattle.group_cluster.proofs.Seating.{any-at}
use Rattle.group_servers.specs.declared.group.Seat.{Seat}
use Rattle.group_servers.specs.GroupNodes.{active_by, is_linked, seat_by, seats_by, to_server}
use Rattle.group_servers.specs.Parted.{Begins, joined_at}
use Rattle.group_servers.proofs.NameSteps.{Once, absent-behind, set-absent}
use Rattle.group_servers.proofs.SeatSteps.{at}

-- A server that comes back.

joined-one : (setup : Setup) (past : List Entry) (hand : Hand) (server : Server) (messages : List Message) → messages ≡ map (to_server setup) (link_of past hand (joining_by hand)) → record (seat_by setup past hand (at server Out)) { node = alone joining; link = messages } ≡ seat_by setup past hand (at server (joining_by hand))
joined-one setup past Empty server messages is = λ i. record { server = server; node = alone joining; link = is i; back = [] }
joined-one setup past (Waiting entry) server messages is = λ i. record { server = server; node = alone joining; link = is i; back = [] }
joined-one setup past (Applied entry) server messages is = λ i. record { server = server; node = alone joining; link = is i; back = [] }
joined-one setup past (Ready entry) server messages is = λ i. record { server = server; node = alone joining; link = is i; back = [] }

-- **the seats then**
pub joined-seats : (setup : Setup) (past : List Entry) (hand : Hand) (server : Server) (messages : List Message) (owns : List defined.Seat) → Once (names_of owns) → is_up (stance_of server owns) ≡ false → messages ≡ map (to_server setup) (link_of past hand (joining_by hand)) → joined_at server messages (seats_by setup past hand owns) ≡ seats_by setup past hand (set_at server (back_by hand) owns)
joined-seats setup past hand server messages [] once out are = refl
joined-seats setup past hand server messages (own ∷ owns) once out are =
    by (same_server server own.server) refl out (λ deeper. joined-seats setup past hand server messages owns once.1 deeper are)
  where
    seat : Seat
    seat = seat_by setup past hand own

    others : List Seat
    others = seats_by setup past hand owns

    first : (stance : Stance) → is_up stance ≡ false → record (seat_by setup past hand (at own.server stance)) { node = alone joining; link = messages } ≡ seat_by setup past hand (at own.server (back_by hand stance))
    first Out is = joined-one setup past hand own.server messages are
    first Owed is = cc
    first (Linking sent) is = cc
    first (Standby on_way mark keeps) is = cc

    by : (b : Bool) → same_server server own.server ≡ b → is_up (if b then own.stance else stance_of server owns) ≡ false → (is_up (stance_of server owns) ≡ false → joined_at server messages others ≡ seats_by setup past hand (set_at server (back_by hand) owns)) → (if b then record seat { node = alone joining; link = messages } ∷ others else seat ∷ joined_at server messages others) ≡ seat_by setup past hand (at own.server (if b then back_by hand own.stance else own.stance)) ∷ seats_by setup past hand (set_at server (back_by hand) owns)
    by true is out deeper =
        λ i. first own.stance out i ∷ ap (seats_by setup past hand) (sym (set-absent server (back_by hand) owns (absent-behind server own owns is once))) i
    by false is out deeper = ap (λ rest. seat ∷ rest) (deeper out)

-- it is linked where nothing is in hand
linked-then : (server : Server) (owns : List defined.Seat) → list_any (same_server server) (names_of owns) ≡ true → is_up (stance_of server owns) ≡ false → any_seat is_linked (set_at server (back_by Empty) owns) ≡ true
linked-then server [] here out = cc
linked-then server (own ∷ owns) here out = by (same_server server own.server) here out (linked-then server owns)
  where
    or-right : (one other : Bool) → other ≡ true → (one || other) ≡ true
    or-right true other is = refl
    or-right false other is = is

    first : (stance : Stance) → is_up stance ≡ false → is_linked (back_by Empty stance) ≡ true
    first Out is = refl
    first Owed is = cc
    first (Linking sent) is = cc
    first (Standby on_way mark keeps) is = cc

    by : (b : Bool) → (b || list_any (same_server server) (names_of owns)) ≡ true → is_up (if b then own.stance else stance_of server owns) ≡ false → (list_any (same_server server) (names_of owns) ≡ true → is_up (stance_of server owns) ≡ false → any_seat is_linked (set_at server (back_by Empty) owns) ≡ true) → (is_linked (if b then back_by Empty own.stance else own.stance) || any_seat is_linked (set_at server (back_by Empty) owns)) ≡ true
    by true here out deeper = ap (λ b. b || any_seat is_linked (set_at server (back_by Empty) owns)) (first own.stance out)
    by false here out deeper = or-right (is_linked own.stance) (any_seat is_linked (set_at server (back_by Empty) owns)) (deeper here out)

-- and else it is owed
still-linked : (hand : Hand) (stance : Stance) → (hand ≡ Empty → ⊥) → is_linked (back_by hand stance) ≡ is_linked stance
still-linked Empty Out not = absurd (not refl)
still-linked (Waiting entry) Out not = refl
still-linked (Applied entry) Out not = refl
still-linked (Ready entry) Out not = refl
still-linked hand Owed not = refl
still-linked hand (Linking sent) not = refl
still-linked hand (Standby on_way mark keeps) not = refl

-- what it is sent, and what the active server is then
pub record Joins (setup : Setup) (past : List Entry) (hand : Hand) (server : Server) (owns : List defined.Seat) (messages : List Message) (active : Node) : Type 0 where
  pub sent : messages ≡ map (to_server setup) (link_of past hand (joining_by hand))
  pub leads : active ≡ active_by setup past hand (set_at server (back_by hand) owns)

pub joins-by : (setup : Setup) (past : List Entry) (hand : Hand) (server : Server) (owns : List defined.Seat) (messages : List Message) (active : Node) → list_any (same_server server) (names_of owns) ≡ true → is_up (stance_of server owns) ≡ false → Begins (active_by setup past hand owns) active messages → Joins setup past hand server owns messages active
joins-by setup past Empty server owns messages active here out begins = record {
  sent = begins.2 ∙ ap (λ (h : Heard). h.to_peer) begins.1.0;
  leads = begins.1.1 ∙ ap (λ b. record (active_by setup past Empty owns) { tie = if b then Linked else Apart; promised = [] }) (sym (linked-then server owns here out));
}
joins-by setup past (Waiting entry) server owns messages active here out begins = record {
  sent = begins.0;
  leads = begins.1 ∙ ap (λ b. record (active_by setup past (Waiting entry) owns) { tie = if b then Linked else Apart }) (sym (any-at is_linked server (back_by (Waiting entry)) (λ stance. still-linked (Waiting entry) stance (λ same. cc)) owns));
}
joins-by setup past (Applied entry) server owns messages active here out begins = record {
  sent = begins.0;
  leads = begins.1 ∙ ap (λ b. record (active_by setup past (Applied entry) owns) { tie = if b then Linked else Apart }) (sym (any-at is_linked server (back_by (Applied entry)) (λ stance. still-linked (Applied entry) stance (λ same. cc)) owns));
}
joins-by setup past (Ready entry) server owns messages active here out begins = record {
  sent = begins.0;
  leads = begins.1 ∙ ap (λ b. record (active_by setup past (Ready entry) owns) { tie = if b then Linked else Apart }) (sym (any-at is_linked server (back_by (Ready entry)) (λ stance. still-linked (Ready entry) stance (λ same. cc)) owns));
}
