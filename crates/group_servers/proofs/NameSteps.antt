-- Servers by their names: each stands once.
use Rattle.std.proofs.Common.{◌≡◌, ℕ, Bool, true, false, ◌&&◌, ◌||◌, not, if◌then◌else◌, List, [], ◌∷◌, refl, ap, sym, ◌∙◌, subst}
use Rattle.std.specs.List.{AllByRecursion, list_any}
use Rattle.std.proofs.lemmas.Bool.{not-true}
use Rattle.script_lines.specs.declared.line.Server.{Server}
use Rattle.plain_service.specs.Setups.{Setup}
use Rattle.cluster_facts.specs.Types.{Entry}
use Rattle.cluster_facts.specs.History.{Hand}
use Rattle.group_cluster.specs.Seats as defined
use Rattle.group_cluster.specs.Seats.{Stance, Out, AreNames, any_seat, is_named, is_out_at, is_up, names_of, same_server, stance_of, is_standby}
use Rattle.group_cluster.specs.Falling.{set_at, out_at}
use Rattle.group_cluster.proofs.Seating.{by-names, same-is}
use Rattle.group_servers.specs.declared.group.Seat.{Seat}
use Rattle.group_servers.specs.GroupNodes.{seat_by, seats_by}
use Rattle.group_servers.specs.Parted.{is_down_at, is_up_one, is_standby_other}
use Rattle.group_servers.specs.Seats as code
use Rattle.group_servers.proofs.SeatSteps.{up-one, standby-one}

-- this name is not among these
abbrev pub IsAbsent : Server → List Server → Type 0
IsAbsent server names = AllByRecursion (λ (other : Server). same_server server other ≡ false) names

-- no name stands twice
abbrev pub Once : List Server → Type 0
Once [] = Unit {0}
Once (server ∷ names) = IsAbsent server names × Once names

pub names-once : (n : ℕ) (names : List Server) → AreNames n names → Once names
names-once = by-names Once ((refl, tt), (tt, tt)) ((refl, (refl, tt)), ((refl, tt), (tt, tt)))

-- behind the one of a name there is none of it
pub absent-behind : (server : Server) (own : defined.Seat) (owns : List defined.Seat) → same_server server own.server ≡ true → Once (names_of (own ∷ owns)) → IsAbsent server (names_of owns)
absent-behind server own owns is once = subst (λ (s : Server). IsAbsent s (names_of owns)) (sym (same-is server own.server is)) once.0

-- One alone is changed.

pub set-absent : (server : Server) (change : Stance → Stance) (owns : List defined.Seat) → IsAbsent server (names_of owns) → set_at server change owns ≡ owns
set-absent server change [] none = refl
set-absent server change (own ∷ owns) none =
    λ i. (record { server = own.server; stance = if none.0 i then change own.stance else own.stance }) ∷ set-absent server change owns none.1 i

or-nothing : (b : Bool) → (b || false) ≡ b
or-nothing true = refl
or-nothing false = refl

-- Tests by names.

up-none : (setup : Setup) (past : List Entry) (hand : Hand) (server : Server) (owns : List defined.Seat) → IsAbsent server (names_of owns) → list_any (is_up_one server) (seats_by setup past hand owns) ≡ false
up-none setup past hand server [] none = refl
up-none setup past hand server (own ∷ owns) none =
    λ i. (none.0 i && code.is_up (seat_by setup past hand own)) || up-none setup past hand server owns none.1 i

-- **whether the server of a name is not down**
pub up-is : (setup : Setup) (past : List Entry) (hand : Hand) (server : Server) (owns : List defined.Seat) → Once (names_of owns) → list_any (is_up_one server) (seats_by setup past hand owns) ≡ is_up (stance_of server owns)
up-is setup past hand server [] once = refl
up-is setup past hand server (own ∷ owns) once = by (same_server server own.server) refl (up-is setup past hand server owns once.1)
  where
    others : List Seat
    others = seats_by setup past hand owns

    by : (b : Bool) → same_server server own.server ≡ b → list_any (is_up_one server) others ≡ is_up (stance_of server owns) → ((b && code.is_up (seat_by setup past hand own)) || list_any (is_up_one server) others) ≡ is_up (if b then own.stance else stance_of server owns)
    by true is deeper =
        (λ i. up-one setup past hand own.stance i || up-none setup past hand server owns (absent-behind server own owns is once) i) ∙ or-nothing (is_up own.stance)
    by false is deeper = deeper

-- **whether the server of a name is there, and down**
pub down-is : (setup : Setup) (past : List Entry) (hand : Hand) (server : Server) (owns : List defined.Seat) → is_down_at server (seats_by setup past hand owns) ≡ is_out_at server owns
down-is setup past hand server [] = refl
down-is setup past hand server (own ∷ owns) = by (same_server server own.server) (down-is setup past hand server owns)
  where
    by : (b : Bool) → is_down_at server (seats_by setup past hand owns) ≡ is_out_at server owns → (if b then not (code.is_up (seat_by setup past hand own)) else is_down_at server (seats_by setup past hand owns)) ≡ (if b then not (is_up own.stance) else is_out_at server owns)
    by true deeper = λ i. not (up-one setup past hand own.stance i)
    by false deeper = deeper

-- such a server is one of them
pub out-there : (server : Server) (owns : List defined.Seat) → is_out_at server owns ≡ true → (is_named server (names_of owns) ≡ true) × (is_up (stance_of server owns) ≡ false)
out-there server [] is = cc
out-there server (own ∷ owns) is = by (same_server server own.server) is (out-there server owns)
  where
    by : (b : Bool) → (if b then not (is_up own.stance) else is_out_at server owns) ≡ true → (is_out_at server owns ≡ true → (is_named server (names_of owns) ≡ true) × (is_up (stance_of server owns) ≡ false)) → ((b || is_named server (names_of owns)) ≡ true) × (is_up (if b then own.stance else stance_of server owns) ≡ false)
    by true is deeper = (refl, not-true (is_up own.stance) is)
    by false is deeper = deeper is

-- **whether another one is standby**
pub others-are : (setup : Setup) (past : List Entry) (hand : Hand) (server : Server) (owns : List defined.Seat) → list_any (is_standby_other server) (seats_by setup past hand owns) ≡ any_seat is_standby (out_at server owns)
others-are setup past hand server [] = refl
others-are setup past hand server (own ∷ owns) =
    λ i. one (same_server server own.server) i || others-are setup past hand server owns i
  where
    and-not : (stands b : Bool) → (stands && not b) ≡ (if b then false else stands)
    and-not true true = refl
    and-not true false = refl
    and-not false true = refl
    and-not false false = refl

    out-by : (b : Bool) → (if b then false else is_standby own.stance) ≡ is_standby (if b then Out else own.stance)
    out-by true = refl
    out-by false = refl

    one : (b : Bool) → (code.stands_by (seat_by setup past hand own) && not b) ≡ is_standby (if b then Out else own.stance)
    one b = ap (λ s. s && not b) (standby-one setup past hand own.stance) ∙ and-not (is_standby own.stance) b ∙ out-by b
