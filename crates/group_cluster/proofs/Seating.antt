-- Seats one by one: what changes of each leave of what holds of all.
use Rattle.std.proofs.Common.{◌≡◌, ℕ, zero, suc, ◌+◌, ◌*◌, ◌≤◌, Bool, true, false, ◌||◌, if◌then◌else◌, Option, Some, None, List, [], ◌∷◌, length, refl, ap, sym, ◌∙◌, subst, arith}
use Rattle.std.specs.List.{AllByRecursion}
use Rattle.script_lines.specs.declared.line.Server.{Server}
use Rattle.script_lines.specs.declared.line.Server.TheVariants.{A, B, C}
use Rattle.cluster_facts.specs.Types.{Entry}
use Rattle.cluster_facts.specs.History.{Hand, Empty, Waiting, Applied, Ready}
use Rattle.cluster_events.specs.Lines.{Told, Stood}
use Rattle.cluster_events.specs.declared.lines.ServerRole.TheVariants as role
use Rattle.group_cluster.specs.Seats.{Mark, Clear, Sent, Took, Stance, Out, Owed, Linking, Standby, Seat, is_standby, is_sent, is_took, any_seat, on_seats, Agree, WaitsFor, IsApart, AreNames, names_of, same_server}
use Rattle.group_cluster.specs.Falling.{taken_by, looked_at, set_at, out_at, rejoined, felled, joining_by, back_by, caught, caught_seats}
use Rattle.group_cluster.specs.Group.{sent_to, Turn, mirrored, confirmed, only, turned_or, first_turn, linked}

-- Of all seats.

abbrev pub AllSeats : (Stance → Type 0) → List Seat → Type 0
AllSeats P seats = AllByRecursion (λ (seat : Seat). P seat.stance) seats

pub all-on : (P Q : Stance → Type 0) (change : Stance → Stance) → ((stance : Stance) → P stance → Q (change stance)) → (seats : List Seat) → AllSeats P seats → AllSeats Q (on_seats change seats)
all-on P Q change keep [] all = tt
all-on P Q change keep (seat ∷ seats) all = (keep seat.stance all.0, all-on P Q change keep seats all.1)

pub all-made : (Q : Stance → Type 0) (change : Stance → Stance) → ((stance : Stance) → Q (change stance)) → (seats : List Seat) → AllSeats Q (on_seats change seats)
all-made Q change makes [] = tt
all-made Q change makes (seat ∷ seats) = (makes seat.stance, all-made Q change makes seats)

pub all-by : (P Q : Stance → Type 0) → ((stance : Stance) → P stance → Q stance) → (seats : List Seat) → AllSeats P seats → AllSeats Q seats
all-by P Q keep [] all = tt
all-by P Q keep (seat ∷ seats) all = (keep seat.stance all.0, all-by P Q keep seats all.1)

-- what holds of a server alone that is changed, and of all others
pub all-at : (P Q : Stance → Type 0) (server : Server) (change : Stance → Stance) → ((stance : Stance) → P stance → Q (change stance)) → ((stance : Stance) → P stance → Q stance) → (seats : List Seat) → AllSeats P seats → AllSeats Q (set_at server change seats)
all-at P Q server change changes stays [] all = tt
all-at P Q server change changes stays (seat ∷ seats) all =
    let S : Bool → Type 0 = λ b. Q (if b then change seat.stance else seat.stance) in
    (elim (same_server server seat.server) as S [ true ↦ changes seat.stance all.0 | false ↦ stays seat.stance all.0 ], all-at P Q server change changes stays seats all.1)

or-false : (one other : Bool) → (one || other) ≡ false → (one ≡ false) × (other ≡ false)
or-false true other none = cc
or-false false other none = (refl, none)

pub any-none : (test : Stance → Bool) (seats : List Seat) → any_seat test seats ≡ false → AllSeats (λ stance. test stance ≡ false) seats
any-none test [] none = tt
any-none test (seat ∷ seats) none =
    let parts = or-false (test seat.stance) (any_seat test seats) none in
    (parts.0, any-none test seats parts.1)

pub all-both : (P Q R : Stance → Type 0) → ((stance : Stance) → P stance → Q stance → R stance) → (seats : List Seat) → AllSeats P seats → AllSeats Q seats → AllSeats R seats
all-both P Q R keep [] one two = tt
all-both P Q R keep (seat ∷ seats) one two = (keep seat.stance one.0 two.0, all-both P Q R keep seats one.1 two.1)

pub names-on : (change : Stance → Stance) (seats : List Seat) → names_of (on_seats change seats) ≡ names_of seats
names-on change [] = refl
names-on change (seat ∷ seats) = ap (λ names. seat.server ∷ names) (names-on change seats)

pub names-at : (server : Server) (change : Stance → Stance) (seats : List Seat) → names_of (set_at server change seats) ≡ names_of seats
names-at server change [] = refl
names-at server change (seat ∷ seats) = ap (λ names. seat.server ∷ names) (names-at server change seats)

pub names-caught : (catching : Bool) (seats : List Seat) → names_of (caught_seats catching seats) ≡ names_of seats
names-caught true seats = names-on caught seats
names-caught false seats = refl

names-long : (seats : List Seat) → length (names_of seats) ≡ length seats
names-long [] = refl
names-long (seat ∷ seats) = ap suc (names-long seats)

-- two servers or three: what holds of the names of both holds of the servers' names
pub by-names : (P : List Server → Type 0) → P (A ∷ B ∷ []) → P (A ∷ B ∷ C ∷ []) → (size : ℕ) (names : List Server) → AreNames size names → P names
by-names P two three zero names are = elim are [ ]
by-names P two three (suc zero) names are = elim are [ ]
by-names P two three (suc (suc zero)) names are = subst P (sym are) two
by-names P two three (suc (suc (suc zero))) names are = subst P (sym are) three
by-names P two three (suc (suc (suc (suc more)))) names are = elim are [ ]

-- they are so many
pub size-is : (size : ℕ) (seats : List Seat) → AreNames size (names_of seats) → length seats ≡ size
size-is zero seats are = elim are [ ]
size-is (suc zero) seats are = elim are [ ]
size-is (suc (suc zero)) seats are = sym (names-long seats) ∙ ap length are
size-is (suc (suc (suc zero))) seats are = sym (names-long seats) ∙ ap length are
size-is (suc (suc (suc (suc more)))) seats are = elim are [ ]

pub few-seats : (size : ℕ) (seats : List Seat) → AreNames size (names_of seats) → length seats ≤ 3
few-seats size seats are =
    let long = names-long seats in
    let few = by-names (λ (names : List Server). length names ≤ 3) (omega arith) (omega arith) size (names_of seats) are in
    omega arith

pub any-on : (test : Stance → Bool) (change : Stance → Stance) → ((stance : Stance) → test (change stance) ≡ test stance) → (seats : List Seat) → any_seat test (on_seats change seats) ≡ any_seat test seats
any-on test change same [] = refl
any-on test change same (seat ∷ seats) =
    ap (λ b. b || any_seat test (on_seats change seats)) (same seat.stance) ∙ ap (λ b. test seat.stance || b) (any-on test change same seats)

-- The active server is nothing else.

pub same-turned : (one other : Server) → same_server one other ≡ same_server other one
same-turned A A = refl
same-turned A B = refl
same-turned A C = refl
same-turned B A = refl
same-turned B B = refl
same-turned B C = refl
same-turned C A = refl
same-turned C B = refl
same-turned C C = refl

pub same-is : (one other : Server) → same_server one other ≡ true → one ≡ other
same-is A A same = refl
same-is B B same = refl
same-is C C same = refl
same-is A B same = cc
same-is A C same = cc
same-is B A same = cc
same-is B C same = cc
same-is C A same = cc
same-is C B same = cc

pub apart-on : (acting : Server) (change : Stance → Stance) → change Out ≡ Out → (seats : List Seat) → IsApart acting seats → IsApart acting (on_seats change seats)
apart-on acting change out [] apart = tt
apart-on acting change out (seat ∷ seats) apart =
    (λ same. ap change (apart.0 same) ∙ out, apart-on acting change out seats apart.1)

-- another server may become anything, and the active one is out
pub apart-at : (acting server : Server) (change : Stance → Stance) → same_server server acting ≡ false → (seats : List Seat) → IsApart acting seats → IsApart acting (set_at server change seats)
apart-at acting server change other [] apart = tt
apart-at acting server change other (seat ∷ seats) apart =
    let S : Bool → Type 0 = λ b. same_server server seat.server ≡ b → same_server seat.server acting ≡ true → (if b then change seat.stance else seat.stance) ≡ Out in
    let first : (b : Bool) → S b = elim [
      | true ↦ λ is same.
          let here : seat.server ≡ acting = same-is seat.server acting same in
          let there : server ≡ seat.server = same-is server seat.server is in
          let both : same_server server acting ≡ same_server acting acting = ap (λ s. same_server s acting) (there ∙ here) in
          let self : same_server acting acting ≡ true = ap (λ s. same_server s acting) (sym here) ∙ same in
          cc
      | false ↦ λ is same. apart.0 same
    ] in
    (first (same_server server seat.server) refl, apart-at acting server change other seats apart.1)

pub apart-caught : (acting : Server) (catching : Bool) (seats : List Seat) → IsApart acting seats → IsApart acting (caught_seats catching seats)
apart-caught acting true seats apart = apart-on acting caught refl seats apart
apart-caught acting false seats apart = apart

pub apart-out : (acting : Server) (seats : List Seat) → IsApart acting (out_at acting seats)
apart-out acting [] = tt
apart-out acting (seat ∷ seats) =
    let S : Bool → Type 0 = λ b. (if b then Out else seat.stance) ≡ Out in
    (λ same. subst S (sym (same-turned acting seat.server ∙ same)) refl, apart-out acting seats)

-- The entry in hand is looked at again.

agree-applied : (entry : Entry) (stance : Stance) → Agree (Waiting entry) stance → is_sent stance ≡ false → Agree (Applied entry) stance
agree-applied entry Out agree none = tt
agree-applied entry Owed agree none = tt
agree-applied entry (Linking true) agree none = cc
agree-applied entry (Linking false) agree none = elim agree [ ]
agree-applied entry (Standby on_way Sent keeps) agree none = cc
agree-applied entry (Standby on_way Clear true) agree none = tt
agree-applied entry (Standby on_way Clear false) agree none = elim agree [ ]
agree-applied entry (Standby on_way Took true) agree none = tt
agree-applied entry (Standby on_way Took false) agree none = elim agree [ ]

agree-ready : (entry : Entry) (stance : Stance) → Agree (Applied entry) stance → is_took stance ≡ false → Agree (Ready entry) stance
agree-ready entry Out agree none = tt
agree-ready entry Owed agree none = tt
agree-ready entry (Linking true) agree none = elim agree [ ]
agree-ready entry (Linking false) agree none = elim agree [ ]
agree-ready entry (Standby on_way Sent keeps) agree none = elim agree [ ]
agree-ready entry (Standby on_way Clear true) agree none = tt
agree-ready entry (Standby on_way Clear false) agree none = elim agree [ ]
agree-ready entry (Standby on_way Took keeps) agree none = cc

-- all agree with the hand, and it waits for somebody
pub record Seated (hand : Hand) (seats : List Seat) : Type 0 where
  pub agree : AllSeats (Agree hand) seats
  pub waits : WaitsFor hand seats

taken-seated : (entry : Entry) (seats : List Seat) (took : Bool) → any_seat is_took seats ≡ took → AllSeats (Agree (Applied entry)) seats → Seated (if took then Applied entry else Ready entry) seats
taken-seated entry seats true is agree = record { agree = agree; waits = is }
taken-seated entry seats false is agree =
    record { agree = all-both (Agree (Applied entry)) (λ stance. is_took stance ≡ false) (Agree (Ready entry)) (agree-ready entry) seats agree (any-none is_took seats is); waits = tt }

waiting-seated : (entry : Entry) (seats : List Seat) (sent : Bool) → any_seat is_sent seats ≡ sent → AllSeats (Agree (Waiting entry)) seats → Seated (if sent then Waiting entry else taken_by seats entry) seats
waiting-seated entry seats true is agree = record { agree = agree; waits = is }
waiting-seated entry seats false is agree =
    taken-seated entry seats (any_seat is_took seats) refl
    (all-both (Agree (Waiting entry)) (λ stance. is_sent stance ≡ false) (Agree (Applied entry)) (agree-applied entry) seats agree (any-none is_sent seats is))

-- **looked at again, the hand is that of the seats**
pub looked-seated : (seats : List Seat) (hand : Hand) → AllSeats (Agree hand) seats → Seated (looked_at seats hand) seats
looked-seated seats Empty agree = record { agree = agree; waits = tt }
looked-seated seats (Waiting entry) agree = waiting-seated entry seats (any_seat is_sent seats) refl agree
looked-seated seats (Applied entry) agree = taken-seated entry seats (any_seat is_took seats) refl agree
looked-seated seats (Ready entry) agree = record { agree = agree; waits = tt }

-- How many steps are left of each server.

abbrev pub weight_of_mark : Mark → ℕ
weight_of_mark Clear = 0
weight_of_mark Sent = 2
weight_of_mark Took = 1

abbrev pub weight_of_ack : Option ℕ → ℕ
weight_of_ack None = 0
weight_of_ack (Some number) = 1

abbrev pub weight : Stance → ℕ
weight Out = 0
weight Owed = 2
weight (Linking true) = 4
weight (Linking false) = 2
weight (Standby on_way mark keeps) = weight_of_ack on_way + weight_of_mark mark

abbrev pub weights : List Seat → ℕ
weights [] = 0
weights (seat ∷ seats) = weight seat.stance + weights seats

weight-mark : (mark : Mark) → weight_of_mark mark ≤ 2
weight-mark Clear = omega arith
weight-mark Sent = omega arith
weight-mark Took = omega arith

weight-most : (stance : Stance) → weight stance ≤ 4
weight-most Out = omega arith
weight-most Owed = omega arith
weight-most (Linking true) = omega arith
weight-most (Linking false) = omega arith
weight-most (Standby None mark keeps) = let most = weight-mark mark in omega arith
weight-most (Standby (Some number) mark keeps) = let most = weight-mark mark in omega arith

pub weights-most : (seats : List Seat) → weights seats ≤ 4 * length seats
weights-most [] = omega arith
weights-most (seat ∷ seats) =
    let first = weight-most seat.stance in
    let others = weights-most seats in
    omega arith

pub weights-on : (change : Stance → Stance) → ((stance : Stance) → weight (change stance) ≡ weight stance) → (seats : List Seat) → weights (on_seats change seats) ≡ weights seats
weights-on change same [] = refl
weights-on change same (seat ∷ seats) = let first = same seat.stance in let others = weights-on change same seats in omega arith

weight-rejoined : (stance : Stance) → weight (rejoined stance) ≡ 0
weight-rejoined Out = refl
weight-rejoined Owed = refl
weight-rejoined (Linking sent) = refl
weight-rejoined (Standby on_way mark keeps) = refl

pub weights-rejoined : (server : Server) (seats : List Seat) → weights (out_at server (on_seats rejoined seats)) ≡ 0
weights-rejoined server [] = refl
weights-rejoined server (seat ∷ seats) =
    let S : Bool → Type 0 = λ b. weight (if b then Out else rejoined seat.stance) ≡ 0 in
    let first = elim (same_server server seat.server) as S [ true ↦ refl | false ↦ weight-rejoined seat.stance ] in
    let others = weights-rejoined server seats in
    omega arith

-- Something comes to the first server to which something comes.

-- a change by a turn of one server
pub data Turned (turn : Turn) : List Seat → List Seat → List Told → Type 0 where
  here : {seats : List Seat} → (seat : Seat) → (found : Stance × List Told) → turn seat.server seat.stance ≡ Some found
      → Turned turn (seat ∷ seats) (record { server = seat.server; stance = found.0 } ∷ seats) found.1
  there : {seats new : List Seat} {told : List Told} → (seat : Seat) → Turned turn seats new told → Turned turn (seat ∷ seats) (seat ∷ new) told

abbrev IsTurned : Turn → List Seat → Option (List Seat × List Told) → Type 0
IsTurned turn seats None = Unit {0}
IsTurned turn seats (Some turned) = Turned turn seats turned.0 turned.1

turned-by : (turn : Turn) (seat : Seat) (found : Option (Stance × List Told)) (seats : List Seat) (rest : Option (List Seat × List Told)) → turn seat.server seat.stance ≡ found → IsTurned turn seats rest → IsTurned turn (seat ∷ seats) (turned_or seat found seats rest)
turned-by turn seat (Some found) seats rest is deeper = here seat found is
turned-by turn seat None seats None is deeper = tt
turned-by turn seat None seats (Some later) is deeper = there seat deeper

pub is-turned : (turn : Turn) (seats : List Seat) → IsTurned turn seats (first_turn turn seats)
is-turned turn [] = tt
is-turned turn (seat ∷ seats) =
    turned-by turn seat (turn seat.server seat.stance) seats (first_turn turn seats) refl (is-turned turn seats)

-- lines of roles alone
pub data AreRoles : List Told → Type 0 where
  silent : AreRoles []
  stood : (server : Server) → AreRoles (Stood server role.Standby ∷ [])

-- what a turn leaves: the server agrees with the same hand, a standby stays one, one that is out stays out, and fewer steps are left
pub record Turns (hand : Hand) (turn : Turn) (server : Server) (stance : Stance) (found : Stance × List Told) : Type 0 where
  pub agree : Agree hand found.0
  pub standby : is_standby stance ≡ true → is_standby found.0 ≡ true
  pub shown : stance ≡ Out → ⊥
  pub fewer : suc (weight found.0) ≤ weight stance
  pub roles : AreRoles found.1

abbrev pub IsTurning : Hand → Turn → Type 0
IsTurning hand turn =
    (server : Server) (stance : Stance) (found : Stance × List Told) → turn server stance ≡ Some found → Agree hand stance → Turns hand turn server stance found

abbrev LeavesBy : Hand → Turn → Server → Stance → Option (Stance × List Told) → Type 0
LeavesBy hand turn server stance None = Unit {0}
LeavesBy hand turn server stance (Some found) = Turns hand turn server stance found

mirrored-leaves : (past : List Entry) (hand : Hand) (server : Server) (stance : Stance) → Agree hand stance → LeavesBy hand (mirrored past) server stance (mirrored past server stance)
mirrored-leaves past hand server Out agree = tt
mirrored-leaves past hand server Owed agree = tt
mirrored-leaves past Empty server (Linking true) agree = elim agree [ ]
mirrored-leaves past (Waiting entry) server (Linking true) agree = record { agree = tt; standby = λ is. refl; shown = λ out. cc; fewer = omega arith; roles = stood server }
mirrored-leaves past (Applied entry) server (Linking true) agree = elim agree [ ]
mirrored-leaves past (Ready entry) server (Linking true) agree = elim agree [ ]
mirrored-leaves past Empty server (Linking false) agree = record { agree = tt; standby = λ is. refl; shown = λ out. cc; fewer = omega arith; roles = stood server }
mirrored-leaves past (Waiting entry) server (Linking false) agree = elim agree [ ]
mirrored-leaves past (Applied entry) server (Linking false) agree = elim agree [ ]
mirrored-leaves past (Ready entry) server (Linking false) agree = elim agree [ ]
mirrored-leaves past Empty server (Standby on_way Sent keeps) agree = elim agree [ ]
mirrored-leaves past (Waiting entry) server (Standby on_way Sent keeps) agree = record { agree = tt; standby = λ is. refl; shown = λ out. cc; fewer = omega arith; roles = silent }
mirrored-leaves past (Applied entry) server (Standby on_way Sent keeps) agree = elim agree [ ]
mirrored-leaves past (Ready entry) server (Standby on_way Sent keeps) agree = elim agree [ ]
mirrored-leaves past hand server (Standby on_way Clear keeps) agree = tt
mirrored-leaves past hand server (Standby on_way Took keeps) agree = tt

-- the number of a confirmation tells nothing of what agrees
joined-agrees : (hand : Hand) (one other : Option ℕ) (mark : Mark) (keeps : Bool) → Agree hand (Standby one mark keeps) → Agree hand (Standby other mark keeps)
joined-agrees Empty one other Clear keeps agree = tt
joined-agrees Empty one other Sent keeps agree = elim agree [ ]
joined-agrees Empty one other Took keeps agree = elim agree [ ]
joined-agrees (Waiting entry) one other Sent keeps agree = tt
joined-agrees (Waiting entry) one other Clear true agree = tt
joined-agrees (Waiting entry) one other Clear false agree = elim agree [ ]
joined-agrees (Waiting entry) one other Took true agree = tt
joined-agrees (Waiting entry) one other Took false agree = elim agree [ ]
joined-agrees (Applied entry) one other Sent keeps agree = elim agree [ ]
joined-agrees (Applied entry) one other Clear true agree = tt
joined-agrees (Applied entry) one other Clear false agree = elim agree [ ]
joined-agrees (Applied entry) one other Took true agree = tt
joined-agrees (Applied entry) one other Took false agree = elim agree [ ]
joined-agrees (Ready entry) one other Clear true agree = tt
joined-agrees (Ready entry) one other Clear false agree = elim agree [ ]
joined-agrees (Ready entry) one other Sent keeps agree = elim agree [ ]
joined-agrees (Ready entry) one other Took keeps agree = elim agree [ ]

confirmed-agrees : (hand : Hand) (keeps : Bool) → Agree hand (Standby None Took keeps) → Agree hand (Standby None Clear keeps)
confirmed-agrees Empty keeps agree = elim agree [ ]
confirmed-agrees (Waiting entry) true agree = tt
confirmed-agrees (Waiting entry) false agree = elim agree [ ]
confirmed-agrees (Applied entry) true agree = tt
confirmed-agrees (Applied entry) false agree = elim agree [ ]
confirmed-agrees (Ready entry) keeps agree = elim agree [ ]

confirmed-leaves : (hand : Hand) (server : Server) (stance : Stance) → Agree hand stance → LeavesBy hand confirmed server stance (confirmed server stance)
confirmed-leaves hand server Out agree = tt
confirmed-leaves hand server Owed agree = tt
confirmed-leaves hand server (Linking sent) agree = tt
confirmed-leaves hand server (Standby (Some number) mark keeps) agree =
    record { agree = joined-agrees hand (Some number) None mark keeps agree; standby = λ is. refl; shown = λ out. cc; fewer = omega arith; roles = silent }
confirmed-leaves hand server (Standby None Took keeps) agree =
    record { agree = confirmed-agrees hand keeps agree; standby = λ is. refl; shown = λ out. cc; fewer = omega arith; roles = silent }
confirmed-leaves hand server (Standby None Clear keeps) agree = tt
confirmed-leaves hand server (Standby None Sent keeps) agree = tt

leaves-turns : (hand : Hand) (turn : Turn) → ((server : Server) (stance : Stance) → Agree hand stance → LeavesBy hand turn server stance (turn server stance)) → IsTurning hand turn
leaves-turns hand turn leaves server stance found is agree = subst (LeavesBy hand turn server stance) is (leaves server stance agree)

pub mirrored-turns : (past : List Entry) (hand : Hand) → IsTurning hand (mirrored past)
mirrored-turns past hand = leaves-turns hand (mirrored past) (mirrored-leaves past hand)

pub confirmed-turns : (hand : Hand) → IsTurning hand confirmed
confirmed-turns hand = leaves-turns hand confirmed (confirmed-leaves hand)

pub only-turns : (hand : Hand) (one : Server) (turn : Turn) → IsTurning hand turn → IsTurning hand (only one turn)
only-turns hand one turn turns server stance found =
    let S : Bool → Type 0 = λ b. (if b then turn server stance else None) ≡ Some found → Agree hand stance → Turns hand (only one turn) server stance found in
    elim (same_server one server) as S [
      | true ↦ λ is agree.
          let leaves = turns server stance found is agree in
          record { agree = leaves.agree; standby = leaves.standby; shown = leaves.shown; fewer = leaves.fewer; roles = leaves.roles }
      | false ↦ λ is agree. cc
    ]

-- What a turn of one server leaves of all.
pub record TurnsAll (hand : Hand) (acting : Server) (old new : List Seat) (told : List Told) : Type 0 where
  pub agree : AllSeats (Agree hand) new
  pub standby : any_seat is_standby old ≡ true → any_seat is_standby new ≡ true
  pub apart : IsApart acting old → IsApart acting new
  pub names : names_of new ≡ names_of old
  pub fewer : suc (weights new) ≤ weights old
  pub roles : AreRoles told

or-left : (one new other : Bool) → (one ≡ true → new ≡ true) → (one || other) ≡ true → (new || other) ≡ true
or-left true new other keep is = ap (λ b. b || other) (keep refl)
or-left false true other keep is = refl
or-left false false other keep is = is

or-right : (one old new : Bool) → (old ≡ true → new ≡ true) → (one || old) ≡ true → (one || new) ≡ true
or-right true old new keep is = refl
or-right false old new keep is = keep is

pub turned-all : (hand : Hand) (acting : Server) (turn : Turn) → IsTurning hand turn → {old new : List Seat} {told : List Told} → Turned turn old new told → AllSeats (Agree hand) old → TurnsAll hand acting old new told
turned-all hand acting turn turns (here {seats = seats} seat found is) agree =
    let leaves = turns seat.server seat.stance found is agree.0 in
    let less = leaves.fewer in
    record {
      agree = (leaves.agree, agree.1);
      standby = or-left (is_standby seat.stance) (is_standby found.0) (any_seat is_standby seats) leaves.standby;
      apart = λ apart. (λ same. absurd (leaves.shown (apart.0 same)), apart.1);
      names = refl;
      fewer = omega arith;
      roles = leaves.roles;
    }
turned-all hand acting turn turns (there {seats = seats} {new = new} seat deeper) agree =
    let rest = turned-all hand acting turn turns deeper agree.1 in
    let less = rest.fewer in
    record {
      agree = (agree.0, rest.agree);
      standby = or-right (is_standby seat.stance) (any_seat is_standby seats) (any_seat is_standby new) rest.standby;
      apart = λ apart. (apart.0, rest.apart apart.1);
      names = ap (λ names. seat.server ∷ names) rest.names;
      fewer = omega arith;
      roles = rest.roles;
    }

-- Where nothing comes to any server, nothing is on the way.

turned-none : (seat : Seat) (found : Option (Stance × List Told)) (seats : List Seat) (rest : Option (List Seat × List Told)) → turned_or seat found seats rest ≡ None → (found ≡ None) × (rest ≡ None)
turned-none seat (Some found) seats rest none = cc
turned-none seat None seats (Some later) none = cc
turned-none seat None seats None none = (refl, refl)

pub none-turned : (turn : Turn) (test : Stance → Bool) → ((server : Server) (stance : Stance) → turn server stance ≡ None → test stance ≡ false) → (seats : List Seat) → first_turn turn seats ≡ None → any_seat test seats ≡ false
none-turned turn test without [] none = refl
none-turned turn test without (seat ∷ seats) none =
    let parts = turned-none seat (turn seat.server seat.stance) seats (first_turn turn seats) none in
    ap (λ b. b || any_seat test seats) (without seat.server seat.stance parts.0) ∙ none-turned turn test without seats parts.1

pub none-sent : (past : List Entry) (server : Server) (stance : Stance) → mirrored past server stance ≡ None → is_sent stance ≡ false
none-sent past server Out none = refl
none-sent past server Owed none = refl
none-sent past server (Linking true) none = cc
none-sent past server (Linking false) none = cc
none-sent past server (Standby on_way Sent keeps) none = cc
none-sent past server (Standby on_way Clear keeps) none = refl
none-sent past server (Standby on_way Took keeps) none = refl

pub none-took : (server : Server) (stance : Stance) → confirmed server stance ≡ None → is_took stance ≡ false
none-took server Out none = refl
none-took server Owed none = refl
none-took server (Linking sent) none = refl
none-took server (Standby (Some number) mark keeps) none = cc
none-took server (Standby None Took keeps) none = cc
none-took server (Standby None Clear keeps) none = refl
none-took server (Standby None Sent keeps) none = refl

-- Other changes.

pub sent-agrees : (entry : Entry) (stance : Stance) → Agree Empty stance → Agree (Waiting entry) (sent_to stance)
sent-agrees entry Out agree = tt
sent-agrees entry Owed agree = elim agree [ ]
sent-agrees entry (Linking sent) agree = tt
sent-agrees entry (Standby on_way mark keeps) agree = tt

pub sent-standby : (stance : Stance) → is_standby (sent_to stance) ≡ is_standby stance
sent-standby Out = refl
sent-standby Owed = refl
sent-standby (Linking sent) = refl
sent-standby (Standby on_way mark keeps) = refl

pub linked-agrees : (entry : Entry) (stance : Stance) → Agree (Ready entry) stance → Agree Empty (linked stance)
linked-agrees entry Out agree = tt
linked-agrees entry Owed agree = tt
linked-agrees entry (Linking true) agree = elim agree [ ]
linked-agrees entry (Linking false) agree = elim agree [ ]
linked-agrees entry (Standby on_way Clear true) agree = tt
linked-agrees entry (Standby on_way Clear false) agree = elim agree [ ]
linked-agrees entry (Standby on_way Sent keeps) agree = elim agree [ ]
linked-agrees entry (Standby on_way Took keeps) agree = elim agree [ ]

pub linked-standby : (stance : Stance) → is_standby (linked stance) ≡ is_standby stance
linked-standby Out = refl
linked-standby Owed = refl
linked-standby (Linking sent) = refl
linked-standby (Standby on_way mark keeps) = refl

pub linked-weighs : (stance : Stance) → weight (linked stance) ≡ weight stance
linked-weighs Out = refl
linked-weighs Owed = refl
linked-weighs (Linking sent) = refl
linked-weighs (Standby on_way mark keeps) = refl

pub rejoined-agrees : (stance : Stance) → Agree Empty (rejoined stance)
rejoined-agrees Out = tt
rejoined-agrees Owed = tt
rejoined-agrees (Linking sent) = tt
rejoined-agrees (Standby on_way mark keeps) = tt

pub joining-agrees : (hand : Hand) → Agree hand (joining_by hand)
joining-agrees Empty = tt
joining-agrees (Waiting entry) = tt
joining-agrees (Applied entry) = tt
joining-agrees (Ready entry) = tt

pub names-felled : (test : Stance → Bool) (count : ℕ) (seats : List Seat) → names_of (felled test count seats) ≡ names_of seats
names-felled test zero seats = refl
names-felled test (suc count) [] = refl
names-felled test (suc count) (seat ∷ seats) =
    let S : Bool → Type 0 = λ b. names_of (if b then record { server = seat.server; stance = Out } ∷ felled test count seats else seat ∷ felled test (suc count) seats) ≡ seat.server ∷ names_of seats in
    elim (test seat.stance) as S [ true ↦ ap (λ names. seat.server ∷ names) (names-felled test count seats) | false ↦ ap (λ names. seat.server ∷ names) (names-felled test (suc count) seats) ]

pub any-at : (test : Stance → Bool) (server : Server) (change : Stance → Stance) → ((stance : Stance) → test (change stance) ≡ test stance) → (seats : List Seat) → any_seat test (set_at server change seats) ≡ any_seat test seats
any-at test server change same [] = refl
any-at test server change same (seat ∷ seats) =
    let S : Bool → Type 0 = λ b. test (if b then change seat.stance else seat.stance) ≡ test seat.stance in
    let first = elim (same_server server seat.server) as S [ true ↦ same seat.stance | false ↦ refl ] in
    ap (λ b. b || any_seat test (set_at server change seats)) first ∙ ap (λ b. test seat.stance || b) (any-at test server change same seats)

-- a server that comes back
pub back-agrees : (hand : Hand) (stance : Stance) → Agree hand stance → Agree hand (back_by hand stance)
back-agrees hand Out agree = joining-agrees hand
back-agrees hand Owed agree = agree
back-agrees hand (Linking sent) agree = agree
back-agrees hand (Standby on_way mark keeps) agree = agree

joining-standby : (hand : Hand) → is_standby (joining_by hand) ≡ false
joining-standby Empty = refl
joining-standby (Waiting entry) = refl
joining-standby (Applied entry) = refl
joining-standby (Ready entry) = refl

pub back-standby : (hand : Hand) (stance : Stance) → is_standby (back_by hand stance) ≡ is_standby stance
back-standby hand Out = joining-standby hand
back-standby hand Owed = refl
back-standby hand (Linking sent) = refl
back-standby hand (Standby on_way mark keeps) = refl

back-sent : (hand : Hand) (stance : Stance) → is_sent (back_by hand stance) ≡ is_sent stance
back-sent Empty Out = refl
back-sent (Waiting entry) Out = refl
back-sent (Applied entry) Out = refl
back-sent (Ready entry) Out = refl
back-sent hand Owed = refl
back-sent hand (Linking sent) = refl
back-sent hand (Standby on_way mark keeps) = refl

back-took : (hand : Hand) (stance : Stance) → is_took (back_by hand stance) ≡ is_took stance
back-took Empty Out = refl
back-took (Waiting entry) Out = refl
back-took (Applied entry) Out = refl
back-took (Ready entry) Out = refl
back-took hand Owed = refl
back-took hand (Linking sent) = refl
back-took hand (Standby on_way mark keeps) = refl

pub back-waits : (hand : Hand) (server : Server) (seats : List Seat) → WaitsFor hand seats → WaitsFor hand (set_at server (back_by hand) seats)
back-waits Empty server seats waits = tt
back-waits (Waiting entry) server seats waits = any-at is_sent server (back_by (Waiting entry)) (back-sent (Waiting entry)) seats ∙ waits
back-waits (Applied entry) server seats waits = any-at is_took server (back_by (Applied entry)) (back-took (Applied entry)) seats ∙ waits
back-waits (Ready entry) server seats waits = tt
