-- What the code tests of servers beside the active one is what the definitions say of them.
use Rattle.std.proofs.Common.{◌≡◌, ℕ, Bool, true, false, ◌&&◌, ◌||◌, not, Option, Some, None, List, [], ◌∷◌, refl, ap, ◌∙◌}
use Rattle.std.specs.List.{list_any}
use Rattle.script_lines.specs.declared.line.Server.{Server}
use Rattle.plain_service.specs.Setups.{Setup}
use Rattle.cluster_facts.specs.Types.{Entry}
use Rattle.cluster_facts.specs.History.{Hand, Empty, Waiting, Applied, Ready}
use Rattle.lead_server.specs.Roles.{stands_by, stays_down}
use Rattle.group_cluster.specs.Seats as defined
use Rattle.group_cluster.specs.Seats.{Mark, Clear, Sent, Took, Stance, Out, Owed, Linking, Standby, is_standby, is_sent, is_took, any_seat, is_up, Agree, WaitsFor}
use Rattle.group_cluster.specs.Falling as falling
use Rattle.group_cluster.specs.Falling.{catches}
use Rattle.group_cluster.proofs.Seating.{AllSeats}
use Rattle.group_servers.specs.declared.group.Seat.{Seat}
use Rattle.group_servers.specs.Seats as code
use Rattle.group_servers.specs.Seats.{entry_goes, confirms, goes_to, still_waits}
use Rattle.group_servers.specs.GroupNodes.{is_linked, node_by, seat_by, seats_by, bare_by, bare}

-- a server of the definitions
abbrev pub at : Server → Stance → defined.Seat
at server stance = record { server = server; stance = stance }

-- A test of all servers.

pub any-code : (setup : Setup) (past : List Entry) (hand : Hand) (test : Seat → Bool) (own : Stance → Bool) → ((server : Server) (stance : Stance) → Agree hand stance → test (seat_by setup past hand (at server stance)) ≡ own stance) → (owns : List defined.Seat) → AllSeats (Agree hand) owns → list_any test (seats_by setup past hand owns) ≡ any_seat own owns
any-code setup past hand test own same [] agree = refl
any-code setup past hand test own same (seat ∷ owns) agree =
    ap (λ b. b || list_any test (seats_by setup past hand owns)) (same seat.server seat.stance agree.0)
    ∙ ap (λ b. own seat.stance || b) (any-code setup past hand test own same owns agree.1)

pub any-bare : (setup : Setup) (past : List Entry) (hand : Hand) (test : Seat → Bool) (own : Stance → Bool) → ((server : Server) (stance : Stance) → test (bare_by setup past hand (at server stance)) ≡ own stance) → (owns : List defined.Seat) → list_any test (bare setup past hand owns) ≡ any_seat own owns
any-bare setup past hand test own same [] = refl
any-bare setup past hand test own same (seat ∷ owns) =
    ap (λ b. b || list_any test (bare setup past hand owns)) (same seat.server seat.stance)
    ∙ ap (λ b. own seat.stance || b) (any-bare setup past hand test own same owns)

-- Tests of one.

goes-one : (setup : Setup) (past : List Entry) (hand : Hand) (server : Server) (stance : Stance) → Agree hand stance → entry_goes (seat_by setup past hand (at server stance)) ≡ is_sent stance
goes-one setup past hand server Out agree = refl
goes-one setup past hand server Owed agree = refl
goes-one setup past Empty server (Linking true) agree = elim agree [ ]
goes-one setup past (Waiting entry) server (Linking true) agree = refl
goes-one setup past (Applied entry) server (Linking true) agree = elim agree [ ]
goes-one setup past (Ready entry) server (Linking true) agree = elim agree [ ]
goes-one setup past hand server (Linking false) agree = refl
goes-one setup past Empty server (Standby on_way Sent keeps) agree = elim agree [ ]
goes-one setup past (Waiting entry) server (Standby on_way Sent keeps) agree = refl
goes-one setup past (Applied entry) server (Standby on_way Sent keeps) agree = elim agree [ ]
goes-one setup past (Ready entry) server (Standby on_way Sent keeps) agree = elim agree [ ]
goes-one setup past hand server (Standby on_way Clear keeps) agree = refl
goes-one setup past hand server (Standby on_way Took keeps) agree = refl

confirms-one : (setup : Setup) (past : List Entry) (hand : Hand) (server : Server) (stance : Stance) → confirms (seat_by setup past hand (at server stance)) ≡ is_took stance
confirms-one setup past hand server Out = refl
confirms-one setup past hand server Owed = refl
confirms-one setup past hand server (Linking sent) = refl
confirms-one setup past hand server (Standby None Clear keeps) = refl
confirms-one setup past hand server (Standby None Sent keeps) = refl
confirms-one setup past hand server (Standby None Took keeps) = refl
confirms-one setup past hand server (Standby (Some number) Clear keeps) = refl
confirms-one setup past hand server (Standby (Some number) Sent keeps) = refl
confirms-one setup past hand server (Standby (Some number) Took keeps) = refl

linked-one : (setup : Setup) (past : List Entry) (hand : Hand) (server : Server) (stance : Stance) → goes_to (seat_by setup past hand (at server stance)) ≡ is_linked stance
linked-one setup past hand server Out = refl
linked-one setup past hand server Owed = refl
linked-one setup past hand server (Linking true) = refl
linked-one setup past hand server (Linking false) = refl
linked-one setup past hand server (Standby on_way mark keeps) = refl

pub standby-one : (setup : Setup) (past : List Entry) (hand : Hand) (stance : Stance) → stands_by (node_by setup past hand stance).replica.role ≡ is_standby stance
standby-one setup past hand Out = refl
standby-one setup past hand Owed = refl
standby-one setup past hand (Linking sent) = refl
standby-one setup past hand (Standby on_way mark keeps) = refl

fresh-one : (setup : Setup) (past : List Entry) (hand : Hand) (server : Server) (stance : Stance) → code.is_fresh (seat_by setup past hand (at server stance)) ≡ falling.is_fresh stance
fresh-one setup past hand server Out = refl
fresh-one setup past hand server Owed = refl
fresh-one setup past hand server (Linking sent) = refl
fresh-one setup past hand server (Standby on_way mark true) = refl
fresh-one setup past hand server (Standby on_way mark false) = refl

unsent-applied : (mark : Mark) (on_way : Option ℕ) (keeps : Bool) → not (is_sent (Standby on_way mark keeps)) ≡ falling.has_applied (Standby on_way mark keeps)
unsent-applied Clear on_way keeps = refl
unsent-applied Sent on_way keeps = refl
unsent-applied Took on_way keeps = refl

applied-one : (setup : Setup) (past : List Entry) (hand : Hand) (server : Server) (stance : Stance) → Agree hand stance → code.has_applied (seat_by setup past hand (at server stance)) ≡ falling.has_applied stance
applied-one setup past hand server Out agree = refl
applied-one setup past hand server Owed agree = refl
applied-one setup past hand server (Linking sent) agree = refl
applied-one setup past hand server (Standby on_way mark keeps) agree =
    ap not (goes-one setup past hand server (Standby on_way mark keeps) agree) ∙ unsent-applied mark on_way keeps

pub up-one : (setup : Setup) (past : List Entry) (hand : Hand) (stance : Stance) → not (stays_down (node_by setup past hand stance).replica.role) ≡ is_up stance
up-one setup past hand Out = refl
up-one setup past hand Owed = refl
up-one setup past hand (Linking sent) = refl
up-one setup past hand (Standby on_way mark keeps) = refl

-- **tests of all**

module _ (setup : Setup) (past : List Entry) (hand : Hand) (owns : List defined.Seat) (agree : AllSeats (Agree hand) owns) where
  pub goes-is : list_any entry_goes (seats_by setup past hand owns) ≡ any_seat is_sent owns
  goes-is = any-code setup past hand entry_goes is_sent (goes-one setup past hand) owns agree

  pub confirms-is : list_any confirms (seats_by setup past hand owns) ≡ any_seat is_took owns
  confirms-is = any-code setup past hand confirms is_took (λ server stance agrees. confirms-one setup past hand server stance) owns agree

  pub waits-is : still_waits (seats_by setup past hand owns) ≡ (any_seat is_sent owns || any_seat is_took owns)
  waits-is = λ i. goes-is i || confirms-is i

  pub linked-is : list_any goes_to (seats_by setup past hand owns) ≡ any_seat is_linked owns
  linked-is = any-code setup past hand goes_to is_linked (λ server stance agrees. linked-one setup past hand server stance) owns agree

  pub standby-is : list_any code.stands_by (seats_by setup past hand owns) ≡ any_seat is_standby owns
  standby-is = any-code setup past hand code.stands_by is_standby (λ server stance agrees. standby-one setup past hand stance) owns agree

  pub fresh-is : list_any code.is_fresh (seats_by setup past hand owns) ≡ any_seat falling.is_fresh owns
  fresh-is = any-code setup past hand code.is_fresh falling.is_fresh (λ server stance agrees. fresh-one setup past hand server stance) owns agree

  applied-is : list_any code.has_applied (seats_by setup past hand owns) ≡ any_seat falling.has_applied owns
  applied-is = any-code setup past hand code.has_applied falling.has_applied (applied-one setup past hand) owns agree

  pub catches-so : code.catches (seats_by setup past hand owns) ≡ (any_seat is_sent owns && any_seat falling.has_applied owns)
  catches-so = λ i. goes-is i && applied-is i

-- and of the seats without what is on the way
fresh-bare-one : (setup : Setup) (past : List Entry) (hand : Hand) (server : Server) (stance : Stance) → code.is_fresh (bare_by setup past hand (at server stance)) ≡ falling.is_fresh stance
fresh-bare-one setup past hand server Out = refl
fresh-bare-one setup past hand server Owed = refl
fresh-bare-one setup past hand server (Linking sent) = refl
fresh-bare-one setup past hand server (Standby on_way mark true) = refl
fresh-bare-one setup past hand server (Standby on_way mark false) = refl

pub fresh-bare : (setup : Setup) (past : List Entry) (hand : Hand) (owns : List defined.Seat) → list_any code.is_fresh (bare setup past hand owns) ≡ any_seat falling.is_fresh owns
fresh-bare setup past hand owns = any-bare setup past hand code.is_fresh falling.is_fresh (fresh-bare-one setup past hand) owns

-- Where no entry waits none is on the way.

unsent-one : (hand : Hand) (stance : Stance) → ((entry : Entry) → hand ≡ Waiting entry → ⊥) → Agree hand stance → is_sent stance ≡ false
unsent-one hand Out not agree = refl
unsent-one hand Owed not agree = refl
unsent-one hand (Linking false) not agree = refl
unsent-one Empty (Linking true) not agree = elim agree [ ]
unsent-one (Waiting entry) (Linking true) not agree = absurd (not entry refl)
unsent-one (Applied entry) (Linking true) not agree = elim agree [ ]
unsent-one (Ready entry) (Linking true) not agree = elim agree [ ]
unsent-one hand (Standby on_way Clear keeps) not agree = refl
unsent-one hand (Standby on_way Took keeps) not agree = refl
unsent-one Empty (Standby on_way Sent keeps) not agree = elim agree [ ]
unsent-one (Waiting entry) (Standby on_way Sent keeps) not agree = absurd (not entry refl)
unsent-one (Applied entry) (Standby on_way Sent keeps) not agree = elim agree [ ]
unsent-one (Ready entry) (Standby on_way Sent keeps) not agree = elim agree [ ]

pub unsent : (hand : Hand) (owns : List defined.Seat) → ((entry : Entry) → hand ≡ Waiting entry → ⊥) → AllSeats (Agree hand) owns → any_seat is_sent owns ≡ false
unsent hand [] not agree = refl
unsent hand (seat ∷ owns) not agree =
    ap (λ b. b || any_seat is_sent owns) (unsent-one hand seat.stance not agree.0) ∙ unsent hand owns not agree.1

catches-by : (hand : Hand) (owns : List defined.Seat) → WaitsFor hand owns → AllSeats (Agree hand) owns → (any_seat is_sent owns && any_seat falling.has_applied owns) ≡ catches owns hand
catches-by (Waiting entry) owns waits agree = ap (λ b. b && any_seat falling.has_applied owns) waits
catches-by Empty owns waits agree = ap (λ b. b && any_seat falling.has_applied owns) (unsent Empty owns (λ entry same. cc) agree)
catches-by (Applied entry) owns waits agree = ap (λ b. b && any_seat falling.has_applied owns) (unsent (Applied entry) owns (λ other same. cc) agree)
catches-by (Ready entry) owns waits agree = ap (λ b. b && any_seat falling.has_applied owns) (unsent (Ready entry) owns (λ other same. cc) agree)

-- **whether the standbys catch up**
pub catches-is : (setup : Setup) (past : List Entry) (hand : Hand) (owns : List defined.Seat) → WaitsFor hand owns → AllSeats (Agree hand) owns → code.catches (seats_by setup past hand owns) ≡ catches owns hand
catches-is setup past hand owns waits agree = catches-so setup past hand owns agree ∙ catches-by hand owns waits agree
