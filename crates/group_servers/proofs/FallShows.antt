-- Where one takes over the servers of the code are those of the definitions.
use Rattle.std.proofs.Common.{◌≡◌, ℕ, zero, suc, ◌+◌, ◌⊎◌, Bool, true, false, not, ◌||◌, if◌then◌else◌, Some, None, List, [], ◌∷◌, refl, ap, sym, ◌∙◌, subst}
use Rattle.std.specs.List.{AllByRecursion}
use Rattle.script_lines.specs.declared.line.Server.{Server}
use Rattle.plain_service.specs.Setups.{Setup}
use Rattle.cluster_facts.specs.Types.{Entry}
use Rattle.cluster_facts.specs.History.{Hand, Empty, committed_by}
use Rattle.cluster_events.specs.Servers.{State}
use Rattle.mirror.specs.declared.state.NodeState.{NodeState as Node}
use Rattle.mirror.specs.declared.node.Tie.TheVariants.{Linked, Apart}
use Rattle.mirror.specs.Replicas.{down}
use Rattle.mirror.specs.Pairing.{alone, taken_over}
use Rattle.group_cluster.specs.Seats as defined
use Rattle.group_cluster.specs.Seats.{Stance, Out, Owed, Linking, Standby, Peers, AreNames, Agree, same_server, on_seats, names_of, any_seat, count_seats, is_up}
use Rattle.group_cluster.specs.Falling.{catches, caught_seats, caught_hand, is_fresh, out_at, rejoined, felled, named, next_of, takes, count_fallen}
use Rattle.group_cluster.specs.Falling as falling
use Rattle.group_cluster.proofs.Seating.{AllSeats, any-none, by-names, names-caught, names-felled}
use Rattle.group_servers.specs.declared.group.Seat.{Seat}
use Rattle.group_servers.specs.declared.group.Group.{Group}
use Rattle.cluster_rounds.specs.Kits.{device_by}
use Rattle.lead_server.specs.Roles.{stays_down}
use Rattle.group_servers.specs.GroupNodes.{is_linked, active_by, standby_by, node_by, bare, servers_by}
use Rattle.group_servers.specs.Followed.{Follows, row_calls}
use Rattle.group_servers.specs.Rejoins.{all_rejoin, left_at, any_up, led_by, made_of}
use Rattle.group_servers.specs.Falls.{Exchanges}
use Rattle.disk_model.specs.Seen.{DiskSeen}
use Rattle.group_servers.specs.Tried.{won_at, IsAtPlace, Tried}
use Rattle.group_servers.specs.GroupCounts.{count_up}
use Rattle.group_servers.proofs.TriedFiles.{all-follow, all-make}
use Rattle.group_servers.proofs.FallOwn.{AreDistinct, apart-at, same-self, rejoined-own, led-own, fallen-told}
use Rattle.group_servers.proofs.UpSteps.{caught-up, felled-up, led-up, less-most, over-sum, takes-up}

-- The server at the place and the active one changed places.

pub record Led (setup : Setup) (past : List Entry) (hand : Hand) (test : Stance → Bool) (acting : Server) (place : ℕ) (owns : List defined.Seat) (news : List Seat) (active : Node) (now : Server) : Type 0 where
  pub seats : news ≡ left_at place (won_at place (bare setup past hand owns))
  pub named_so : now ≡ acting
  pub stance : Stance
  pub so : test stance ≡ true
  pub follows : Follows past hand stance
  pub node : active ≡ taken_over (node_by setup past hand stance)

pub exchanged-own : (setup : Setup) (past : List Entry) (hand : Hand) (test : Stance → Bool) (acting before now : Server) (place : ℕ) (owns : List defined.Seat) (news : List Seat) (active : Node) → AllSeats (Follows past hand) owns → IsAtPlace test acting place owns → Exchanges place (won_at place (bare setup past hand owns)) news (alone down) active before now → Led setup past hand test acting place owns news active now
exchanged-own setup past hand test acting before now place [] news active follow is changes = elim is [ ]
exchanged-own setup past hand test acting before now zero (own ∷ owns) (left ∷ news) active follow is changes =
    record {
      seats = λ i. changes.0 i ∷ changes.1 i;
      named_so = changes.3 ∙ sym is.0;
      stance = own.stance;
      so = is.1;
      follows = follow.0;
      node = changes.2;
    }
exchanged-own setup past hand test acting before now zero (own ∷ owns) [] active follow is changes = elim changes [ ]
exchanged-own setup past hand test acting before now (suc place) (own ∷ owns) [] active follow is changes = elim changes [ ]
exchanged-own setup past hand test acting before now (suc place) (own ∷ owns) (left ∷ news) active follow is changes =
    let rest = exchanged-own setup past hand test acting before now place owns news active follow.1 is changes.1 in
    record {
      seats = λ i. changes.0 i ∷ rest.seats i;
      named_so = rest.named_so;
      stance = rest.stance;
      so = rest.so;
      follows = rest.follows;
      node = rest.node;
    }

-- Those that failed are out, and the others as before.

felled-follow : (past : List Entry) (hand : Hand) (test : Stance → Bool) (count : ℕ) (owns : List defined.Seat) → AllSeats (Follows past hand) owns → AllSeats (Follows past hand) (felled test count owns)
felled-follow past hand test zero owns follow = follow
felled-follow past hand test (suc count) [] follow = tt
felled-follow past hand test (suc count) (own ∷ owns) follow = by (test own.stance) (felled-follow past hand test count owns follow.1) (felled-follow past hand test (suc count) owns follow.1)
  where
    by : (b : Bool) → AllSeats (Follows past hand) (felled test count owns) → AllSeats (Follows past hand) (felled test (suc count) owns) → AllSeats (Follows past hand) (if b then record { server = own.server; stance = Out } ∷ felled test count owns else own ∷ felled test (suc count) owns)
    by true less more = (tt, less)
    by false less more = (follow.0, more)

-- names are distinct
names-distinct : (n : ℕ) (names : List Server) → AreNames n names → AreDistinct names
names-distinct = by-names AreDistinct ((refl, tt), (tt, tt)) ((refl, (refl, tt)), ((refl, tt), (tt, tt)))

-- The one that took over is tied to the others exactly where some is not down.

up-by : (setup : Setup) (past : List Entry) (hand : Hand) (stance : Stance) → not (stays_down (node_by setup past hand stance).replica.role) ≡ is_linked (rejoined stance)
up-by setup past hand Out = refl
up-by setup past hand Owed = refl
up-by setup past hand (Linking sent) = refl
up-by setup past hand (Standby on_way mark keeps) = refl

up-none : (setup : Setup) (past : List Entry) (hand : Hand) (acting : Server) (owns : List defined.Seat) → AllByRecursion (λ (other : Server). same_server acting other ≡ false) (names_of owns) → any_up (bare setup past hand owns) ≡ any_seat is_linked (out_at acting (on_seats rejoined owns))
up-none setup past hand acting [] apart = refl
up-none setup past hand acting (own ∷ owns) apart =
    let S : Bool → Bool = λ b. is_linked (if b then Out else rejoined own.stance) || any_seat is_linked (out_at acting (on_seats rejoined owns)) in
    ap (λ b. b || any_up (bare setup past hand owns)) (up-by setup past hand own.stance)
    ∙ ap (λ b. is_linked (rejoined own.stance) || b) (up-none setup past hand acting owns apart.1)
    ∙ ap S (sym apart.0)

up-led : (setup : Setup) (past : List Entry) (hand : Hand) (test : Stance → Bool) (acting : Server) (place : ℕ) (owns : List defined.Seat) → AreDistinct (names_of owns) → IsAtPlace test acting place owns → any_up (left_at place (won_at place (bare setup past hand owns))) ≡ any_seat is_linked (out_at acting (on_seats rejoined owns))
up-led setup past hand test acting place [] distinct is = elim is [ ]
up-led setup past hand test acting zero (own ∷ owns) distinct is =
    let apart = subst (λ (s : Server). AllByRecursion (λ (other : Server). same_server s other ≡ false) (names_of owns)) (sym is.0) distinct.0 in
    let S : Bool → Bool = λ b. is_linked (if b then Out else rejoined own.stance) || any_seat is_linked (out_at acting (on_seats rejoined owns)) in
    up-none setup past hand acting owns apart ∙ ap S (sym (same-self acting own.server is.0))
up-led setup past hand test acting (suc place) (own ∷ owns) distinct is =
    let S : Bool → Bool = λ b. is_linked (if b then Out else rejoined own.stance) || any_seat is_linked (out_at acting (on_seats rejoined owns)) in
    ap (λ b. b || any_up (left_at place (won_at place (bare setup past hand owns)))) (up-by setup past hand own.stance)
    ∙ ap (λ b. is_linked (rejoined own.stance) || b) (up-led setup past hand test acting place owns distinct.1 is)
    ∙ ap S (sym (apart-at test acting place owns own.server distinct.0 is))

tied-by : (setup : Setup) (history : List Entry) (seats : List defined.Seat) (b : Bool) → b ≡ any_seat is_linked seats → led_by b (active_by setup history Empty []) ≡ active_by setup history Empty seats
tied-by setup history seats b is = ap (λ c. led_by c (active_by setup history Empty [])) is ∙ by (any_seat is_linked seats) refl
  where
    by : (c : Bool) → any_seat is_linked seats ≡ c → led_by c (active_by setup history Empty []) ≡ active_by setup history Empty seats
    by true so = λ i. record (active_by setup history Empty []) { tie = if sym so i then Linked else Apart; promised = [] }
    by false so = λ i. record (active_by setup history Empty []) { tie = if sym so i then Linked else Apart }

-- one that takes over is a standby
led-standby : (setup : Setup) (past : List Entry) (hand : Hand) (fresh : Bool) (stance : Stance) → takes fresh stance ≡ true → Follows past hand stance → taken_over (node_by setup past hand stance) ≡ active_by setup (committed_by past hand) Empty []
led-standby setup past hand fresh (Standby on_way mark keeps) it follows = led-own setup past hand on_way mark keeps follows
led-standby setup past hand true Out it follows = cc
led-standby setup past hand false Out it follows = cc
led-standby setup past hand true Owed it follows = cc
led-standby setup past hand false Owed it follows = cc
led-standby setup past hand true (Linking sent) it follows = cc
led-standby setup past hand false (Linking sent) it follows = cc

-- **the servers then**

module _ (n : ℕ) (setup : Setup) (state : State Peers) (names : AreNames n (names_of state.peers.seats)) (agree : AllSeats (Agree state.world.core.hand) state.peers.seats) (held left : DiskSeen) where
  abbrev past : List Entry
  past = state.world.core.answered

  abbrev catching : Bool
  catching = catches state.peers.seats state.world.core.hand

  abbrev hand : Hand
  hand = caught_hand catching state.world.core.hand

  abbrev owns : List defined.Seat
  owns = caught_seats catching state.peers.seats

  abbrev history : List Entry
  history = committed_by past hand

  -- the works that failed tell how many fell
  abbrev pub TellsCount : (ℕ → ℕ) → ℕ → Type 0
  TellsCount fails count = (number : ℕ) → (fails number ≡ suc count) ⊎ ((count ≡ 0) × (fails number ≡ 0))

  -- the one that took over is the active server of the history that goes on, with nobody linked yet
  pub fall-leads : (fresh : Bool) (seats news : List Seat) (place : ℕ) (active : Node) (before now : Server) → Tried setup past hand fresh owns seats (Some place) held left → Exchanges place seats news (alone down) active before now → active ≡ active_by setup history Empty []
  fall-leads fresh seats news place active before now tried changes =
      let test = takes fresh in
      let left_owns = felled test tried.count owns in
      let acting = next_of state.peers.acting tried.count (named test owns) in
      let follow = felled-follow past hand test tried.count owns (all-follow past state.world.core.hand state.peers.seats catching refl agree) in
      let E : List Seat → Type 0 = λ s. Exchanges place s news (alone down) active before now in
      let led = exchanged-own setup past hand test acting before now place left_owns news active follow (tried.next.1 state.peers.acting) (subst E tried.is changes) in
      led.node ∙ led-standby setup past hand fresh led.stance led.so led.follows

  -- and as many fell as failed
  pub fall-count : (fails : ℕ → ℕ) (fresh : Bool) (seats : List Seat) (place : ℕ) → any_seat is_fresh owns ≡ fresh → (tried : Tried setup past hand fresh owns seats (Some place) held left) → TellsCount fails tried.count → count_fallen (device_by setup fails) fresh history owns ≡ tried.count
  fall-count fails fresh seats place is tried tells =
      let follow = all-follow past state.world.core.hand state.peers.seats catching refl agree in
      let made = all-make setup past hand fresh owns follow (λ no. any-none is_fresh owns (is ∙ no)) in
      fallen-told setup fails fresh tried.count history owns tells (λ some. tried.calls (row_calls setup fresh history) made some) tried.next.0

  -- one server more is down than failed: the one that took over is active
  pub fall-up : (fails : ℕ → ℕ) (fresh : Bool) (seats : List Seat) (place : ℕ) → any_seat is_fresh owns ≡ fresh → (tried : Tried setup past hand fresh owns seats (Some place) held left) → TellsCount fails tried.count → count_up state ≡ suc tried.count + count_up (falling.taken_over (device_by setup fails) state).state
  fall-up fails fresh seats place is tried tells =
      let count = tried.count in
      let names_are : names_of (felled (takes fresh) count owns) ≡ names_of state.peers.seats = names-felled (takes fresh) count owns ∙ names-caught catching state.peers.seats in
      let distinct = names-distinct n (names_of (felled (takes fresh) count owns)) (subst (AreNames n) (sym names_are) names) in
      let U : ℕ → Bool → ℕ = λ k f. count_seats is_up (out_at (next_of state.peers.acting k (named (takes f) owns)) (on_seats rejoined (felled (takes f) k owns))) in
      let told = fall-count fails fresh seats place is tried tells in
      over-sum count (count_up state) (count_seats is_up owns) (count_seats is_up (felled (takes fresh) count owns)) (U count fresh)
      (count_up (falling.taken_over (device_by setup fails) state).state)
      (caught-up catching state.peers.seats)
      (felled-up (takes fresh) (takes-up fresh) count owns (less-most count (count_seats (takes fresh) owns) tried.next.0))
      (led-up (takes fresh) (takes-up fresh) (next_of state.peers.acting count (named (takes fresh) owns)) place (felled (takes fresh) count owns) distinct (tried.next.1 state.peers.acting))
      (ap (λ k. U k fresh) (sym told) ∙ ap (λ f. U (count_fallen (device_by setup fails) f history owns) f) (sym is))

  pub fall-shows : (fails : ℕ → ℕ) (fresh : Bool) (seats news lasts : List Seat) (place : ℕ) (active : Node) (before now : Server) → any_seat is_fresh owns ≡ fresh → (tried : Tried setup past hand fresh owns seats (Some place) held left) → TellsCount fails tried.count → Exchanges place seats news (alone down) active before now → lasts ≡ all_rejoin (standby_by setup history false) news → before ≡ state.peers.acting → made_of n now (led_by (any_up news) active) lasts false ≡ servers_by n setup history Empty (falling.taken_over (device_by setup fails) state).state.peers
  fall-shows fails fresh seats news lasts place active before now is tried tells changes rejoin was =
      let test = takes fresh in
      let count = tried.count in
      let left_owns = felled test count owns in
      let acting = next_of state.peers.acting count (named test owns) in
      let follow = all-follow past state.world.core.hand state.peers.seats catching refl agree in
      let felled_follow = felled-follow past hand test count owns follow in
      let names_are : names_of left_owns ≡ names_of state.peers.seats = names-felled test count owns ∙ names-caught catching state.peers.seats in
      let distinct = names-distinct n (names_of left_owns) (subst (AreNames n) (sym names_are) names) in
      let here = tried.next.1 state.peers.acting in
      let E : List Seat → Type 0 = λ s. Exchanges place s news (alone down) active before now in
      let led = exchanged-own setup past hand test acting before now place left_owns news active felled_follow here (subst E tried.is changes) in
      let seats_are = rejoin ∙ ap (all_rejoin (standby_by setup history false)) led.seats ∙ rejoined-own setup past history hand test acting place left_owns distinct here in
      let up = ap any_up led.seats ∙ up-led setup past hand test acting place left_owns distinct here in
      let node = led.node ∙ led-standby setup past hand fresh led.stance led.so led.follows in
      let active_is = ap (led_by (any_up news)) node ∙ tied-by setup history (out_at acting (on_seats rejoined left_owns)) (any_up news) up in
      let told = fall-count fails fresh seats place is tried tells in
      let D : ℕ → Bool → Group n = λ k f. servers_by n setup history Empty (record { acting = next_of state.peers.acting k (named (takes f) owns); seats = out_at (next_of state.peers.acting k (named (takes f) owns)) (on_seats rejoined (felled (takes f) k owns)); armed = None }) in
      let same : made_of n now (led_by (any_up news) active) lasts false ≡ D count fresh = λ i. made_of n (led.named_so i) (active_is i) (seats_are i) false in
      same ∙ ap (λ k. D k fresh) (sym told) ∙ ap (λ f. D (count_fallen (device_by setup fails) f history owns) f) (sym is)
