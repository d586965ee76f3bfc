-- One that was standby takes over, whatever the disk fails in.
use Rattle.std.proofs.Common.{◌≡◌, ℕ, zero, suc, ◌+◌, ◌-◌, ◌≤◌, ◌<◌, Bool, true, false, ◌&&◌, ◌||◌, nat_lt, if◌then◌else◌, List, [], ◌∷◌, refl, ap, sym, ◌∙◌, arith}
use Rattle.std.proofs.lemmas.Bool.{ltb-true}
use Rattle.script_lines.specs.declared.line.Server.{Server}
use Rattle.script_lines.specs.declared.line.Server.TheVariants.{A, B, C}
use Rattle.cluster_facts.specs.Types.{Entry}
use Rattle.cluster_facts.specs.History.{committed_by}
use Rattle.cluster_events.specs.Devices.{Device}
use Rattle.group_cluster.specs.Seats.{Stance, Out, Owed, Linking, Standby, Seat, same_server, any_seat, count_seats, is_standby}
use Rattle.group_cluster.specs.Falling.{catches, caught_seats, caught_hand, is_fresh, takes, named, next_of, failing, capped, count_fallen}
use Rattle.group_cluster.specs.Standing.{is_standby_at, StandbyTakesOver}
use Rattle.group_cluster.proofs.Crashing.{some-caught, caught-standby}

same-self : (server : Server) → same_server server server ≡ true
same-self A = refl
same-self B = refl
same-self C = refl

or-right : (one other : Bool) → other ≡ true → (one || other) ≡ true
or-right true other is = refl
or-right false other is = is

first-of : (one two other : Bool) → one ≡ true → two ≡ true → ((one && two) || other) ≡ true
first-of one two other first second = ap (λ b. (b && two) || other) first ∙ ap (λ b. b || other) second

-- the next one behind so many of a row, where the row is longer
pub next-among : (test : Stance → Bool) → ((stance : Stance) → test stance ≡ true → is_standby stance ≡ true) → (last : Server) (count : ℕ) (seats : List Seat) → count < count_seats test seats → is_standby_at (next_of last count (named test seats)) seats ≡ true
next-among test stands last count [] less = absurd (omega arith)
next-among test stands last count (seat ∷ seats) less =
    by (test seat.stance) refl (λ n fewer. next-among test stands last n seats fewer) count less
  where
    by : (b : Bool) → test seat.stance ≡ b → ((n : ℕ) → n < count_seats test seats → is_standby_at (next_of last n (named test seats)) seats ≡ true) → (n : ℕ) → n < (if b then 1 else 0) + count_seats test seats → is_standby_at (next_of last n (if b then seat.server ∷ named test seats else named test seats)) (seat ∷ seats) ≡ true
    by true is deeper zero less = first-of (same_server seat.server seat.server) (is_standby seat.stance) (is_standby_at seat.server seats) (same-self seat.server) (stands seat.stance is)
    by true is deeper (suc n) less =
        or-right (same_server seat.server (next_of last n (named test seats)) && is_standby seat.stance) (is_standby_at (next_of last n (named test seats)) seats) (deeper n (omega arith))
    by false is deeper n less =
        or-right (same_server seat.server (next_of last n (named test seats)) && is_standby seat.stance) (is_standby_at (next_of last n (named test seats)) seats) (deeper n (omega arith))

-- the row is long enough
some-counted : (test : Stance → Bool) (seats : List Seat) → any_seat test seats ≡ true → 1 ≤ count_seats test seats
some-counted test [] some = cc
some-counted test (seat ∷ seats) some = by (test seat.stance) some (some-counted test seats)
  where
    by : (b : Bool) → (b || any_seat test seats) ≡ true → (any_seat test seats ≡ true → 1 ≤ count_seats test seats) → 1 ≤ (if b then 1 else 0) + count_seats test seats
    by true some deeper = omega arith
    by false some deeper = let more = deeper some in omega arith

capped-less : (count standbys : ℕ) → 1 ≤ standbys → capped count standbys < standbys
capped-less count standbys some = by (nat_lt count standbys) refl
  where
    by : (b : Bool) → nat_lt count standbys ≡ b → (if b then count else standbys - 1) < standbys
    by true is = let below : count < standbys = ltb-true count standbys is in below
    by false is = omega arith

takes-stands : (fresh : Bool) (stance : Stance) → takes fresh stance ≡ true → is_standby stance ≡ true
takes-stands true Out it = cc
takes-stands true Owed it = cc
takes-stands true (Linking sent) it = cc
takes-stands true (Standby on_way mark keeps) it = refl
takes-stands false stance it = it

row-long : (fresh : Bool) (device : Device) (history : List Entry) (seats : List Seat) → any_seat is_fresh seats ≡ fresh → any_seat is_standby seats ≡ true → count_fallen device fresh history seats < count_seats (takes fresh) seats
row-long true device history seats fresh some = some-counted is_fresh seats fresh
row-long false device history seats fresh some = capped-less (failing device history) (count_seats is_standby seats) (some-counted is_standby seats some)

-- catching changes no one's being a standby
at-caught : (server : Server) (catching : Bool) (seats : List Seat) → is_standby_at server (caught_seats catching seats) ≡ is_standby_at server seats
at-caught server true [] = refl
at-caught server true (seat ∷ seats) =
    ap (λ b. (same_server seat.server server && b) || is_standby_at server (caught_seats true seats)) (caught-standby seat.stance)
    ∙ ap (λ b. (same_server seat.server server && is_standby seat.stance) || b) (at-caught server true seats)
at-caught server false seats = refl

-- **one that was standby takes over**
pub standby-takes-over : StandbyTakesOver
standby-takes-over device state some =
    let hand = state.world.core.hand in
    let catching = catches state.peers.seats hand in
    let seats = caught_seats catching state.peers.seats in
    let fresh = any_seat is_fresh seats in
    let history = committed_by state.world.core.answered (caught_hand catching hand) in
    let count = count_fallen device fresh history seats in
    let stands = some-caught catching state.peers.seats some in
    let acting = next_of state.peers.acting count (named (takes fresh) seats) in
    sym (at-caught acting catching state.peers.seats)
    ∙ next-among (takes fresh) (takes-stands fresh) state.peers.acting count seats (row-long fresh device history seats refl stands)
