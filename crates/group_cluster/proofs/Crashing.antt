-- `crash` takes down its own server and no other one.
use Rattle.std.proofs.Common.{◌≡◌, ℕ, zero, suc, ◌-◌, inl, inr, ◌⊎◌, Bool, true, false, ◌||◌, not, nat_le, if◌then◌else◌, None, List, [], ◌∷◌, length, refl, ap, sym, ◌∙◌, subst, arith}
use Rattle.std.proofs.lemmas.Bool.{lt-ltb}
use Rattle.script_lines.specs.declared.line.Server.{Server}
use Rattle.cluster_facts.specs.Types.{Entry}
use Rattle.cluster_facts.specs.History.{committed_by}
use Rattle.cluster_events.specs.Servers.{State}
use Rattle.cluster_events.specs.Devices.{Device}
use Rattle.group_cluster.specs.Seats.{Stance, Out, Owed, Linking, Standby, Clear, Sent, Took, Seat, Peers, IsGroup, IsApart, is_up, same_server, stance_of, on_seats, any_seat, count_seats, is_standby}
use Rattle.group_cluster.specs.Falling.{out_at, caught, catches, caught_seats, caught_hand, is_fresh, takes, felled, named, next_of, rejoined, failing, capped, count_fallen, crash_active, crash_other, crash_by, is_served}
use Rattle.group_cluster.specs.Standing.{is_up_in, CrashesOne, CrashTakesOne}
use Rattle.group_cluster.proofs.Seating.{same-turned, same-is, apart-on, apart-caught, apart-at}
use Rattle.group_cluster.proofs.Staying.{Stay, stay-same, stay-on, stay-stance}

-- One server goes down by its name.

pub stance-out : (server : Server) (seats : List Seat) → is_up (stance_of server (out_at server seats)) ≡ false
stance-out server [] = refl
stance-out server (seat ∷ seats) =
    let S : Bool → Type 0 = λ b. is_up (if b then (if b then Out else seat.stance) else stance_of server (out_at server seats)) ≡ false in
    elim (same_server server seat.server) as S [ true ↦ refl | false ↦ stance-out server seats ]

pick : (b c : Bool) (one other rest more : Stance) → (b ≡ true → c ≡ false) → rest ≡ more → (if b then (if c then one else other) else rest) ≡ (if b then other else more)
pick true true one other rest more apart same = let no = apart refl in absurd cc
pick true false one other rest more apart same = refl
pick false c one other rest more apart same = same

stance-else : (other server : Server) → same_server other server ≡ false → (seats : List Seat) → stance_of other (out_at server seats) ≡ stance_of other seats
stance-else other server apart [] = refl
stance-else other server apart (seat ∷ seats) =
    pick (same_server other seat.server) (same_server server seat.server) Out seat.stance _ _ (λ is. subst (λ (s : Server). same_server server s ≡ false) (same-is other seat.server is) (same-turned server other ∙ apart)) (stance-else other server apart seats)

-- The active server is nothing else beside.

pub apart-down : (acting : Server) (seats : List Seat) → IsApart acting seats → is_up (stance_of acting seats) ≡ false
apart-down acting [] apart = refl
apart-down acting (seat ∷ seats) apart =
    let D : Bool → Type 0 = λ b. (b ≡ true → seat.stance ≡ Out) → is_up (if b then seat.stance else stance_of acting seats) ≡ false in
    (elim (same_server acting seat.server) as D [ true ↦ λ out. ap is_up (out refl) | false ↦ λ out. apart-down acting seats apart.1 ]) (λ is. apart.0 (same-turned seat.server acting ∙ is))

-- those that take over are standbys
takes-standby : (fresh : Bool) (stance : Stance) → takes fresh stance ≡ true → stance ≡ Out → ⊥
takes-standby true Out it is = cc
takes-standby false Out it is = cc
takes-standby fresh Owed it is = cc
takes-standby fresh (Linking sent) it is = cc
takes-standby fresh (Standby on_way mark keeps) it is = cc

first-apart : (test : Stance → Bool) → ((stance : Stance) → test stance ≡ true → stance ≡ Out → ⊥) → (acting last : Server) (seats : List Seat) → any_seat test seats ≡ true → IsApart acting seats → same_server (next_of last 0 (named test seats)) acting ≡ false
first-apart test stands acting last [] some apart = cc
first-apart test stands acting last (seat ∷ seats) some apart =
    first (test seat.stance) refl some (λ more. first-apart test stands acting last seats more apart.1)
  where
    not-same : (b : Bool) → same_server seat.server acting ≡ b → test seat.stance ≡ true → b ≡ false
    not-same true is it = absurd (stands seat.stance it (apart.0 is))
    not-same false is it = refl

    first : (b : Bool) → test seat.stance ≡ b → (b || any_seat test seats) ≡ true → (any_seat test seats ≡ true → same_server (next_of last 0 (named test seats)) acting ≡ false) → same_server (next_of last 0 (if b then seat.server ∷ named test seats else named test seats)) acting ≡ false
    first true it some deeper = not-same (same_server seat.server acting) refl it
    first false it some deeper = deeper some

-- some standby takes over
pub caught-standby : (stance : Stance) → is_standby (caught stance) ≡ is_standby stance
caught-standby Out = refl
caught-standby Owed = refl
caught-standby (Linking sent) = refl
caught-standby (Standby on_way Clear keeps) = refl
caught-standby (Standby on_way Sent keeps) = refl
caught-standby (Standby on_way Took keeps) = refl

any-caught : (seats : List Seat) → any_seat is_standby (on_seats caught seats) ≡ any_seat is_standby seats
any-caught [] = refl
any-caught (seat ∷ seats) = ap (λ b. b || any_seat is_standby (on_seats caught seats)) (caught-standby seat.stance) ∙ ap (λ b. is_standby seat.stance || b) (any-caught seats)

pub some-caught : (catching : Bool) (seats : List Seat) → any_seat is_standby seats ≡ true → any_seat is_standby (caught_seats catching seats) ≡ true
some-caught true seats some = any-caught seats ∙ some
some-caught false seats some = some

some-takes : (fresh : Bool) (seats : List Seat) → any_seat is_fresh seats ≡ fresh → any_seat is_standby seats ≡ true → any_seat (takes fresh) seats ≡ true
some-takes true seats fresh some = fresh
some-takes false seats fresh some = some

caught-up : (stance : Stance) → is_up stance ≡ true → is_up (caught stance) ≡ true
caught-up Out up = up
caught-up Owed up = refl
caught-up (Linking sent) up = refl
caught-up (Standby on_way Clear keeps) up = refl
caught-up (Standby on_way Sent keeps) up = refl
caught-up (Standby on_way Took keeps) up = refl

rejoined-up : (stance : Stance) → is_up stance ≡ true → is_up (rejoined stance) ≡ true
rejoined-up Out up = up
rejoined-up Owed up = refl
rejoined-up (Linking sent) up = refl
rejoined-up (Standby on_way mark keeps) up = refl

stay-caught : (catching : Bool) (seats : List Seat) → Stay seats (caught_seats catching seats)
stay-caught true seats = stay-on caught caught-up seats seats (stay-same seats)
stay-caught false seats = stay-same seats

-- without a fault none fails
failing-none : (device : Device) → ((number : ℕ) → device.fails number ≡ 0) → (history : List Entry) → failing device history ≡ 0
failing-none device never [] = refl
failing-none device never (entry ∷ past) =
    let none : device.fails (suc (length past)) - 1 ≡ 0 = ap (λ n. n - 1) (never (suc (length past))) in
    let S : Bool → Type 0 = λ b. (if b then device.fails (suc (length past)) - 1 else 0) ≡ 0 in
    elim (nat_le 1 (device.calls past entry)) as S [ true ↦ none | false ↦ refl ]

capped-none : (standbys : ℕ) → capped 0 standbys ≡ 0
capped-none zero = refl
capped-none (suc standbys) = ap (λ b. if b then 0 else suc standbys - 1) (lt-ltb 0 (suc standbys) (omega arith))

count-none : (device : Device) (fresh : Bool) (history : List Entry) (seats : List Seat) → failing device history ≡ 0 → count_fallen device fresh history seats ≡ 0
count-none device true history seats none = refl
count-none device false history seats none = ap (λ n. capped n (count_seats is_standby seats)) none ∙ capped-none (count_seats is_standby seats)

or-else : (one : Bool) → one ≡ false → (other : Bool) → (one || other) ≡ true → other ≡ true
or-else true none other up = cc
or-else false none other up = up

pub either-false : (one other : Bool) → one ≡ false → other ≡ false → (one || other) ≡ false
either-false one other first second = ap (λ b. b || other) first ∙ second

-- **the active server crashes**
abbrev Over : Bool → Bool → ℕ → Peers → Peers
Over catching fresh count old =
    let seats = caught_seats catching old.seats in
    let acting = next_of old.acting count (named (takes fresh) seats) in
    record { acting = acting; seats = out_at acting (on_seats rejoined (felled (takes fresh) count seats)); armed = None }

over-one : (catching fresh : Bool) (server : Server) (old : Peers) → same_server server old.acting ≡ true → IsApart old.acting old.seats → any_seat is_standby old.seats ≡ true → any_seat is_fresh (caught_seats catching old.seats) ≡ fresh → CrashesOne server old (Over catching fresh 0 old)
over-one catching fresh server old is apart some none_left =
    let seats = caught_seats catching old.seats in
    let left = on_seats rejoined seats in
    let new = next_of old.acting 0 (named (takes fresh) seats) in
    let apart_caught = apart-caught old.acting catching old.seats apart in
    let differs = first-apart (takes fresh) (takes-standby fresh) old.acting old.acting seats (some-takes fresh seats none_left (some-caught catching old.seats some)) apart_caught in
    let same = same-is server old.acting is in
    let apart_new = apart-at old.acting new (λ stance. Out) differs left (apart-on old.acting rejoined refl seats apart_caught) in
    let down = either-false (same_server old.acting new) (is_up (stance_of old.acting (out_at new left))) (same-turned old.acting new ∙ differs) (apart-down old.acting (out_at new left) apart_new) in
    record {
      down = subst (λ (s : Server). is_up_in (Over catching fresh 0 old) s ≡ false) (sym same) down;
      others = λ other not up.
          let not_acting = subst (λ (s : Server). same_server other s ≡ false) same not in
          let was = or-else (same_server other old.acting) not_acting (is_up (stance_of other old.seats)) up in
          let stay = stay-on rejoined rejoined-up old.seats seats (stay-caught catching old.seats) in
          let still = stay-stance old.seats left stay other was in
          stands (same_server other new) other new left still refl;
    }
  where
    stands : (b : Bool) → (other new : Server) (left : List Seat) → is_up (stance_of other left) ≡ true → same_server other new ≡ b → (b || is_up (stance_of other (out_at new left))) ≡ true
    stands true other new left still is = refl
    stands false other new left still is = ap is_up (stance-else other new is left) ∙ still

other-one : (server : Server) (old : Peers) → same_server server old.acting ≡ false → CrashesOne server old (record { acting = old.acting; seats = out_at server old.seats; armed = old.armed })
other-one server old not = record {
  down = either-false (same_server server old.acting) (is_up (stance_of server (out_at server old.seats))) not (stance-out server old.seats);
  others = λ other apart up. ap (λ s. same_server other old.acting || is_up s) (stance-else other server apart old.seats) ∙ up;
}

active-crash : (size : ℕ) (device : Device) → ((number : ℕ) → device.fails number ≡ 0) → (server : Server) (standby : Bool) (state : State Peers) → same_server server state.peers.acting ≡ true → IsGroup size state → any_seat is_standby state.peers.seats ≡ standby → ((crash_active device server standby state).state ≡ state) ⊎ CrashesOne server state.peers (crash_active device server standby state).state.peers
active-crash size device never server false state is good some = inl refl
active-crash size device never server true state is good some =
    let hand = state.world.core.hand in
    let catching = catches state.peers.seats hand in
    let fresh = any_seat is_fresh (caught_seats catching state.peers.seats) in
    let history = committed_by state.world.core.answered (caught_hand catching hand) in
    let none = count-none device fresh history (caught_seats catching state.peers.seats) (failing-none device never history) in
    inr (subst (λ n. CrashesOne server state.peers (Over catching fresh n state.peers)) (sym none) (over-one catching fresh server state.peers is good.apart some refl))

other-crash : (server : Server) (served : Bool) (stance : Stance) (state : State Peers) → same_server server state.peers.acting ≡ false → ((crash_other server served stance state).state ≡ state) ⊎ CrashesOne server state.peers (crash_other server served stance state).state.peers
other-crash server served Out state not = inl refl
other-crash server true Owed state not = inr (other-one server state.peers not)
other-crash server true (Linking sent) state not = inr (other-one server state.peers not)
other-crash server true (Standby on_way mark keeps) state not = inr (other-one server state.peers not)
other-crash server false Owed state not = inl refl
other-crash server false (Linking sent) state not = inl refl
other-crash server false (Standby on_way mark keeps) state not = inl refl

by-crash : (size : ℕ) (device : Device) → ((number : ℕ) → device.fails number ≡ 0) → (server : Server) (active : Bool) (state : State Peers) → same_server server state.peers.acting ≡ active → IsGroup size state → ((crash_by device server active state).state ≡ state) ⊎ CrashesOne server state.peers (crash_by device server active state).state.peers
by-crash size device never server true state is good = active-crash size device never server (any_seat is_standby state.peers.seats) state is good refl
by-crash size device never server false state is good = other-crash server (is_served state.peers.armed (out_at server state.peers.seats)) (stance_of server state.peers.seats) state is

pub crash-takes-one : CrashTakesOne
crash-takes-one size device never server state good =
    by-crash size device never server (same_server server state.peers.acting) state refl good
