-- Which servers go down in a line, and where the disk's count of faults rises.
use Rattle.std.proofs.Common.{◌≡◌, ℕ, ◌-◌, inl, inr, Bool, true, false, nat_lt, if◌then◌else◌, List, Option, Some, None, refl, sym, subst, arith}
use Rattle.std.proofs.lemmas.Bool.{ltb-true}
use Rattle.disk_model.specs.Disk.{Files}
use Rattle.script_lines.specs.declared.line.Line.{Line}
use Rattle.script_lines.specs.declared.line.Line.TheVariants as line
use Rattle.script_lines.specs.declared.line.Server.{Server}
use Rattle.script_lines.specs.declared.line.Server.TheVariants.{A, B, C}
use Rattle.service_laws.specs.PlainOf.{plain_of}
use Rattle.service_laws.proofs.ServiceLaws.{is_plain}
use Rattle.cluster_facts.specs.Types.{Entry}
use Rattle.cluster_facts.specs.Service.{Plain}
use Rattle.cluster_facts.specs.History.{committed_by}
use Rattle.cluster_facts.specs.World.{World}
use Rattle.cluster_events.specs.Devices.{Device}
use Rattle.cluster_events.specs.Outcomes.{Outcome}
use Rattle.cluster_events.specs.Running.{Shelf}
use Rattle.cluster_events.specs.Servers.{State}
use Rattle.group_cluster.specs.Seats.{Mark, Clear, Sent, Took, Stance, Out, Owed, Linking, Standby, Seat, Peers, IsGroup, any_seat, on_seats}
use Rattle.group_cluster.specs.Falling.{capped, catches, caught_hand, caught_seats, count_fallen, crash, failing, felled, is_fresh, named, next_of, out_at, rejoined, taken_over, takes}
use Rattle.group_cluster.specs.Running.{GroupHappens}
use Rattle.group_cluster.proofs.Staying.{servers-stay-up}
use Rattle.cluster_core.proofs.TwoSeats.{IsOfTwo, two-good, two_beside}
use Rattle.cluster_core.specs.Game.{world_game}
use Rattle.cluster_core.specs.GameLaws.{device_in, world_plays}
use Rattle.played_runs.proofs.PlayLaws.{played-says, each-played}
use Rattle.world_runs.specs.Counting.{CallsCounted}
use Rattle.world_runs.specs.Falling.{CrashesOne, FallsByCause, FaultsFell, HasFallen}
use Rattle.cluster_core.specs.Runs.{OfAllLines, OfAllLinesOf}

-- Of two servers the other one takes over, whatever the disk fails in.

-- the one that takes over does not fail
capped-one : (count : ℕ) → capped count 1 ≡ 0
capped-one count = by (nat_lt count 1) refl
  where
    by : (b : Bool) → nat_lt count 1 ≡ b → (if b then count else 1 - 1) ≡ 0
    by true is = let below = ltb-true count 1 is in omega arith
    by false is = refl

-- what servers are then, by the history that goes on and the seats as it is gone on from
abbrev over_at : Device → List Entry → Server → List Seat → Peers
over_at device history acting seats =
    let fresh = any_seat is_fresh seats in
    let count = count_fallen device fresh history seats in
    let next = next_of acting count (named (takes fresh) seats) in
    record { acting = next; seats = out_at next (on_seats rejoined (felled (takes fresh) count seats)); armed = None }

abbrev over_with : ℕ → Server → List Seat → Peers
over_with count acting seats =
    let next = next_of acting count (named (takes false) seats) in
    record { acting = next; seats = out_at next (on_seats rejoined (felled (takes false) count seats)); armed = None }

over-two : (device : Device) (history : List Entry) (acting : Server) → IsOfTwo acting → (on_way : Option ℕ) (mark : Mark) (keeps : Bool) → HasFallen acting (over_at device history acting (two_beside acting (Standby on_way mark keeps)))
over-two device history A of_two on_way mark true =
    subst (λ (count : ℕ). HasFallen A (over_with count A (two_beside A (Standby on_way mark true)))) (sym (capped-one (failing device history))) (refl, refl)
over-two device history A of_two on_way mark false = (refl, refl)
over-two device history B of_two on_way mark true =
    subst (λ (count : ℕ). HasFallen B (over_with count B (two_beside B (Standby on_way mark true)))) (sym (capped-one (failing device history))) (refl, refl)
over-two device history B of_two on_way mark false = (refl, refl)
over-two device history C of_two on_way mark keeps = elim of_two [ ]

over-caught : (device : Device) (history : List Entry) (acting : Server) → IsOfTwo acting → (catching : Bool) (on_way : Option ℕ) (mark : Mark) (keeps : Bool) → HasFallen acting (over_at device history acting (caught_seats catching (two_beside acting (Standby on_way mark keeps))))
over-caught device history A of_two true on_way Clear keeps = over-two device history A of_two on_way Clear keeps
over-caught device history A of_two true on_way Sent keeps = over-two device history A of_two on_way Took true
over-caught device history A of_two true on_way Took keeps = over-two device history A of_two on_way Took keeps
over-caught device history A of_two false on_way mark keeps = over-two device history A of_two on_way mark keeps
over-caught device history B of_two true on_way Clear keeps = over-two device history B of_two on_way Clear keeps
over-caught device history B of_two true on_way Sent keeps = over-two device history B of_two on_way Took true
over-caught device history B of_two true on_way Took keeps = over-two device history B of_two on_way Took keeps
over-caught device history B of_two false on_way mark keeps = over-two device history B of_two on_way mark keeps
over-caught device history C of_two catching on_way mark keeps = elim of_two [ ]

abbrev two_of : Server → Stance → Option ℕ → Peers
two_of acting stance armed = record { acting = acting; seats = two_beside acting stance; armed = armed }

over-one : (device : Device) (world : World) (acting : Server) → IsOfTwo acting → (on_way : Option ℕ) (mark : Mark) (keeps : Bool) (armed : Option ℕ) → HasFallen acting (taken_over device (record { world = world; peers = two_of acting (Standby on_way mark keeps) armed })).state.peers
over-one device world acting of_two on_way mark keeps armed =
    let catching = catches (two_beside acting (Standby on_way mark keeps)) world.core.hand in
    over-caught device (committed_by world.core.answered (caught_hand catching world.core.hand)) acting of_two catching on_way mark keeps

-- by which server is active, how the other one stands, and the count that is armed
crash-one : (device : Device) (world : World) (server acting : Server) → IsOfTwo acting → (stance : Stance) (armed : Option ℕ) → CrashesOne (line.Crash server) (two_of acting stance armed) (crash device server (record { world = world; peers = two_of acting stance armed })).state.peers
crash-one device world A A of_two Out armed = inl refl
crash-one device world A A of_two Owed armed = inl refl
crash-one device world A A of_two (Linking sent) armed = inl refl
crash-one device world A A of_two (Standby on_way mark keeps) armed = inr (over-one device world A of_two on_way mark keeps armed)
crash-one device world B B of_two Out armed = inl refl
crash-one device world B B of_two Owed armed = inl refl
crash-one device world B B of_two (Linking sent) armed = inl refl
crash-one device world B B of_two (Standby on_way mark keeps) armed = inr (over-one device world B of_two on_way mark keeps armed)
crash-one device world A B of_two Out armed = inl refl
crash-one device world A B of_two Owed (Some left) = inl refl
crash-one device world A B of_two (Linking sent) (Some left) = inl refl
crash-one device world A B of_two (Standby on_way mark keeps) (Some left) = inl refl
crash-one device world A B of_two Owed None = inr (refl, refl)
crash-one device world A B of_two (Linking sent) None = inr (refl, refl)
crash-one device world A B of_two (Standby on_way mark keeps) None = inr (refl, refl)
crash-one device world B A of_two Out armed = inl refl
crash-one device world B A of_two Owed (Some left) = inl refl
crash-one device world B A of_two (Linking sent) (Some left) = inl refl
crash-one device world B A of_two (Standby on_way mark keeps) (Some left) = inl refl
crash-one device world B A of_two Owed None = inr (refl, refl)
crash-one device world B A of_two (Linking sent) None = inr (refl, refl)
crash-one device world B A of_two (Standby on_way mark keeps) None = inr (refl, refl)
crash-one device world C A of_two stance armed = inl refl
crash-one device world C B of_two stance armed = inl refl
crash-one device world server C of_two stance armed = elim of_two [ ]

crashes-one : (plain : Plain) (shelf : Shelf) (device : Device) (next : Line) (state : State Peers) (outcome : Outcome (State Peers)) → IsGroup 2 state → GroupHappens plain shelf device next state outcome → CrashesOne next state.peers outcome.state.peers
crashes-one plain shelf device (line.Crash server) state outcome good happens =
    let two = two-good state good in
    let with_seats : List Seat → Peers = λ seats. record state.peers { seats = seats } in
    let C : List Seat → Type 0 = λ seats. CrashesOne (line.Crash server) (with_seats seats) (crash device server (record { world = state.world; peers = with_seats seats })).state.peers in
    subst (λ (o : Outcome (State Peers)). CrashesOne (line.Crash server) state.peers o.state.peers) (sym happens)
    (subst C (sym two.is) (crash-one device state.world server state.peers.acting two.acts two.stance state.peers.armed))
crashes-one plain shelf device _ state outcome good happens = tt

pub falls-by-cause : (held : Option Files) → OfAllLines held FallsByCause
falls-by-cause held =
    each-played world_game world_plays held (λ setup. FallsByCause) (λ setup places first lines state told before next outcome after run done. (
      λ calm short stood. servers-stay-up 2 (plain_of setup) (is_plain setup) done.shelf (device_in done) (done.step.caused stood) next state outcome (played-says world_game world_plays setup places held first run).0 calm done.step.happens short,
      crashes-one (plain_of setup) done.shelf (device_in done) next state outcome (played-says world_game world_plays setup places held first run).0.good done.step.happens,
    ))

pub faults-fell : (held : Option Files) → OfAllLines held FaultsFell
faults-fell held =
    each-played world_game world_plays held (λ setup. FaultsFell) (λ setup places first lines state told before next outcome after run done. (done.later, done.felled))

pub calls-counted : (held : Option Files) → OfAllLinesOf held (CallsCounted held)
calls-counted held =
    each-played world_game world_plays held (CallsCounted held) (λ setup places first lines state told before next outcome after run done.
    record { fails = done.step.fails; caused = done.step.caused; shelf = done.shelf; happens = done.step.happens; counts = done.counts })
