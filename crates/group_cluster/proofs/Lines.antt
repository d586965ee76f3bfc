-- Every line keeps the facts of the servers, and the relation of its kind.
use Rattle.std.proofs.Common.{◌≡◌, ℕ, ◌≤◌, Bool, true, false, ◌&&◌, not, Option, Some, None, List, [], ◌∷◌, refl, ap, sym, ◌∙◌, subst}
use Rattle.script_lines.specs.declared.line.Line.{Line}
use Rattle.script_lines.specs.declared.line.Line.TheVariants as line
use Rattle.script_lines.specs.declared.line.Server.{Server}
use Rattle.script_language.specs.Printing.{line_text}
use Rattle.cluster_facts.specs.Service.{Plain, IsPlain}
use Rattle.cluster_facts.specs.History.{Hand}
use Rattle.cluster_facts.specs.World.{World}
use Rattle.cluster_events.specs.Lines.{Told, Stood}
use Rattle.cluster_events.specs.declared.lines.ServerRole.TheVariants as role
use Rattle.cluster_events.specs.Outcomes.{Outcome}
use Rattle.cluster_events.specs.Servers.{State}
use Rattle.cluster_events.specs.Devices.{Device}
use Rattle.cluster_events.specs.Serving.{IsSteady}
use Rattle.cluster_events.specs.Running.{Shelf, Happens}
use Rattle.group_cluster.specs.Seats.{Stance, Out, Owed, Linking, Standby, Seat, Peers, is_standby, any_seat, Agree, IsArmed, AreNames, names_of, is_named, is_out_at, IsGroup, same_server, stance_of, standing_group}
use Rattle.group_cluster.specs.Falling.{refused, out_at, set_at, back_by, other_down, is_fresh, catches, caught_seats, taken_over, crash_active, is_served, crash_other, crash_by, arm_by, disarm, joined, can_join, restart_by}
use Rattle.group_cluster.specs.Group.{mirrored, confirmed, only, first_turn, mirror_at, ack_at, group}
use Rattle.group_cluster.specs.Running.{GroupHappens}
use Rattle.group_cluster.proofs.Seating.{all-at, any-at, names-at, apart-at, looked-seated, back-agrees, back-standby, back-waits, mirrored-turns, confirmed-turns, only-turns}
use Rattle.group_cluster.proofs.Stepping.{Bears, looked-keeps, over-sound, over-good, over-goes, StepLeaves, step-leaves}

-- The lines on failing servers, over any relation that the steps of the servers keep.
module _ (size : ℕ) (plain : Plain) (is_plain : IsPlain plain) (device : Device) (R : World → World → List Told → Type 0) (bears : Bears plain R) where
  abbrev Keeps : State Peers → Outcome (State Peers) → Type 0
  Keeps state outcome = IsSteady plain (IsGroup size) outcome.state × R state.world outcome.state.world outcome.told

  refused-keeps : (state : State Peers) (next : Line) → IsSteady plain (IsGroup size) state → Keeps state (refused next state)
  refused-keeps state next steady = (steady, bears.refused state.world (line_text next) (standing_group state))

  pub over-keeps : (state : State Peers) → IsSteady plain (IsGroup size) state → Keeps state (taken_over device state)
  over-keeps state steady =
      let world = state.world in
      let hand = world.core.hand in
      let catching = catches state.peers.seats hand in
      let fresh = any_seat is_fresh (caught_seats catching state.peers.seats) in
      (record { sound = over-sound size plain is_plain device R bears world world.core.answered catching hand steady.sound; good = over-good size plain is_plain device R bears state hand catching fresh steady.good.names steady.good.acts }, over-goes size plain is_plain device R bears state hand catching fresh steady.sound)

  served-armed : (armed : Option ℕ) (old new : List Seat) → IsArmed armed old → is_served armed new ≡ true → IsArmed armed new
  served-armed None old new is served = tt
  served-armed (Some left) old new is served = (is.0, served)

  down-keeps : (server : Server) (state : State Peers) → same_server server state.peers.acting ≡ false → is_served state.peers.armed (out_at server state.peers.seats) ≡ true → IsSteady plain (IsGroup size) state → Keeps state (other_down server state)
  down-keeps server state other served steady =
      let hand = state.world.core.hand in
      let seats = state.peers.seats in
      let out = out_at server seats in
      let same : names_of out ≡ names_of seats = names-at server (λ stance. Out) seats in
      let seated = looked-seated out hand (all-at (Agree hand) (Agree hand) server (λ stance. Out) (λ stance agree. tt) (λ stance agree. agree) seats steady.good.agree) in
      let keeps = looked-keeps size plain is_plain device R bears state.world state.world.core.answered out hand (Stood server role.Down ∷ []) (λ now. bears.stood now server role.Down) steady.sound in (
        record {
          sound = keeps.0;
          good = record {
            agree = seated.agree;
            waits = seated.waits;
            armed = served-armed state.peers.armed seats out steady.good.armed served;
            apart = apart-at state.peers.acting server (λ stance. Out) other seats steady.good.apart;
            names = subst (AreNames size) (sym same) steady.good.names;
            acts = ap (is_named state.peers.acting) same ∙ steady.good.acts;
          };
        },
        keeps.1,
      )

  active-keeps : (server : Server) (standby : Bool) (state : State Peers) → IsSteady plain (IsGroup size) state → Keeps state (crash_active device server standby state)
  active-keeps server true state steady = over-keeps state steady
  active-keeps server false state steady = refused-keeps state (line.Crash server) steady

  other-keeps : (server : Server) (served : Bool) (stance : Stance) (state : State Peers) → same_server server state.peers.acting ≡ false → is_served state.peers.armed (out_at server state.peers.seats) ≡ served → IsSteady plain (IsGroup size) state → Keeps state (crash_other server served stance state)
  other-keeps server served Out state other is steady = refused-keeps state (line.Crash server) steady
  other-keeps server true Owed state other is steady = down-keeps server state other is steady
  other-keeps server true (Linking sent) state other is steady = down-keeps server state other is steady
  other-keeps server true (Standby on_way mark keeps) state other is steady = down-keeps server state other is steady
  other-keeps server false Owed state other is steady = refused-keeps state (line.Crash server) steady
  other-keeps server false (Linking sent) state other is steady = refused-keeps state (line.Crash server) steady
  other-keeps server false (Standby on_way mark keeps) state other is steady = refused-keeps state (line.Crash server) steady

  pub crash-keeps : (server : Server) (active : Bool) (state : State Peers) → same_server server state.peers.acting ≡ active → IsSteady plain (IsGroup size) state → Keeps state (crash_by device server active state)
  crash-keeps server true state is steady = active-keeps server (any_seat is_standby state.peers.seats) state steady
  crash-keeps server false state is steady =
      other-keeps server (is_served state.peers.armed (out_at server state.peers.seats)) (stance_of server state.peers.seats) state is refl steady

  pub arm-keeps : (server : Server) (count : ℕ) (can : Bool) (state : State Peers) → (same_server server state.peers.acting && any_seat is_standby state.peers.seats) ≡ can → 1 ≤ count → IsSteady plain (IsGroup size) state → Keeps state (arm_by server count can state)
  arm-keeps server count true state is some steady =
      let good = steady.good in
      (record { sound = steady.sound; good = record { agree = good.agree; waits = good.waits; armed = (some, both-right (same_server server state.peers.acting) (any_seat is_standby state.peers.seats) is); apart = good.apart; names = good.names; acts = good.acts } }, bears.same state.world)
    where
      both-right : (one other : Bool) → (one && other) ≡ true → other ≡ true
      both-right true other is = is
      both-right false other is = cc
  arm-keeps server count false state is some steady = refused-keeps state (line.Arm server count) steady

  pub disarm-keeps : (state : State Peers) → IsSteady plain (IsGroup size) state → Keeps state (disarm state)
  disarm-keeps state steady =
      let good = steady.good in
      (record { sound = steady.sound; good = record { agree = good.agree; waits = good.waits; armed = tt; apart = good.apart; names = good.names; acts = good.acts } }, bears.same state.world)

  back-armed : (armed : Option ℕ) (server : Server) (hand : Hand) (seats : List Seat) → IsArmed armed seats → IsArmed armed (set_at server (back_by hand) seats)
  back-armed None server hand seats is = tt
  back-armed (Some left) server hand seats is = (is.0, any-at is_standby server (back_by hand) (back-standby hand) seats ∙ is.1)

  joined-keeps : (server : Server) (state : State Peers) → same_server server state.peers.acting ≡ false → IsSteady plain (IsGroup size) state → IsSteady plain (IsGroup size) (joined server state)
  joined-keeps server state other steady =
      let hand = state.world.core.hand in
      let seats = state.peers.seats in
      let same : names_of (set_at server (back_by hand) seats) ≡ names_of seats = names-at server (back_by hand) seats in
      record {
        sound = steady.sound;
        good = record {
          agree = all-at (Agree hand) (Agree hand) server (back_by hand) (back-agrees hand) (λ stance agree. agree) seats steady.good.agree;
          waits = back-waits hand server seats steady.good.waits;
          armed = back-armed state.peers.armed server hand seats steady.good.armed;
          apart = apart-at state.peers.acting server (back_by hand) other seats steady.good.apart;
          names = subst (AreNames size) (sym same) steady.good.names;
          acts = ap (is_named state.peers.acting) same ∙ steady.good.acts;
        };
      }

  pub restart-keeps : (server : Server) (back : Bool) (state : State Peers) → can_join server state.peers ≡ back → IsSteady plain (IsGroup size) state → Keeps state (restart_by server back state)
  restart-keeps server true state is steady =
      (joined-keeps server state (is-other (same_server server state.peers.acting) (is_out_at server state.peers.seats) is) steady, bears.stood state.world server role.Joining)
    where
      is-other : (same out : Bool) → (not same && out) ≡ true → same ≡ false
      is-other true out is = cc
      is-other false out is = refl
  restart-keeps server false state is steady = refused-keeps state (line.Restart server) steady

  -- A message to one server, or from it.

  pub at-steps : (server : Server) → StepLeaves size plain is_plain device R bears (mirror_at server)
  at-steps server state good =
      let past = state.world.core.answered in
      let hand = state.world.core.hand in
      let turn = only server (mirrored past) in
      step-leaves size plain is_plain device R bears state turn (only-turns hand server (mirrored past) (mirrored-turns past hand)) good (first_turn turn state.peers.seats) refl

  pub back-steps : (server : Server) → StepLeaves size plain is_plain device R bears (ack_at server)
  back-steps server state good =
      let hand = state.world.core.hand in
      let turn = only server confirmed in
      step-leaves size plain is_plain device R bears state turn (only-turns hand server confirmed (confirmed-turns hand)) good (first_turn turn state.peers.seats) refl

  -- **a line on failing servers keeps the facts and the relation, and so does any other that does**
  pub failures-keep : (shelf : Shelf) → ((next : Line) (state : State Peers) (outcome : Outcome (State Peers)) → IsSteady plain (IsGroup size) state → Happens plain shelf (group plain device) next state outcome → Keeps state outcome) → (next : Line) (state : State Peers) (outcome : Outcome (State Peers)) → IsSteady plain (IsGroup size) state → GroupHappens plain shelf device next state outcome → Keeps state outcome
  failures-keep shelf others (line.Crash server) state outcome steady happens =
      subst (Keeps state) (sym happens) (crash-keeps server (same_server server state.peers.acting) state refl steady)
  failures-keep shelf others (line.Arm server count) state outcome steady happens =
      subst (Keeps state) (sym happens.1) (arm-keeps server count (same_server server state.peers.acting && any_seat is_standby state.peers.seats) state refl happens.0 steady)
  failures-keep shelf others line.Disarm state outcome steady happens =
      subst (Keeps state) (sym happens) (disarm-keeps state steady)
  failures-keep shelf others (line.Restart server) state outcome steady happens =
      subst (Keeps state) (sym happens) (restart-keeps server (can_join server state.peers) state refl steady)
  failures-keep shelf others next state outcome steady happens = others next state outcome steady happens
