-- Where no disk is armed only `crash` takes the server down, and `settle` comes to its end.
use Rattle.std.proofs.Common.{◌≡◌, ℕ, inl, inr, Bool, true, false, ◌||◌, Option, Some, None, option_map, List, [], refl, ap, sym, subst}
use Rattle.disk_model.specs.Counts.{lowered}
use Rattle.script_lines.specs.declared.line.Line.{Line}
use Rattle.script_lines.specs.declared.line.Line.TheVariants as line
use Rattle.script_lines.specs.declared.line.Server.TheVariants.{A, B, C}
use Rattle.cluster_facts.specs.Types.{Entry}
use Rattle.cluster_facts.specs.History.{Hand, Empty, Waiting, Applied, Ready}
use Rattle.cluster_facts.specs.Lists.{without}
use Rattle.cluster_facts.specs.Service.{Plain, IsPlain}
use Rattle.cluster_events.specs.Lines.{is_ignored}
use Rattle.cluster_events.specs.Outcomes.{Outcome}
use Rattle.cluster_events.specs.Devices.{Device}
use Rattle.cluster_events.specs.Events.{mirror_next, work_next}
use Rattle.cluster_events.specs.Measure.{Spends}
use Rattle.cluster_events.specs.Running.{Shelf, Happens}
use Rattle.cluster_events.specs.Saying.{Says}
use Rattle.cluster_events.specs.Servers.{State}
use Rattle.cluster_events.specs.Settling.{Settles}
use Rattle.cluster_events.specs.Serving.{IsServing, IsCarried, IsSteady, AreStepped}
use Rattle.cluster_events.proofs.Ending as ending
use Rattle.cluster_events.proofs.Promised.{happens-kept}
use Rattle.group_cluster.specs.Seats.{Peers}
use Rattle.group_cluster.specs.Group.{mirror_group, ack_group, work_group}
use Rattle.cluster_events.specs.Ending.{is_crash}
use Rattle.group_cluster.proofs.Also.{IsLasting, Both, serving-also, carried-also, stepped-also}
use Rattle.group_cluster.proofs.Ends.{settle-tells}
use Rattle.group_cluster.proofs.Saying.{group-says, group-spends, says-borne}
use Rattle.group_cluster.proofs.Serving.{group-stepped}
use Rattle.cold_cluster.specs.Cold.{Alone, IsCold, alone_by, calm, calls_in, paired}
use Rattle.cold_cluster.specs.Standing.{standing_cold}
use Rattle.cold_cluster.specs.Lines.{HaltsStep, HappensBy, HappensUp, IsLeft, SettleStops, alone, or_fall, stops_append, stops_work}
use Rattle.cold_cluster.specs.Promises.{ColdStaysUp, ColdSettleEnds}
use Rattle.cold_cluster.proofs.Doing.{cold-carries, cold-serves, cold-stepped}

-- the server is up, and no disk is armed
abbrev IsCalm : Alone → Type 0
IsCalm peers = (peers.up ≡ true) × (peers.armed ≡ None) × (peers.beside ≡ None)

abbrev CalmIn : Option (Outcome (State Alone)) → Type 0
CalmIn None = Unit {0}
CalmIn (Some outcome) = IsCalm outcome.state.peers

mapped-calm : (step : Option (Outcome (State Peers))) (up : Bool) (armed beside : Option ℕ) → up ≡ true → armed ≡ None → beside ≡ None → CalmIn (option_map (alone_by up armed beside) step)
mapped-calm None up armed beside is none other = tt
mapped-calm (Some outcome) up armed beside is none other = (is, none, other)

stops-append : (hand : Hand) (beside : Option ℕ) → beside ≡ None → stops_append hand beside ≡ false
stops-append Empty beside none = refl
stops-append (Waiting entry) None none = refl
stops-append (Waiting entry) (Some left) none = cc
stops-append (Applied entry) beside none = refl
stops-append (Ready entry) beside none = refl

stops-work : (device : Device) (past : List Entry) (hand : Hand) (armed : Option ℕ) → armed ≡ None → stops_work device past hand armed ≡ false
stops-work device past Empty armed none = refl
stops-work device past (Waiting entry) armed none = refl
stops-work device past (Applied entry) armed none = refl
stops-work device past (Ready entry) None none = refl
stops-work device past (Ready entry) (Some left) none = cc

left-none : (armed : Option ℕ) → armed ≡ None → IsLeft armed
left-none None none = tt
left-none (Some left) none = cc

pub nothing_shown : Shelf
nothing_shown = record { listing = λ past. []; text = λ name past. None }

module _ (plain : Plain) (is_plain : IsPlain plain) (device : Device) where
  lasts-calm : IsLasting (alone plain device) IsCalm
  lasts-calm = record {
    accept = λ entry state calm. calm;
    mirror = λ state outcome is calm.
        subst CalmIn is (mapped-calm (mirror_group (paired state)) state.peers.up state.peers.armed (lowered 4 state.peers.beside) calm.0 calm.1 (ap (lowered 4) calm.2));
    ack = λ state outcome is calm.
        subst CalmIn is (mapped-calm (ack_group (paired state)) state.peers.up state.peers.armed state.peers.beside calm.0 calm.1 calm.2);
    work = λ state outcome is quiet.
        let calls = calls_in device state.world.core.answered state.world.core.hand in
        subst CalmIn is (mapped-calm (work_group plain (calm device) (paired state)) state.peers.up (lowered calls state.peers.armed) state.peers.beside quiet.0 (ap (lowered calls) quiet.1) quiet.2);
  }

  abbrev Good : State Alone → Type 0
  Good = Both plain (alone plain device) IsCold IsCalm lasts-calm

  serving : IsServing plain (alone plain device) Good
  serving = serving-also plain (alone plain device) IsCold IsCalm lasts-calm (cold-serves standing_cold plain is_plain device)

  carried : IsCarried plain (alone plain device) Good (Says plain)
  carried = carried-also plain (alone plain device) IsCold IsCalm lasts-calm (Says plain) (cold-carries standing_cold plain is_plain device (Says plain) (group-says 2 plain (calm device) is_plain))

  stepped : AreStepped plain (alone plain device) Good (Says plain)
  stepped = stepped-also plain (alone plain device) IsCold IsCalm lasts-calm (Says plain) (cold-stepped standing_cold plain is_plain device (Says plain) (group-stepped 2 plain is_plain (calm device) (Says plain) (says-borne plain)))

  with-calm : (state : State Alone) → IsSteady plain IsCold state → IsCalm state.peers → IsSteady plain Good state
  with-calm state steady calm = record { sound = steady.sound; good = (steady.good, calm) }

  abbrev IsUp : Outcome (State Alone) → Type 0
  IsUp outcome = outcome.state.peers.up ≡ true

  done-up : (stops : Bool) (outcome : Outcome (State Alone)) (state : State Alone) → stops ≡ false → IsUp outcome → IsUp (or_fall stops outcome state)
  done-up true outcome state none up = cc
  done-up false outcome state none up = up

  never-halts : (state : State Alone) → IsCalm state.peers → (end : Outcome (State Alone)) → HaltsStep device state end → ⊥
  never-halts state calm end halts =
      let append = stops-append state.world.core.hand state.peers.beside calm.2 in
      let work = stops-work device state.world.core.answered state.world.core.hand state.peers.armed calm.1 in
      not-both _ _ append work halts.stops
    where
      not-both : (one other : Bool) → one ≡ false → other ≡ false → (one || other) ≡ true → ⊥
      not-both true other first second either = cc
      not-both false true first second either = cc
      not-both false false first second either = cc

  module _ (shelf : Shelf) where
    others : (next : Line) (state : State Alone) (outcome : Outcome (State Alone)) → IsSteady plain IsCold state → IsCalm state.peers → Happens plain shelf (alone plain device) next state outcome → IsCalm outcome.state.peers
    others next state outcome steady calm happens =
        (happens-kept plain is_plain shelf (alone plain device) Good serving carried stepped next state outcome (with-calm state steady calm) happens).0.good.1

    settle-up : (state : State Alone) (outcome : Outcome (State Alone)) → IsSteady plain IsCold state → IsCalm state.peers → SettleStops plain device (HaltsStep device) state outcome → IsUp outcome
    settle-up state outcome steady calm stops =
        let whole = settle-tells plain is_plain (alone plain device) Good serving (Says plain) carried stepped (λ now. Unit {0}) (HaltsStep device)
        (λ now last holds ended. absurd (never-halts now holds.good.1 last ended)) state stops.whole (with-calm state steady calm) stops.ends in
        subst IsUp (sym stops.is) whole.0.0.good.1.0

    up-stays : (next : Line) (state : State Alone) (outcome : Outcome (State Alone)) → IsSteady plain IsCold state → is_crash next ≡ false → IsCalm state.peers → HappensUp plain shelf device next state outcome → IsUp outcome
    up-stays line.Mirror state outcome steady not_crash calm happens =
        subst IsUp (sym happens) (done-up (stops_append state.world.core.hand state.peers.beside) (mirror_next (alone plain device) state) state (stops-append state.world.core.hand state.peers.beside calm.2) (others line.Mirror state (mirror_next (alone plain device) state) steady calm refl).0)
    up-stays line.Work state outcome steady not_crash calm happens =
        subst IsUp (sym happens) (done-up (stops_work device state.world.core.answered state.world.core.hand state.peers.armed) (work_next (alone plain device) state) state (stops-work device state.world.core.answered state.world.core.hand state.peers.armed calm.1) (others line.Work state (work_next (alone plain device) state) steady calm refl).0)
    up-stays line.Settle state outcome steady not_crash calm (inl happens) = (others line.Settle state outcome steady calm happens.0).0
    up-stays line.Settle state outcome steady not_crash calm (inr stops) = settle-up state outcome steady calm stops
    up-stays (line.Crash A) state outcome steady not_crash calm happens = cc
    up-stays (line.Crash B) state outcome steady not_crash calm happens = cc
    up-stays (line.Crash C) state outcome steady not_crash calm happens = cc
    up-stays (line.Arm A count) state outcome steady not_crash calm happens = subst IsUp (sym happens.1) calm.0
    up-stays (line.Arm B count) state outcome steady not_crash calm happens = subst IsUp (sym happens.1) calm.0
    up-stays (line.Arm C count) state outcome steady not_crash calm happens = subst IsUp (sym happens.1) calm.0
    up-stays line.Disarm state outcome steady not_crash calm happens = subst IsUp (sym happens) calm.0
    up-stays (line.Restart server) state outcome steady not_crash calm happens = subst IsUp (sym happens) calm.0
    up-stays next state outcome steady not_crash calm happens = (others next state outcome steady calm happens).0

pub stays-up : ColdStaysUp
stays-up plain is_plain shelf device next state outcome steady not_crash up armed beside happens =
    up-stays plain is_plain device shelf next state outcome steady not_crash (up, armed, beside) (subst (λ b. HappensBy b plain shelf device next state outcome) up happens)

pub settle-ends : ColdSettleEnds
settle-ends plain is_plain device state steady up armed beside =
    let spends = carried-also plain (alone plain device) IsCold IsCalm (lasts-calm plain is_plain device) Spends (cold-carries standing_cold plain is_plain device Spends (group-spends 2 plain (calm device) is_plain)) in
    let ends = ending.settle-ends plain is_plain (alone plain device) (Good plain is_plain device) (serving plain is_plain device) spends state (with-calm plain is_plain device state steady (up, armed, beside)) in
    let outcome : Outcome (State Alone) = record { state = ends.state; told = without is_ignored ends.told } in
    let settles : Settles plain (alone plain device) state outcome.state outcome.told = record { lines = ends.told; rounds = ends.rounds; printed = refl } in
    let calm_so = others plain is_plain device nothing_shown line.Settle state outcome steady (up, armed, beside) settles in
    record { outcome = outcome; settles = (settles, (left-none outcome.state.peers.armed calm_so.1, left-none outcome.state.peers.beside calm_so.2)) }
