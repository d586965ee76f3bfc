-- A relation of worlds and lines that is kept by each kind of line, and by what servers make of history and hand, is kept by every line that
-- is played on one server and its journal.
use Rattle.std.proofs.Common.{◌≡◌, ℕ, inl, inr, Bool, true, false, Option, Some, None, List, [], ◌∷◌, refl, ap, sym, subst}
use Rattle.script_lines.specs.declared.line.Line.{Line}
use Rattle.script_lines.specs.declared.line.Line.TheVariants as line
use Rattle.script_lines.specs.declared.line.Server.TheVariants.{A, B, C}
use Rattle.script_language.specs.Printing.{line_text}
use Rattle.cluster_facts.specs.Types.{Message, Answer, Delivery}
use Rattle.cluster_facts.specs.Agents.{resent}
use Rattle.cluster_facts.specs.Messages.{Posting, Spelled, Raw}
use Rattle.cluster_facts.specs.Service.{Plain, IsPlain}
use Rattle.cluster_facts.specs.World.{posting_at, number_of}
use Rattle.cluster_events.specs.Cores.{IsCored}
use Rattle.cluster_events.specs.Devices.{Device}
use Rattle.cluster_events.specs.Events.{deliver_by, mirror_next, work_next, refuse}
use Rattle.cluster_events.specs.Lines.{Ignored}
use Rattle.cluster_events.specs.declared.lines.Why.{Why}
use Rattle.cluster_events.specs.declared.lines.Why.TheVariants.{ServerDown}
use Rattle.cluster_events.specs.Outcomes.{Outcome, telling, for_each}
use Rattle.cluster_events.specs.Running.{Shelf, Happens}
use Rattle.cluster_events.specs.Servers.{State}
use Rattle.cluster_events.specs.Serving.{AreStepped, IsCarried, IsSteady}
use Rattle.cluster_events.proofs.Carrying.{IsTold}
use Rattle.cluster_events.proofs.Walking.{ByKind, IsByKind, Kind, Others, kind_of, line-walks}
use Rattle.group_cluster.proofs.Ends.{settle-tells}
use Rattle.group_cluster.proofs.Serving.{group-carries, group-stepped}
use Rattle.group_cluster.proofs.Stepping.{Bears}
use Rattle.group_cluster.proofs.Walking.{told-bears}
use Rattle.cold_cluster.specs.Cold.{Alone, IsCold, calm}
use Rattle.cold_cluster.specs.Falling.{armed_alone, fallen}
use Rattle.cold_cluster.specs.Standing.{standing_cold}
use Rattle.cold_cluster.specs.Lines.{ColdHappens, HaltsStep, HappensBy, HappensDown, HappensUp, SettleStops, alone, deliver_down_by, or_fall, stops_append, stops_work}
use Rattle.cold_cluster.proofs.Coming.{arms-keep, fall-keeps, restart-keeps}
use Rattle.cold_cluster.proofs.Doing.{cold-carries, cold-serves, cold-stepped}

module _ (plain : Plain) (is_plain : IsPlain plain) (shelf : Shelf) (device : Device) (R : ByKind) (told : IsTold plain (R Others)) (cored : IsCored (R Others)) (by_kind : IsByKind plain R) where
  abbrev Walks : Kind → State Alone → Outcome (State Alone) → Type 0
  Walks kind state outcome = IsSteady plain IsCold outcome.state × R kind state.world outcome.state.world outcome.told

  bears : Bears plain (R Others)
  bears = told-bears plain (R Others) told by_kind.shows cored

  carried : IsCarried plain (alone plain device) IsCold (R Others)
  carried = cold-carries standing_cold plain is_plain device (R Others) (group-carries 2 plain is_plain (calm device) (R Others) bears told)

  stepped : AreStepped plain (alone plain device) IsCold (R Others)
  stepped = cold-stepped standing_cold plain is_plain device (R Others) (group-stepped 2 plain is_plain (calm device) (R Others) bears)

  others : (next : Line) (state : State Alone) (outcome : Outcome (State Alone)) → IsSteady plain IsCold state → Happens plain shelf (alone plain device) next state outcome → Walks (kind_of next) state outcome
  others next state outcome steady happens =
      line-walks plain is_plain shelf (alone plain device) IsCold (cold-serves standing_cold plain is_plain device) R carried stepped by_kind next state outcome steady happens

  falls : (state : State Alone) → IsSteady plain IsCold state → Walks Others state (fallen state)
  falls state steady = fall-keeps plain is_plain (R Others) bears state steady

  arms : (armed beside : Option ℕ) (state : State Alone) → IsSteady plain IsCold state → Walks Others state (armed_alone armed beside state)
  arms armed beside state steady = arms-keep plain is_plain (R Others) bears armed beside state steady

  refuses : (next : Line) (state : State Alone) → IsSteady plain IsCold state → Walks Others state (refuse (alone plain device) next state)
  refuses next state steady = (steady, bears.refused state.world (line_text next) (standing_cold state))

  ignores : (place : ℕ) (why : Why) (state : State Alone) → IsSteady plain IsCold state → Walks Others state (telling state (Ignored place why))
  ignores place why state steady = (steady, carried.ignored state.world place why)

  falls-or : (stops : Bool) (outcome : Outcome (State Alone)) (state : State Alone) → IsSteady plain IsCold state → Walks Others state outcome → Walks Others state (or_fall stops outcome state)
  falls-or true outcome state steady walks = falls state steady
  falls-or false outcome state steady walks = walks

  -- `settle` that ends in a step in which a disk stops
  settle-stops : (state : State Alone) (outcome : Outcome (State Alone)) → IsSteady plain IsCold state → SettleStops plain device (HaltsStep device) state outcome → Walks Others state outcome
  settle-stops state outcome steady stops =
      let whole = settle-tells plain is_plain (alone plain device) IsCold (cold-serves standing_cold plain is_plain device) (R Others) carried stepped
      (λ now. Unit {0}) (HaltsStep device) (λ now last holds ended. (subst (Walks Others now) (sym ended.is) (falls now holds), tt)) state stops.whole steady stops.ends in
      subst (Walks Others state) (sym stops.is) (whole.0.0, by_kind.printed state.world stops.whole.state.world stops.whole.told whole.0.1)

  up-walks : (next : Line) (state : State Alone) (outcome : Outcome (State Alone)) → IsSteady plain IsCold state → HappensUp plain shelf device next state outcome → Walks (kind_of next) state outcome
  up-walks line.Mirror state outcome steady happens =
      subst (Walks Others state) (sym happens) (falls-or (stops_append state.world.core.hand state.peers.beside) (mirror_next (alone plain device) state) state steady (others line.Mirror state (mirror_next (alone plain device) state) steady refl))
  up-walks line.Work state outcome steady happens =
      subst (Walks Others state) (sym happens) (falls-or (stops_work device state.world.core.answered state.world.core.hand state.peers.armed) (work_next (alone plain device) state) state steady (others line.Work state (work_next (alone plain device) state) steady refl))
  up-walks line.Settle state outcome steady (inl happens) = others line.Settle state outcome steady happens.0
  up-walks line.Settle state outcome steady (inr stops) = settle-stops state outcome steady stops
  up-walks (line.Crash A) state outcome steady happens = subst (Walks Others state) (sym happens) (falls state steady)
  up-walks (line.Crash B) state outcome steady happens = subst (Walks Others state) (sym happens) (refuses (line.Crash B) state steady)
  up-walks (line.Crash C) state outcome steady happens = subst (Walks Others state) (sym happens) (refuses (line.Crash C) state steady)
  up-walks (line.Arm A count) state outcome steady happens = subst (Walks Others state) (sym happens.1) (arms (Some count) state.peers.beside state steady)
  up-walks (line.Arm B count) state outcome steady happens = subst (Walks Others state) (sym happens.1) (arms state.peers.armed (Some count) state steady)
  up-walks (line.Arm C count) state outcome steady happens = subst (Walks Others state) (sym happens.1) (refuses (line.Arm C count) state steady)
  up-walks line.Disarm state outcome steady happens = subst (Walks Others state) (sym happens) (arms None None state steady)
  up-walks (line.Restart server) state outcome steady happens = subst (Walks Others state) (sym happens) (refuses (line.Restart server) state steady)
  up-walks next state outcome steady happens = others next state outcome steady happens

  -- what asks for an active server is refused, or has no effect
  deliver-walks : (place : ℕ) (found : Option Posting) (state : State Alone) → posting_at place state.world.net ≡ found → IsSteady plain IsCold state → Walks Others state (deliver_down_by plain device place found state)
  deliver-walks place found state is steady =
      by-found found (others (line.Deliver place) state (deliver_by plain (alone plain device) place found state) steady (ap (λ f. deliver_by plain (alone plain device) place f state) (sym is)))
    where
      by-found : (found : Option Posting) → Walks Others state (deliver_by plain (alone plain device) place found state) → Walks Others state (deliver_down_by plain device place found state)
      by-found None up = up
      by-found (Some (Spelled (Answer client number reply))) up = up
      by-found (Some (Spelled (Delivery client key item))) up = up
      by-found (Some (Spelled message)) up = ignores place ServerDown state steady
      by-found (Some (Raw bytes front why)) up = up

  each-ignored : (messages : List Message) (state : State Alone) → IsSteady plain IsCold state → Walks Others state (for_each (λ message now. telling now (Ignored (number_of plain message now.world.net) ServerDown)) messages state)
  each-ignored [] state steady = (steady, carried.same state.world)
  each-ignored (message ∷ messages) state steady =
      let first = ignores (number_of plain message state.world.net) ServerDown state steady in
      let rest = each-ignored messages state steady in
      let last = for_each (λ message now. telling now (Ignored (number_of plain message now.world.net) ServerDown)) messages state in
      (rest.0, carried.both state.world state.world last.state.world (Ignored (number_of plain message state.world.net) ServerDown ∷ []) last.told first.1 rest.1)

  down-walks : (next : Line) (state : State Alone) (outcome : Outcome (State Alone)) → IsSteady plain IsCold state → HappensDown plain shelf device next state outcome → Walks (kind_of next) state outcome
  down-walks (line.Deliver place) state outcome steady happens = subst (Walks Others state) (sym happens) (deliver-walks place (posting_at place state.world.net) state refl steady)
  down-walks (line.Resend client) state outcome steady happens = subst (Walks Others state) (sym happens) (each-ignored (resent client (state.world.agents client)) state steady)
  down-walks line.Mirror state outcome steady happens = subst (Walks Others state) (sym happens) (refuses line.Mirror state steady)
  down-walks line.Ack state outcome steady happens = subst (Walks Others state) (sym happens) (refuses line.Ack state steady)
  down-walks line.Work state outcome steady happens = subst (Walks Others state) (sym happens) (refuses line.Work state steady)
  down-walks line.Push state outcome steady happens = subst (Walks Others state) (sym happens) (refuses line.Push state steady)
  down-walks line.Settle state outcome steady happens = subst (Walks Others state) (sym happens) (refuses line.Settle state steady)
  down-walks (line.Crash server) state outcome steady happens = subst (Walks Others state) (sym happens) (refuses (line.Crash server) state steady)
  down-walks (line.Arm server count) state outcome steady happens = subst (Walks Others state) (sym happens) (refuses (line.Arm server count) state steady)
  down-walks line.Disarm state outcome steady happens = subst (Walks Others state) (sym happens) (arms None None state steady)
  down-walks (line.Restart A) state outcome steady happens = restart-keeps plain is_plain (R Others) bears state outcome steady happens
  down-walks (line.Restart B) state outcome steady happens = subst (Walks Others state) (sym happens) (refuses (line.Restart B) state steady)
  down-walks (line.Restart C) state outcome steady happens = subst (Walks Others state) (sym happens) (refuses (line.Restart C) state steady)
  down-walks next state outcome steady happens = others next state outcome steady happens

  by-walks : (up : Bool) (next : Line) (state : State Alone) (outcome : Outcome (State Alone)) → IsSteady plain IsCold state → HappensBy up plain shelf device next state outcome → Walks (kind_of next) state outcome
  by-walks true next state outcome steady happens = up-walks next state outcome steady happens
  by-walks false next state outcome steady happens = down-walks next state outcome steady happens

  -- **every line keeps the facts, and the relation of its kind**
  pub cold-walks : (next : Line) (state : State Alone) (outcome : Outcome (State Alone)) → IsSteady plain IsCold state → ColdHappens plain shelf device next state outcome → Walks (kind_of next) state outcome
  cold-walks next state outcome steady happens = by-walks state.peers.up next state outcome steady happens
