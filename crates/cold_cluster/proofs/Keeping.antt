-- Every line keeps the facts of the server and its journal, and says what happened; and so does the end of a run by a fault.
use Rattle.std.proofs.Common.{◌≡◌, ℕ, inl, inr, Bool, true, false, Option, Some, None, List, [], ◌∷◌, refl, ap, sym, subst}
use Rattle.script_lines.specs.declared.line.Line.{Line}
use Rattle.script_lines.specs.declared.line.Line.TheVariants as line
use Rattle.script_lines.specs.declared.line.Server.TheVariants.{A, B, C}
use Rattle.script_language.specs.Printing.{line_text}
use Rattle.cluster_facts.specs.Types.{Message, Answer, Delivery}
use Rattle.cluster_facts.specs.Agents.{resent}
use Rattle.cluster_facts.specs.Messages.{Posting, Spelled, Raw}
use Rattle.cluster_facts.specs.Service.{Plain, IsPlain}
use Rattle.cluster_facts.specs.World.{posting_at, number_of}
use Rattle.cluster_events.specs.Lines.{Ignored}
use Rattle.cluster_events.specs.declared.lines.Why.{Why}
use Rattle.cluster_events.specs.declared.lines.Why.TheVariants.{ServerDown}
use Rattle.cluster_events.specs.Outcomes.{Outcome, telling, for_each}
use Rattle.cluster_events.specs.Devices.{Device}
use Rattle.cluster_events.specs.Ending.{EndAt}
use Rattle.cluster_events.specs.Events.{deliver_by, mirror_next, work_next, refuse}
use Rattle.cluster_events.specs.Running.{Shelf, Happens}
use Rattle.cluster_events.specs.Saying.{Says}
use Rattle.cluster_events.specs.Servers.{State}
use Rattle.cluster_events.specs.Serving.{IsCarried, IsSteady, AreStepped}
use Rattle.cluster_events.proofs.Promised.{Says-printed, happens-kept}
use Rattle.group_cluster.proofs.Ends.{settle-tells}
use Rattle.group_cluster.proofs.Saying.{group-says, says-borne}
use Rattle.group_cluster.proofs.Serving.{group-stepped}
use Rattle.cold_cluster.specs.Cold.{Alone, IsCold, calm}
use Rattle.cold_cluster.specs.Falling.{armed_alone, fallen}
use Rattle.cold_cluster.specs.Standing.{standing_cold}
use Rattle.cold_cluster.specs.Laws.{Keeps}
use Rattle.cold_cluster.specs.Lines.{ColdHappens, HaltsStep, HappensBy, HappensDown, HappensUp, SettleStops, alone, deliver_down_by, or_fall, stops_append, stops_work}
use Rattle.cold_cluster.specs.Ended.{ColdEnds, EndsBy, FailsStep}
use Rattle.cold_cluster.proofs.Coming.{arms-keep, fall-keeps, restart-keeps}
use Rattle.cold_cluster.proofs.Doing.{cold-carries, cold-serves, cold-stepped}

module _ (plain : Plain) (is_plain : IsPlain plain) where
  abbrev carried : (device : Device) → IsCarried plain (alone plain device) IsCold (Says plain)
  carried device = cold-carries standing_cold plain is_plain device (Says plain) (group-says 2 plain (calm device) is_plain)

  abbrev stepped : (device : Device) → AreStepped plain (alone plain device) IsCold (Says plain)
  stepped device = cold-stepped standing_cold plain is_plain device (Says plain) (group-stepped 2 plain is_plain (calm device) (Says plain) (says-borne plain))

  pub falls : (state : State Alone) → IsSteady plain IsCold state → Keeps plain state (fallen state)
  falls state steady = fall-keeps plain is_plain (Says plain) (says-borne plain) state steady

  arms : (armed beside : Option ℕ) (state : State Alone) → IsSteady plain IsCold state → Keeps plain state (armed_alone armed beside state)
  arms armed beside state steady = arms-keep plain is_plain (Says plain) (says-borne plain) armed beside state steady

  refuses : (device : Device) (next : Line) (state : State Alone) → IsSteady plain IsCold state → Keeps plain state (refuse (alone plain device) next state)
  refuses device next state steady = (steady, (says-borne plain).refused state.world (line_text next) (standing_cold state))

  ignores : (place : ℕ) (why : Why) (state : State Alone) → IsSteady plain IsCold state → Keeps plain state (telling state (Ignored place why))
  ignores place why state steady = (steady, (carried (record { calls = λ past entry. 0; fails = λ number. 0 })).ignored state.world place why)

  -- a step in which a disk stops, or one that is done
  falls-or : (stops : Bool) (outcome : Outcome (State Alone)) (state : State Alone) → IsSteady plain IsCold state → Keeps plain state outcome → Keeps plain state (or_fall stops outcome state)
  falls-or true outcome state steady keeps = falls state steady
  falls-or false outcome state steady keeps = keeps

  module _ (shelf : Shelf) (device : Device) where
    others : (next : Line) (state : State Alone) (outcome : Outcome (State Alone)) → IsSteady plain IsCold state → Happens plain shelf (alone plain device) next state outcome → Keeps plain state outcome
    others next state outcome steady happens =
        happens-kept plain is_plain shelf (alone plain device) IsCold (cold-serves standing_cold plain is_plain device) (carried device) (stepped device) next state outcome steady happens

    -- `settle` that ends in a step
    pub settle-stops : (EndsStep : EndAt Alone) → ((now : State Alone) (last : Outcome (State Alone)) → EndsStep now last → last ≡ fallen now) → (state : State Alone) (outcome : Outcome (State Alone)) → IsSteady plain IsCold state → SettleStops plain device EndsStep state outcome → Keeps plain state outcome
    settle-stops EndsStep falls_so state outcome steady stops =
        let whole = settle-tells plain is_plain (alone plain device) IsCold (cold-serves standing_cold plain is_plain device) (Says plain) (carried device) (stepped device)
        (λ now. Unit {0}) EndsStep (λ now last holds ended. (subst (Keeps plain now) (sym (falls_so now last ended)) (falls now holds), tt)) state stops.whole steady stops.ends in
        subst (Keeps plain state) (sym stops.is) (whole.0.0, Says-printed plain state.world stops.whole.state.world stops.whole.told whole.0.1)

    up-keeps : (next : Line) (state : State Alone) (outcome : Outcome (State Alone)) → IsSteady plain IsCold state → HappensUp plain shelf device next state outcome → Keeps plain state outcome
    up-keeps line.Mirror state outcome steady happens =
        subst (Keeps plain state) (sym happens) (falls-or (stops_append state.world.core.hand state.peers.beside) (mirror_next (alone plain device) state) state steady (others line.Mirror state (mirror_next (alone plain device) state) steady refl))
    up-keeps line.Work state outcome steady happens =
        subst (Keeps plain state) (sym happens) (falls-or (stops_work device state.world.core.answered state.world.core.hand state.peers.armed) (work_next (alone plain device) state) state steady (others line.Work state (work_next (alone plain device) state) steady refl))
    up-keeps line.Settle state outcome steady (inl happens) = others line.Settle state outcome steady happens.0
    up-keeps line.Settle state outcome steady (inr stops) = settle-stops (HaltsStep device) (λ now last ended. ended.is) state outcome steady stops
    up-keeps (line.Crash A) state outcome steady happens = subst (Keeps plain state) (sym happens) (falls state steady)
    up-keeps (line.Crash B) state outcome steady happens = subst (Keeps plain state) (sym happens) (refuses device (line.Crash B) state steady)
    up-keeps (line.Crash C) state outcome steady happens = subst (Keeps plain state) (sym happens) (refuses device (line.Crash C) state steady)
    up-keeps (line.Arm A count) state outcome steady happens = subst (Keeps plain state) (sym happens.1) (arms (Some count) state.peers.beside state steady)
    up-keeps (line.Arm B count) state outcome steady happens = subst (Keeps plain state) (sym happens.1) (arms state.peers.armed (Some count) state steady)
    up-keeps (line.Arm C count) state outcome steady happens = subst (Keeps plain state) (sym happens.1) (refuses device (line.Arm C count) state steady)
    up-keeps line.Disarm state outcome steady happens = subst (Keeps plain state) (sym happens) (arms None None state steady)
    up-keeps (line.Restart server) state outcome steady happens = subst (Keeps plain state) (sym happens) (refuses device (line.Restart server) state steady)
    up-keeps next state outcome steady happens = others next state outcome steady happens

    deliver-keeps : (place : ℕ) (found : Option Posting) (state : State Alone) → posting_at place state.world.net ≡ found → IsSteady plain IsCold state → Keeps plain state (deliver_down_by plain device place found state)
    deliver-keeps place found state is steady =
        by-found found (others (line.Deliver place) state (deliver_by plain (alone plain device) place found state) steady (ap (λ f. deliver_by plain (alone plain device) place f state) (sym is)))
      where
        by-found : (found : Option Posting) → Keeps plain state (deliver_by plain (alone plain device) place found state) → Keeps plain state (deliver_down_by plain device place found state)
        by-found None up = up
        by-found (Some (Spelled (Answer client number reply))) up = up
        by-found (Some (Spelled (Delivery client key item))) up = up
        by-found (Some (Spelled message)) up = ignores place ServerDown state steady
        by-found (Some (Raw bytes front why)) up = up

    each-ignored : (messages : List Message) (state : State Alone) → IsSteady plain IsCold state → Keeps plain state (for_each (λ message now. telling now (Ignored (number_of plain message now.world.net) ServerDown)) messages state)
    each-ignored [] state steady = (steady, (carried device).same state.world)
    each-ignored (message ∷ messages) state steady =
        let first = ignores (number_of plain message state.world.net) ServerDown state steady in
        let rest = each-ignored messages state steady in
        let last = for_each (λ message now. telling now (Ignored (number_of plain message now.world.net) ServerDown)) messages state in
        (rest.0, (carried device).both state.world state.world last.state.world (Ignored (number_of plain message state.world.net) ServerDown ∷ []) last.told first.1 rest.1)

    down-keeps : (next : Line) (state : State Alone) (outcome : Outcome (State Alone)) → IsSteady plain IsCold state → HappensDown plain shelf device next state outcome → Keeps plain state outcome
    down-keeps (line.Deliver place) state outcome steady happens = subst (Keeps plain state) (sym happens) (deliver-keeps place (posting_at place state.world.net) state refl steady)
    down-keeps (line.Resend client) state outcome steady happens = subst (Keeps plain state) (sym happens) (each-ignored (resent client (state.world.agents client)) state steady)
    down-keeps line.Mirror state outcome steady happens = subst (Keeps plain state) (sym happens) (refuses device line.Mirror state steady)
    down-keeps line.Ack state outcome steady happens = subst (Keeps plain state) (sym happens) (refuses device line.Ack state steady)
    down-keeps line.Work state outcome steady happens = subst (Keeps plain state) (sym happens) (refuses device line.Work state steady)
    down-keeps line.Push state outcome steady happens = subst (Keeps plain state) (sym happens) (refuses device line.Push state steady)
    down-keeps line.Settle state outcome steady happens = subst (Keeps plain state) (sym happens) (refuses device line.Settle state steady)
    down-keeps (line.Crash server) state outcome steady happens = subst (Keeps plain state) (sym happens) (refuses device (line.Crash server) state steady)
    down-keeps (line.Arm server count) state outcome steady happens = subst (Keeps plain state) (sym happens) (refuses device (line.Arm server count) state steady)
    down-keeps line.Disarm state outcome steady happens = subst (Keeps plain state) (sym happens) (arms None None state steady)
    down-keeps (line.Restart A) state outcome steady happens = restart-keeps plain is_plain (Says plain) (says-borne plain) state outcome steady happens
    down-keeps (line.Restart B) state outcome steady happens = subst (Keeps plain state) (sym happens) (refuses device (line.Restart B) state steady)
    down-keeps (line.Restart C) state outcome steady happens = subst (Keeps plain state) (sym happens) (refuses device (line.Restart C) state steady)
    down-keeps next state outcome steady happens = others next state outcome steady happens

    by-keeps : (up : Bool) (next : Line) (state : State Alone) (outcome : Outcome (State Alone)) → IsSteady plain IsCold state → HappensBy up plain shelf device next state outcome → Keeps plain state outcome
    by-keeps true next state outcome steady happens = up-keeps next state outcome steady happens
    by-keeps false next state outcome steady happens = down-keeps next state outcome steady happens

    -- **every line keeps the facts, and says what it must**
    pub line-keeps : (next : Line) (state : State Alone) (outcome : Outcome (State Alone)) → IsSteady plain IsCold state → ColdHappens plain shelf device next state outcome → Keeps plain state outcome
    line-keeps next state outcome steady happens = by-keeps state.peers.up next state outcome steady happens

    -- **and so does the end by a fault**
    ends-keep : (up : Bool) (next : Line) (state : State Alone) (end : Outcome (State Alone)) → IsSteady plain IsCold state → EndsBy up plain device next state end → Keeps plain state end
    ends-keep true line.Mirror state end steady ends = subst (Keeps plain state) (sym ends.1) (falls state steady)
    ends-keep true line.Work state end steady ends = subst (Keeps plain state) (sym ends.1) (falls state steady)
    ends-keep true line.Settle state end steady ends = settle-stops (FailsStep device) (λ now last ended. ended.is) state end steady ends
    ends-keep false (line.Restart A) state end steady ends = subst (Keeps plain state) (sym ends) (steady, (carried device).same state.world)
    ends-keep _ next state end steady ends = elim ends [ ]

    pub end-keeps : (next : Line) (state : State Alone) (end : Outcome (State Alone)) → IsSteady plain IsCold state → ColdEnds plain device next state end → Keeps plain state end
    end-keeps next state end steady ends = ends-keep state.peers.up next state end steady ends
