-- Events over devices, one after another, and the steps of a drain.
use Rattle.std.proofs.Common.{◌≡◌, ℕ, zero, suc, ◌+◌, ◌<◌, ◌≤◌, inl, inr, Bool, true, false, nat_le, if◌then◌else◌, Option, Some, None, refl, ap, sym, ◌∙◌, subst, arith, le_trans}
use Rattle.std.proofs.lemmas.Bool.Decides.{leb_tells}
use Rattle.ais_values.specs.Causes.{Rose}
use Rattle.cluster_facts.specs.Types.{Call, Called, Receipted, Message, Request, Receipt}
use Rattle.cluster_facts.specs.Service.{Plain, is_new}
use Rattle.cluster_facts.specs.History.{Hand, Empty, Judged, New, Repeat, Old, Ahead, judged_call}
use Rattle.cluster_events.specs.Outcomes.{Outcome, quietly, and_then, behind}
use Rattle.cluster_events.specs.Servers.{State, Servers, advance, after_step, advances}
use Rattle.cluster_events.specs.Events.{request_as, receipt_as, hear_at_rest, hear_by, hear, push_by, push}
use Rattle.cluster_events.specs.Devices.{EventBy, EndBy, answered_in, AgreesIn, ComesTo, EndsOver, spliced, IsCaused}
use Rattle.cluster_events.proofs.Looping.{and_then-nothing, and_then-assoc}

-- What happened in both of two events happened in each.

spliced-first : (middle number : ℕ) (one two : ℕ → ℕ) → number ≤ middle → spliced middle one two number ≡ one number
spliced-first middle number one two within = elim (leb_tells number middle) [
  | inl below ↦ ap (λ b. if b then one number else two number) below.0
  | inr not ↦ let above = not.1 in absurd (omega arith)
]

spliced-second : (middle number : ℕ) (one two : ℕ → ℕ) → middle < number → spliced middle one two number ≡ two number
spliced-second middle number one two above = elim (leb_tells number middle) [
  | inl below ↦ let within = below.1 in absurd (omega arith)
  | inr not ↦ ap (λ b. if b then one number else two number) not.0
]

pub agrees-first : (before middle after : ℕ) (one two fails : ℕ → ℕ) → middle ≤ after → AgreesIn before after (spliced middle one two) fails → AgreesIn before middle one fails
agrees-first before middle after one two fails less agrees number above within =
    agrees number above (omega arith) ∙ spliced-first middle number one two within

pub agrees-second : (before middle after : ℕ) (one two fails : ℕ → ℕ) → before ≤ middle → AgreesIn before after (spliced middle one two) fails → AgreesIn middle after two fails
agrees-second before middle after one two fails less agrees number above within =
    agrees number (omega arith) within ∙ spliced-second middle number one two above

-- Counts of faults.

pub rose-later : (before middle after : ℕ) → before ≤ middle → Rose middle after → Rose before after
rose-later before middle after less rose = omega arith

pub caused-both : (before middle after place : ℕ) (one two : ℕ → ℕ) → before ≤ middle → middle ≤ after → IsCaused before middle one → IsCaused middle after two → IsCaused before after (spliced place one two)
caused-both before middle after place one two first second early late never number =
    elim (nat_le number place) as (λ b. (if b then one number else two number) ≡ 0) [
      | true ↦ early (λ rose. never (le_trans rose second)) number
      | false ↦ late (λ rose. never (rose-later before middle after first rose)) number
    ]

module _ {P : Type 0} where
  -- one event after another
  abbrev pub after_by : EventBy P → EventBy P → EventBy P
  after_by first second fails state = and_then (first fails state) (second fails)

  -- an event that works nothing
  pub comes-alone : (event : State P → Outcome (State P)) (happened : ℕ → ℕ) (state : State P) → answered_in state ≤ answered_in (event state).state → ComesTo (λ fails. event) happened state (event state)
  comes-alone event happened state later = record { later = later; is = λ fails agrees. refl }

  pub comes-both : (first second : EventBy P) (one two : ℕ → ℕ) (state : State P) (middle last : Outcome (State P)) → ComesTo first one state middle → ComesTo second two middle.state last → ComesTo (after_by first second) (spliced (answered_in middle.state) one two) state (behind middle last)
  comes-both first second one two state middle last early late =
      let before = early.later in
      let after = late.later in
      record {
        later = omega arith;
        is = λ fails agrees.
            let same = early.is fails (agrees-first (answered_in state) (answered_in middle.state) (answered_in last.state) one two fails after agrees) in
            let next = late.is fails (agrees-second (answered_in state) (answered_in middle.state) (answered_in last.state) one two fails before agrees) in
            ap (λ (o : Outcome (State P)). and_then o (second fails)) same ∙ ap (λ (o : Outcome (State P)). behind middle o) next;
      }

  -- the same event, said in another way
  pub comes-as : (first second : EventBy P) (happened : ℕ → ℕ) (state : State P) (outcome : Outcome (State P)) → ((fails : ℕ → ℕ) → first fails state ≡ second fails state) → ComesTo first happened state outcome → ComesTo second happened state outcome
  comes-as first second happened state outcome same comes =
      record { later = comes.later; is = λ fails agrees. sym (same fails) ∙ comes.is fails agrees }

  -- what it comes to where what happened is known
  pub comes-once : (event : EventBy P) (happened : ℕ → ℕ) (state : State P) (outcome : Outcome (State P)) → ComesTo event happened state outcome → event happened state ≡ outcome
  comes-once event happened state outcome comes = comes.is happened (λ number above within. refl)

  -- what follows an event ends, and so both
  pub ends-behind : (first : EventBy P) (Inner Outer : EndBy P) (one two : ℕ → ℕ) (state : State P) (middle end : Outcome (State P)) → ((fails : ℕ → ℕ) (stop : Outcome (State P)) → Inner fails (first fails state).state stop → Outer fails state (behind (first fails state) stop)) → ComesTo first one state middle → EndsOver Inner two middle.state end → EndsOver Outer (spliced (answered_in middle.state) one two) state (behind middle end)
  ends-behind first Inner Outer one two state middle end stops early late =
      let before = early.later in
      let after = late.later in
      let last = suc (answered_in end.state) in
      record {
        later = omega arith;
        is = λ fails agrees.
            let same = early.is fails (agrees-first (answered_in state) (answered_in middle.state) last one two fails (omega arith) agrees) in
            let inner = late.is fails (agrees-second (answered_in state) (answered_in middle.state) last one two fails before agrees) in
            let I : Outcome (State P) → Type 0 = λ o. Inner fails o.state end in
            let O : Outcome (State P) → Type 0 = λ o. Outer fails state (behind o end) in
            subst O same (stops fails end (subst I (sym same) inner));
      }

  -- Steps of servers, one after another.

  abbrev stepped : Servers P → Option (Outcome (State P)) → Outcome (State P) → Outcome (State P)
  stepped servers next outcome = behind outcome (after_step (advances servers zero) next outcome.state)

  more-by : (servers : Servers P) (steps : ℕ) (state : State P) (next : Option (Outcome (State P))) → advance servers state ≡ next → ((now : State P) → advances servers (suc steps) now ≡ and_then (advances servers steps now) (advances servers 1)) → after_step (advances servers (suc steps)) next state ≡ and_then (after_step (advances servers steps) next state) (advances servers 1)
  more-by servers steps state None is deeper = ap (λ next. stepped servers next (quietly state)) (sym is)
  more-by servers steps state (Some outcome) is deeper =
      ap (λ (o : Outcome (State P)). behind outcome o) (deeper outcome.state) ∙ and_then-assoc outcome (advances servers steps) (advances servers 1)

  -- so many steps and one
  pub advances-more : (servers : Servers P) (steps : ℕ) (state : State P) → advances servers (suc steps) state ≡ and_then (advances servers steps state) (advances servers 1)
  advances-more servers zero state = and_then-nothing (advances servers 1 state)
  advances-more servers (suc steps) state =
      more-by servers steps state (advance servers state) refl (λ now. advances-more servers steps now)

  -- where no step is left, more of them are these
  pub advances-stuck : (servers : Servers P) (steps all more : ℕ) (state : State P) → all ≡ steps + more → advance servers (advances servers steps state).state ≡ None → advances servers all state ≡ advances servers steps state
  advances-stuck servers steps all zero state is stuck =
      let same : all ≡ steps = omega arith in
      ap (λ count. advances servers count state) same
  advances-stuck servers steps all (suc more) state is stuck =
      let one_more : all ≡ suc (steps + more) = omega arith in
      ap (λ count. advances servers count state) one_more
      ∙ advances-more servers (steps + more) state
      ∙ ap (λ (o : Outcome (State P)). and_then o (advances servers 1)) (advances-stuck servers steps (steps + more) more state refl stuck)
      ∙ ap (λ next. stepped servers next (advances servers steps state)) stuck

  -- Servers that accept alike hear alike.

  module _ (plain : Plain) (one other : Servers P) (alike : one.accept ≡ other.accept) (place : ℕ) where
    request-same : (client number : ℕ) (call : Call) (verdict : Judged) (state : State P) → request_as plain one place client number call verdict state ≡ request_as plain other place client number call verdict state
    request-same client number call New state = ap (λ accept. accept (Called client number state.world.now call) state) alike
    request-same client number call Repeat state = refl
    request-same client number call Old state = refl
    request-same client number call Ahead state = refl

    receipt-same : (client key through : ℕ) (new : Bool) (state : State P) → receipt_as one place client key through new state ≡ receipt_as other place client key through new state
    receipt-same client key through true state = ap (λ accept. accept (Receipted client key through state.world.now) state) alike
    receipt-same client key through false state = refl

    rest-same : (message : Message) (state : State P) → hear_at_rest plain one place message state ≡ hear_at_rest plain other place message state
    rest-same (Request client number call) state = request-same client number call (judged_call state.world.core.answered client number) state
    rest-same (Receipt client key through) state = receipt-same client key through (is_new plain state.world.core.answered client key through) state
    rest-same _ state = refl

    hand-same : (message : Message) (hand : Hand) (state : State P) → hear_by plain one place message hand state ≡ hear_by plain other place message hand state
    hand-same message Empty state = rest-same message state
    hand-same message _ state = refl

    pub hear-same : (message : Message) (state : State P) → hear plain one place message state ≡ hear plain other place message state
    hear-same message state = hand-same message state.world.core.hand state

  -- with nothing in hand all servers push alike
  pub push-same : (plain : Plain) (one other : Servers P) (state : State P) → state.world.core.hand ≡ Empty → push plain one state ≡ push plain other state
  push-same plain one other state empty =
      let S : Hand → Type 0 = λ hand. push_by plain one hand state ≡ push_by plain other hand state in
      subst S (sym empty) refl
