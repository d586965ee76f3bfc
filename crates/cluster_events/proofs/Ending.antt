-- `settle` ends, and after it everything is settled.
use Rattle.std.proofs.Common.{◌≡◌, ℕ, zero, suc, ◌<◌, ◌≤◌, inl, inr, Bool, true, false, List, [], ◌++◌, refl, subst, arith}
use Rattle.std.proofs.lemmas.Bool.{cases_Bool}
use Rattle.cluster_facts.specs.Service.{Plain, IsPlain}
use Rattle.cluster_events.specs.Lines.{Told}
use Rattle.cluster_events.specs.Servers.{State, Servers}
use Rattle.cluster_events.specs.Settling.{round, is_loud, Rounds}
use Rattle.cluster_events.specs.Settling.Rounds.{Begun, Further}
use Rattle.cluster_events.specs.Serving.{IsSteady, IsServing, IsCarried}
use Rattle.cluster_events.specs.Measure.{potential, Spends}
use Rattle.cluster_events.specs.Settled.{IsSettled}
use Rattle.cluster_events.proofs.Carrying.{round-carries, rounds-carry}
use Rattle.cluster_events.proofs.Measuring.{loud-progress}
use Rattle.cluster_events.proofs.Quiet.{round-settles}

-- rounds from a start, and the state and lines after the last of them
pub record Ends {P : Type 0} (plain : Plain) (servers : Servers P) (start : State P) : Type 0 where
  pub state : State P
  pub told : List Told
  pub rounds : Rounds plain servers start state told false

module _ {P : Type 0} (plain : Plain) (is_plain : IsPlain plain) (servers : Servers P) (Good : State P → Type 0) (serving : IsServing plain servers Good) (spends : IsCarried plain servers Good Spends) where
  -- a round that is not the last lowers what is left to do
  pub round-falls : (state : State P) → IsSteady plain Good state → is_loud (round plain servers state).told ≡ true → potential (round plain servers state).state.world < potential state.world
  round-falls state steady loud =
      let goes = round-carries plain is_plain servers Good serving Spends spends state steady in
      let paid = goes.carried.paid in
      let some = loud-progress (round plain servers state).told loud in
      omega arith

  -- one round more, and others while it went on, for so many rounds as there is something to do
  rounds-end : (fuel : ℕ) (start state : State P) (told : List Told) → IsSteady plain Good state → potential state.world ≤ fuel → Rounds plain servers start state told true → Ends plain servers start
  rounds-end zero start state told steady enough rounds =
      let next = round plain servers state in
      let R : Bool → Type 0 = λ b. Rounds plain servers start next.state (next.told ++ told) b in
      let further : R (is_loud next.told) = Further rounds in
      elim (cases_Bool (is_loud next.told)) [
        | inl loud ↦ let falls = round-falls state steady loud in absurd (omega arith)
        | inr quiet ↦ record { state = next.state; told = next.told ++ told; rounds = subst R quiet further }
      ]
  rounds-end (suc fuel) start state told steady enough rounds =
      let next = round plain servers state in
      let R : Bool → Type 0 = λ b. Rounds plain servers start next.state (next.told ++ told) b in
      let further : R (is_loud next.told) = Further rounds in
      let after = (round-carries plain is_plain servers Good serving Spends spends state steady).holds.steady in
      elim (cases_Bool (is_loud next.told)) [
        | inl loud ↦ let falls = round-falls state steady loud in rounds-end fuel start next.state (next.told ++ told) after (omega arith) (subst R loud further)
        | inr quiet ↦ record { state = next.state; told = next.told ++ told; rounds = subst R quiet further }
      ]

  -- from each steady state there are rounds up to a quiet one
  pub settle-ends : (start : State P) → IsSteady plain Good start → Ends plain servers start
  settle-ends start steady = rounds-end (potential start.world) start start [] steady (omega arith) Begun

  ends-settled : (start : State P) → IsSteady plain Good start → {state : State P} {told : List Told} {loud : Bool} → Rounds plain servers start state told loud → loud ≡ false → IsSettled plain state.world
  ends-settled start steady Begun quiet = cc
  ends-settled start steady (Further {state = state} rounds) quiet =
      round-settles plain is_plain servers Good serving state (rounds-carry plain is_plain servers Good serving Spends spends start steady rounds).holds quiet

  -- after the last of them everything is settled
  pub settle-settles : (start new : State P) (told : List Told) → IsSteady plain Good start → Rounds plain servers start new told false → IsSettled plain new.world
  settle-settles start new told steady rounds = ends-settled start steady rounds refl
