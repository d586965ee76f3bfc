-- Events one after another, for loops; and steps of servers one after another.
use Rattle.std.proofs.Common.{◌≡◌, List, [], ◌∷◌, ◌++◌, ap, sym, ◌∙◌, append_assoc, append-nil}
use Rattle.cluster_events.specs.Outcomes.{Outcome, and_then, for_each}

pub and_then-nothing : {S : Type 0} (outcome : Outcome S) → outcome ≡ record { state = outcome.state; told = outcome.told ++ [] }
and_then-nothing outcome = λ i. record { state = outcome.state; told = sym (append-nil outcome.told) i }

pub and_then-assoc : {S : Type 0} (first : Outcome S) (second third : S → Outcome S) → and_then first (λ state. and_then (second state) third) ≡ and_then (and_then first second) third
and_then-assoc first second third =
    let middle = second first.state in
    let last = third middle.state in
    λ i. record { state = last.state; told = append_assoc last.told middle.told first.told i }

-- a loop over a front of the elements and then over the rest
pub for_each-append : {S X : Type 0} (event : X → S → Outcome S) (xs ys : List X) (state : S) → for_each event (xs ++ ys) state ≡ and_then (for_each event xs state) (for_each event ys)
for_each-append event [] ys state = and_then-nothing (for_each event ys state)
for_each-append event (x ∷ xs) ys state =
    ap (λ rest. record { state = rest.state; told = rest.told ++ (event x state).told }) (for_each-append event xs ys (event x state).state)
    ∙ and_then-assoc (event x state) (for_each event xs) (for_each event ys)
