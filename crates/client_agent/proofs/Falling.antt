-- Calls stand by falling numbers, so the one of a number that stands at a place is the only one of that number.
use Rattle.std.proofs.Common.{◌≡◌, ℕ, zero, suc, ◌+◌, ◌<◌, ◌≤◌, Bool, true, false, if◌then◌else◌, Some, List, [], ◌∷◌, length, get_or, ap, sym, subst, ◌∙◌, arith}
use Rattle.cluster_facts.specs.Types.{Call}
use Rattle.cluster_facts.specs.Agents.{kept_call}
use Rattle.cluster_facts.proofs.Words.{by_test}
use Rattle.client_set.specs.Rising.{without}
use Rattle.client_agent.specs.declared.kept.Kept.{Kept}
use Rattle.client_agent.specs.Inside.{calls_kept, AreFalling}

-- what stands at a place is below the bound
falling-below : (bound place : ℕ) (kept : List Kept) (sent : Kept) → AreFalling bound (calls_kept kept) → place < length kept → sent ≡ get_or kept place sent → sent.number < bound
falling-below bound place [] sent falls within is = absurd (omega (arith, within))
falling-below bound zero (first ∷ kept) sent falls within is =
    subst (λ (it : Kept). it.number < bound) (sym is) falls.0
falling-below bound (suc place) (first ∷ kept) sent falls within is =
    let below = falling-below first.number place kept sent falls.1 (omega (arith, within)) is in
    let here = falls.0 in
    omega (arith, here, below)

pub falling-call : (number bound place : ℕ) (kept : List Kept) (sent : Kept) → AreFalling bound (calls_kept kept) → place < length kept → sent ≡ get_or kept place sent → sent.number ≡ number → Some sent.call ≡ kept_call number (calls_kept kept)
falling-call number bound place [] sent falls within is same = absurd (omega (arith, within))
falling-call number bound zero (first ∷ kept) sent falls within is same =
    let P : Bool → Type 0 = λ b. Some sent.call ≡ (if b then Some first.call else kept_call number (calls_kept kept)) in
    by_test P first.number number
    (λ equal. ap (λ (it : Kept). Some it.call) is)
    (λ apart. absurd (apart (sym (ap (λ (it : Kept). it.number) is) ∙ same)))
falling-call number bound (suc place) (first ∷ kept) sent falls within is same =
    let below = falling-below first.number place kept sent falls.1 (omega (arith, within)) is in
    let P : Bool → Type 0 = λ b. Some sent.call ≡ (if b then Some first.call else kept_call number (calls_kept kept)) in
    by_test P first.number number
    (λ equal. absurd (omega (arith, below, equal, same)))
    (λ apart. falling-call number first.number place kept sent falls.1 (omega (arith, within)) is same)

-- one that is sent is above all others
pub falling-sent : (number : ℕ) (call : Call) (kept : List (ℕ × Call)) → AreFalling number kept → AreFalling (number + 1) ((number, call) ∷ kept)
falling-sent number call kept falls = (omega arith, falls)

falling-more : (bound higher : ℕ) (kept : List (ℕ × Call)) → bound ≤ higher → AreFalling bound kept → AreFalling higher kept
falling-more bound higher [] more falls = tt
falling-more bound higher (sent ∷ kept) more falls = (let here = falls.0 in omega arith, falls.1)

pub falling-without : (test : ℕ × Call → Bool) (bound : ℕ) (kept : List (ℕ × Call)) → AreFalling bound kept → AreFalling bound (without test kept)
falling-without test bound [] falls = tt
falling-without test bound (sent ∷ kept) falls =
    let rest = falling-without test sent.0 kept falls.1 in
    let here : sent.0 ≤ bound = (let below = falls.0 in omega arith) in
    elim (test sent) as (λ b. AreFalling bound (if b then without test kept else sent ∷ without test kept)) [
      | true ↦ falling-more sent.0 bound (without test kept) here rest
      | false ↦ (falls.0, rest)
    ]
