-- The views of all passes, of which one changes or comes.
use Rattle.std.proofs.Common.{◌≡◌, ◌≢◌, ℕ, zero, suc, ◌+◌, ◌<◌, ◌≤◌, ◌⊎◌, inl, inr, ⊎_elim, List, [], ◌∷◌, ◌++◌, length, set, refl, sym, ap, subst, ◌∙◌, arith}
use mathlib.Core.Option.{some, some-injective, some-ne-none}
use lib.ListN.{get_elem?}
use Rattle.crossbeam_queue.proofs.Lists.{at_set, set_else}
use Rattle.callback_dispatch.specs.declared.rule.View.{View}
use Rattle.callback_dispatch.specs.Rule.{spent_view, shares}

abbrev pub Each : (ℕ → View → Type 0) → List View → Type 0
Each F views = (pass : ℕ) (v : View) → get_elem? views pass ≡ some v → F pass v

pub each_set : (F : ℕ → View → Type 0) (views : List View) (pass : ℕ) (w : View) → F pass w → ((other : ℕ) (u : View) → other ≢ pass → get_elem? views other ≡ some u → F other u) → Each F (set views pass w)
each_set F views pass w mine others other u at =
    ⊎_elim (λ (x : (other ≡ pass) × (w ≡ u)). subst (λ (y : ℕ × View). F y.0 y.1) (λ i. (sym x.0 i, x.1 i)) mine)
    (λ (x : (other ≢ pass) × (get_elem? views other ≡ some u)). others other u x.0 x.1) (at_set views pass other w u at)

-- a view stands at the end, or before it
snoc_cases : (views : List View) (v u : View) (pass : ℕ) → get_elem? (views ++ v ∷ []) pass ≡ some u → (get_elem? views pass ≡ some u) ⊎ ((pass ≡ length views) × (v ≡ u))
snoc_cases [] v u zero at = inr (refl, some-injective v u at)
snoc_cases [] v u (suc pass) at = absurd (some-ne-none u (sym at))
snoc_cases (x ∷ views) v u zero at = inl at
snoc_cases (x ∷ views) v u (suc pass) at =
    ⊎_elim (λ before. inl before) (λ (last : (pass ≡ length views) × (v ≡ u)). inr (ap suc last.0, last.1)) (snoc_cases views v u pass at)

pub each_snoc : (F : ℕ → View → Type 0) (views : List View) (v : View) → Each F views → F (length views) v → Each F (views ++ v ∷ [])
each_snoc F views v all mine pass u at =
    ⊎_elim (λ (before : get_elem? views pass ≡ some u). all pass u before)
    (λ (last : (pass ≡ length views) × (v ≡ u)). subst (λ (y : ℕ × View). F y.0 y.1) (λ i. (sym last.0 i, last.1 i)) mine) (snoc_cases views v u pass at)

pub at-within : (views : List View) (pass : ℕ) (v : View) → get_elem? views pass ≡ some v → pass < length views
at-within [] pass v at = absurd (some-ne-none v (sym at))
at-within (x ∷ views) zero v at = omega arith
at-within (x ∷ views) (suc pass) v at =
    let within = at-within views pass v at in
    omega arith

pub at_or_beyond : (views : List View) (pass : ℕ) → ((v : View) × (get_elem? views pass ≡ some v)) ⊎ (length views ≤ pass)
at_or_beyond [] pass = inr (omega arith)
at_or_beyond (x ∷ views) zero = inl (x, refl)
at_or_beyond (x ∷ views) (suc pass) =
    ⊎_elim (λ (found : (v : View) × (get_elem? views pass ≡ some v)). inl found) (λ (beyond : length views ≤ pass). inr (omega arith)) (at_or_beyond views pass)

pub shares-set : (views : List View) (pass : ℕ) (v w : View) → get_elem? views pass ≡ some v → shares (set views pass w) + v.share ≡ shares views + w.share
shares-set [] pass v w at = absurd (some-ne-none v (sym at))
shares-set (x ∷ views) zero v w at =
    let same = ap (λ (u : View). u.share) (some-injective x v at) in
    omega arith
shares-set (x ∷ views) (suc pass) v w at =
    let rest = shares-set views pass v w at in
    omega arith

pub shares-snoc : (views : List View) (v : View) → shares (views ++ v ∷ []) ≡ shares views + v.share
shares-snoc [] v = omega arith
shares-snoc (x ∷ views) v =
    let rest = shares-snoc views v in
    omega arith

share-within : (views : List View) (pass : ℕ) (v : View) → get_elem? views pass ≡ some v → v.share ≤ shares views
share-within [] pass v at = absurd (some-ne-none v (sym at))
share-within (x ∷ views) zero v at =
    let same = ap (λ (u : View). u.share) (some-injective x v at) in
    omega arith
share-within (x ∷ views) (suc pass) v at =
    let rest = share-within views pass v at in
    omega arith

-- where one pass has the whole share, the others have none
pub others_idle : (views : List View) (pass other : ℕ) (v u : View) → get_elem? views pass ≡ some v → get_elem? views other ≡ some u → other ≢ pass → v.share ≡ shares views → u.share ≡ 0
others_idle views pass other v u at at_other apart whole =
    let without = shares-set views pass v spent_view at in
    let still = set_else views pass other spent_view apart ∙ at_other in
    let within = share-within (set views pass spent_view) other u still in
    omega arith
