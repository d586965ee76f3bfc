-- Each element that left the queue is in one list alone.
use Rattle.std.proofs.Common.{◌≡◌, ℕ, zero, suc, ◌+◌, ◌<◌, ◌≤◌, Some, All, Contains, List, [], ◌∷◌, ◌++◌, length, drop, slice_get, unwrap_or, is_some, true≢false, refl, sym, ap, subst, ◌∙◌, length-append, lt_of_not-le, arith}
use Rattle.std.proofs.lemmas.List.Elements.{All-nil, All-cons, All-weaker, All-contains, Contains-append_left, Contains-append_right, Contains-push}
use mathlib.Core.Option.{some}
use lib.ListN.{get_elem?}
use Rattle.calls.specs.declared.reply.Callback.{Callback}
use Rattle.callback_dispatch.specs.declared.numbered.Numbered.{Numbered}
use Rattle.callback_dispatch.specs.declared.rule.View.{View}
use Rattle.callback_dispatch.specs.Seen.{element, numbered}
use Rattle.callback_dispatch.specs.Rule.{taken_by, Dispatch}
use Rattle.callback_dispatch.specs.Law.{Rises, StandsOnce, IsOfFirst, IsShared}
use Rattle.callback_dispatch.proofs.Elements.{taken_cases, taken-above, slice_get-front}

taken-rises : (taker : ℕ → ℕ) (pass number : ℕ) (callbacks : List Callback) → Rises (taken_by taker pass number callbacks)
taken-rises taker pass number [] = tt
taken-rises taker pass number (callback ∷ callbacks) =
    let rest = taken-rises taker pass (suc number) callbacks in
    taken_cases Rises taker pass number callback callbacks (λ _. (taken-above taker pass (suc number) callbacks number (omega arith), rest)) (λ _. rest)

-- who took an element is the taker of its number
taken-of : (taker : ℕ → ℕ) (pass number : ℕ) (callbacks : List Callback) → All (λ x. taker x.number ≡ pass) (taken_by taker pass number callbacks)
taken-of taker pass number [] = All-nil (λ x. taker x.number ≡ pass)
taken-of taker pass number (callback ∷ callbacks) =
    let Mine : Numbered → Type 0 = λ x. taker x.number ≡ pass in
    let rest = taken-of taker pass (suc number) callbacks in
    taken_cases (All Mine) taker pass number callback callbacks (λ mine. All-cons Mine (element number callback) (taken_by taker pass (suc number) callbacks) mine rest) (λ _. rest)

-- the element is one of these callbacks, of which the first has this number
abbrev IsAmong : List Callback → ℕ → Numbered → Type 0
IsAmong callbacks number x =
    (place : ℕ) × (place < length callbacks) × (slice_get callbacks place ≡ Some x.callback) × (x.number ≡ number + place)

among-later : (callback : Callback) (callbacks : List Callback) (number : ℕ) (x : Numbered) → IsAmong callbacks (suc number) x → IsAmong (callback ∷ callbacks) number x
among-later callback callbacks number x among =
    let inside = among.1 in
    let is = among.3 in (suc among.0, omega arith, among.2, omega arith)

taken-among : (taker : ℕ → ℕ) (pass number : ℕ) (callbacks : List Callback) → All (IsAmong callbacks number) (taken_by taker pass number callbacks)
taken-among taker pass number [] = All-nil (IsAmong [] number)
taken-among taker pass number (callback ∷ callbacks) =
    let Here : Numbered → Type 0 = IsAmong (callback ∷ callbacks) number in
    let later = taken_by taker pass (suc number) callbacks in
    let below = taken-among taker pass (suc number) callbacks in
    let rest : All Here later = All-weaker (IsAmong callbacks (suc number)) Here (among-later callback callbacks number) later below in
    taken_cases (All Here) taker pass number callback callbacks (λ _. All-cons Here (element number callback) later (zero, omega arith, refl, omega arith) rest) (λ _. rest)

contains-later : (x y : Numbered) (xs : List Numbered) → Contains xs y → Contains (x ∷ xs) y
contains-later x y xs has = Contains-append_right (x ∷ []) xs y has

taken-has : (taker : ℕ → ℕ) (pass number : ℕ) (callbacks : List Callback) (place : ℕ) (callback : Callback) (its : ℕ) → its ≡ number + place → slice_get callbacks place ≡ Some callback → taker its ≡ pass → Contains (taken_by taker pass number callbacks) (element its callback)
taken-has taker pass number [] place callback its is found mine = absurd (true≢false (sym (ap is_some found)))
taken-has taker pass number (one ∷ callbacks) zero callback its is found mine =
    let same : its ≡ number = omega arith in
    let callbacks_same : one ≡ callback = ap (λ o. unwrap_or o one) found in
    let x = element its callback in
    let head : x ≡ element number one = λ i. record { number = same i; callback = sym callbacks_same i } in
    taken_cases (λ xs. Contains xs x) taker pass number one callbacks
    (λ _. subst (λ y. Contains (y ∷ taken_by taker pass (suc number) callbacks) x) head (Contains-append_left (x ∷ []) (taken_by taker pass (suc number) callbacks) x (Contains-push [] x)))
    (λ other. absurd (other (ap taker (sym same) ∙ mine)))
taken-has taker pass number (one ∷ callbacks) (suc place) callback its is found mine =
    let x = element its callback in
    let rest = taken-has taker pass (suc number) callbacks place callback its (omega arith) found mine in
    taken_cases (λ xs. Contains xs x) taker pass number one callbacks (λ _. contains-later (element number one) x (taken_by taker pass (suc number) callbacks) rest) (λ _. rest)

drop-front : (front back : List Callback) → drop (length front) (front ++ back) ≡ back
drop-front [] back = refl
drop-front (callback ∷ front) back = drop-front front back

stands_once : (items : List Numbered) (views : List View) (rule : Dispatch items views) (place : ℕ) (callback : Callback) → slice_get rule.front place ≡ Some callback → StandsOnce (element (suc place) callback) views
stands_once items views rule place callback found =
    let number = suc place in
    let x = element number callback in
    let pass = rule.taker number in
    let is : number ≡ 1 + place = omega arith in
    let Nothing : Numbered → Type 0 = λ _. ⊥ in
    let within : ¬ (length views ≤ pass) = λ beyond.
    All-contains Nothing [] x (All-nil Nothing) (subst (λ xs. Contains xs x) (rule.beyond pass beyond) (taken-has rule.taker pass 1 rule.front place callback number is found refl)) in (
      pass,
      lt_of_not-le within,
      (λ other v at.
          let takes = (rule.fits other v at).takes in (
            (λ has. sym (All-contains (λ y. rule.taker y.number ≡ other) v.taken x (subst (All (λ y. rule.taker y.number ≡ other)) (sym takes) (taken-of rule.taker other 1 rule.front)) has)),
            (λ mine. subst (λ xs. Contains xs x) (sym takes) (taken-has rule.taker other 1 rule.front place callback number is found (sym mine))),
          )),
    )

of_first : (front back : List Callback) (x : Numbered) → IsAmong front 1 x → IsOfFirst (length front) (front ++ back) x
of_first front back x among =
    let is = among.3 in (among.0, among.1, slice_get-front front back among.0 among.1 ∙ among.2, omega arith)

own_of : (items : List Numbered) (views : List View) (rule : Dispatch items views) (pass : ℕ) (v : View) (x : Numbered) → get_elem? views pass ≡ some v → Contains v.taken x → IsOfFirst (length rule.front) (rule.front ++ rule.back) x
own_of items views rule pass v x at has =
    let Mine : Numbered → Type 0 = IsAmong rule.front 1 in
    let mine : All Mine v.taken = subst (All Mine) (sym (rule.fits pass v at).takes) (taken-among rule.taker pass 1 rule.front) in
    of_first rule.front rule.back x (All-contains Mine v.taken x mine has)

pub shared : (items : List Numbered) (views : List View) → Dispatch items views → IsShared items views
shared items views rule =
    let all = rule.front ++ rule.back in
    let out = length rule.front in
    let long = length-append rule.front rule.back in
    record {
      all = all;
      out = out;
      within = omega arith;
      waiting = rule.waits ∙ ap (numbered (suc out)) (sym (drop-front rule.front rule.back));
      taken = λ place callback lt found. stands_once items views rule place callback (sym (slice_get-front rule.front rule.back place lt) ∙ found);
      once = λ pass v at. subst Rises (sym (rule.fits pass v at).takes) (taken-rises rule.taker pass 1 rule.front);
      fed = λ pass v at feeds. ((rule.fits pass v at).feeds feeds).1;
      own = λ pass v x at has. own_of items views rule pass v x at has;
    }
