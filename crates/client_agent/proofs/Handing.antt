-- Callbacks wait, and are handed out, the oldest first.
use Rattle.std.proofs.Common.{◌≡◌, ℕ, suc, ◌+◌, ◌-◌, ◌<◌, ◌≤◌, Option, Some, List, [], ◌∷◌, ◌++◌, length, take, drop, slice_get, get_or, reverse, refl, ap, sym, subst, ◌∙◌, arith, length-append, take-append-drop}
use Rattle.std.proofs.lemmas.List.{append_cancel_left, reverse-append, length-reverse, length-drop, drop_more, take_more, length-take-le}
use Rattle.std.proofs.lemmas.Option.{slice_get_within, get_or_from_slice_get}
use Rattle.callback_dispatch.specs.declared.numbered.Numbered.{Numbered}
use Rattle.callback_dispatch.specs.Seen.{TakerSeen, numbered as numbered_from}
use Rattle.callback_dispatch.proofs.Elements.{numbered-append, length-numbered as length-numbered_from}
use Rattle.cluster_facts.specs.Types.{Callback}
use Rattle.cluster_facts.specs.Agents.{oldest, all_but_oldest}
use Rattle.client_agent.specs.declared.ring.Ring.TheInside.{Inside}
use Rattle.client_agent.specs.Steps.{numbered}
use Rattle.client_agent.specs.Inside.{IsOnlyTaker, HasOnlyTaker, AreEnds}

-- the taker that took what was handed out
pub only-taker : (inside : Inside) (taker : TakerSeen) → AreEnds inside → inside.taker ≡ Some taker → IsOnlyTaker inside.queue inside.feeder inside.given taker
only-taker inside taker ends is =
    subst (λ (t : Option TakerSeen). HasOnlyTaker inside.queue inside.feeder inside.given t) is ends.taker

-- Numbers, from the oldest on.

pub length-numbered : (before : ℕ) (callbacks : List Callback) → length (numbered before callbacks) ≡ length callbacks
length-numbered before [] = refl
length-numbered before (callback ∷ callbacks) = ap suc (length-numbered before callbacks)

numbered-snoc : (before : ℕ) (newer : List Callback) (callback : Callback) → numbered before (newer ++ callback ∷ []) ≡ numbered (before + 1) newer ++ record { number = before + 1; callback = callback } ∷ []
numbered-snoc before [] callback =
    let first : suc (before + 0) ≡ before + 1 = omega arith in
    ap (λ n. record { number = n; callback = callback } ∷ []) first
numbered-snoc before (newest ∷ newer) callback =
    let long = length-append newer (callback ∷ []) in
    let same : suc (before + length (newer ++ callback ∷ [])) ≡ suc (before + 1 + length newer) = omega arith in
    λ i. record { number = same i; callback = newest } ∷ numbered-snoc before newer callback i

-- the oldest is handed out first, under the next number
reverse-numbered : (before : ℕ) (newer : List Callback) (callback : Callback) → reverse (numbered before (newer ++ callback ∷ [])) ≡ record { number = before + 1; callback = callback } ∷ reverse (numbered (before + 1) newer)
reverse-numbered before newer callback =
    ap (λ (all : List Numbered). reverse all) (numbered-snoc before newer callback) ∙ reverse-append (numbered (before + 1) newer) (record { number = before + 1; callback = callback } ∷ [])

reverse-cons : {X : Type 0} (x : X) (xs : List X) → reverse (x ∷ xs) ≡ reverse xs ++ x ∷ []
reverse-cons x xs = reverse-append (x ∷ []) xs

-- those that wait are numbered as they were fed
numbered-fed : (before : ℕ) (fed : List Callback) → reverse (numbered before (reverse fed)) ≡ numbered_from (suc before) fed
numbered-fed before [] = refl
numbered-fed before (callback ∷ fed) =
    let next : before + 1 ≡ suc before = omega arith in
    ap (λ (queue : List Callback). reverse (numbered before queue)) (reverse-cons callback fed)
    ∙ reverse-numbered before (reverse fed) callback
    ∙ ap (λ (rest : List Numbered). record { number = before + 1; callback = callback } ∷ rest) (numbered-fed (before + 1) fed)
    ∙ ap (λ n. record { number = n; callback = callback } ∷ numbered_from (suc n) fed) next

oldest-snoc : {X : Type 0} (newer : List X) (x : X) → oldest (newer ++ x ∷ []) ≡ x ∷ []
oldest-snoc [] x = refl
oldest-snoc (y ∷ []) x = refl
oldest-snoc (y ∷ z ∷ newer) x = oldest-snoc (z ∷ newer) x

all_but_oldest-snoc : {X : Type 0} (newer : List X) (x : X) → all_but_oldest (newer ++ x ∷ []) ≡ newer
all_but_oldest-snoc [] x = refl
all_but_oldest-snoc (y ∷ []) x = refl
all_but_oldest-snoc (y ∷ z ∷ newer) x = ap (λ ys. y ∷ ys) (all_but_oldest-snoc (z ∷ newer) x)

-- How many wait, and how many were taken.

pub length-waiting : (given : ℕ) (list : List Callback) → length (reverse (drop given list)) ≡ length list - given
length-waiting given list = length-reverse (drop given list) ∙ length-drop given list

pub length-taken : (given : ℕ) (list : List Callback) (taken : List Numbered) → given ≤ length list → taken ≡ numbered_from 1 (take given list) → length taken ≡ given
length-taken given list taken within is =
    ap length is ∙ length-numbered_from 1 (take given list) ∙ length-take-le given list within

-- the queue has a place for one more where fewer wait than there are places
pub has-room : (given places capacity : ℕ) (list : List Callback) (taken : List Numbered) → given ≤ length list → taken ≡ numbered_from 1 (take given list) → places ≡ capacity → length (reverse (drop given list)) < places → length list < length taken + capacity
has-room given places capacity list taken within is size room =
    omega (arith, length-waiting given list, length-taken given list taken within is)

-- All that wait are handed out.

-- those that were fed, by whether they were taken
fed-parts : (given : ℕ) (list : List Callback) → given ≤ length list → numbered_from 1 list ≡ numbered_from 1 (take given list) ++ numbered_from (suc given) (drop given list)
fed-parts given list within =
    let long = length-take-le given list within in
    let next : suc given ≡ 1 + length (take given list) = omega arith in
    ap (numbered_from 1) (sym (take-append-drop given list)) ∙ numbered-append 1 (take given list) (drop given list) (suc given) next

pub handed-all : (given : ℕ) (list : List Callback) (before taken : List Numbered) → given ≤ length list → before ≡ numbered_from 1 (take given list) → before ++ taken ≡ numbered_from 1 list → taken ≡ reverse (numbered given (reverse (drop given list)))
handed-all given list before taken within begins all =
    let rest = numbered_from (suc given) (drop given list) in
    append_cancel_left before taken rest (all ∙ fed-parts given list within ∙ ap (λ (front : List Numbered). front ++ rest) (sym begins)) ∙ sym (numbered-fed given (drop given list))

-- The oldest is handed out.

-- the element behind those that were taken
pub oldest-at : (given : ℕ) (list : List Callback) (taken : List Numbered) (x : Numbered) → given ≤ length list → taken ≡ numbered_from 1 (take given list) → (x.number ≡ suc (length taken)) × (slice_get list (length taken) ≡ Some x.callback) → (x.number ≡ suc given) × (slice_get list given ≡ Some x.callback)
oldest-at given list taken x within is next =
    let long = length-taken given list taken within is in
    (next.0 ∙ ap suc long, ap (slice_get list) (sym long) ∙ next.1)

-- the queue by its oldest callback
waiting-oldest : (given : ℕ) (list : List Callback) (callback : Callback) → slice_get list given ≡ Some callback → reverse (drop given list) ≡ reverse (drop (given + 1) list) ++ callback ∷ []
waiting-oldest given list callback is =
    let first : get_or list given callback ≡ callback = get_or_from_slice_get list given callback callback is in
    ap (λ (l : List Callback). reverse l) (drop_more list given callback (slice_get_within list given callback is) ∙ ap (λ (c : Callback). c ∷ drop (given + 1) list) first) ∙ reverse-cons callback (drop (given + 1) list)

pub handed-one : (given : ℕ) (list : List Callback) (x : Numbered) → x.number ≡ suc given → slice_get list given ≡ Some x.callback → x ∷ [] ≡ reverse (numbered given (oldest (reverse (drop given list))))
handed-one given list x number is =
    let newer = reverse (drop (given + 1) list) in
    let first : x.number ≡ suc (given + 0) = omega arith in
    let alone : oldest (reverse (drop given list)) ≡ x.callback ∷ [] = ap (λ (q : List Callback). oldest q) (waiting-oldest given list x.callback is) ∙ oldest-snoc newer x.callback in
    (λ i. record { number = first i; callback = x.callback } ∷ []) ∙ sym (ap (λ (q : List Callback). reverse (numbered given q)) alone)

-- what waits when the oldest is handed out, and how many it was
pub one-left : (given : ℕ) (list : List Callback) (callback : Callback) → slice_get list given ≡ Some callback → reverse (drop (given + 1) list) ≡ all_but_oldest (reverse (drop given list))
one-left given list callback is =
    sym (ap (λ (q : List Callback). all_but_oldest q) (waiting-oldest given list callback is) ∙ all_but_oldest-snoc (reverse (drop (given + 1) list)) callback)

pub one-given : (given : ℕ) (list : List Callback) (callback : Callback) → slice_get list given ≡ Some callback → given + 1 ≡ given + length (oldest (reverse (drop given list)))
one-given given list callback is =
    ap (λ n. given + n) (sym (ap (λ (q : List Callback). length (oldest q)) (waiting-oldest given list callback is) ∙ ap (λ (q : List Callback). length q) (oldest-snoc (reverse (drop (given + 1) list)) callback)))

-- the taker's list goes on
pub took-one : (given : ℕ) (list : List Callback) (before new : List Numbered) (x : Numbered) → before ≡ numbered_from 1 (take given list) → new ≡ before ++ x ∷ [] → x.number ≡ suc given → slice_get list given ≡ Some x.callback → new ≡ numbered_from 1 (take (given + 1) list)
took-one given list before new x begins is number at =
    let within = slice_get_within list given x.callback at in
    let long = length-take-le given list (omega arith) in
    let next : x.number ≡ 1 + length (take given list) = omega arith in
    let first : get_or list given x.callback ≡ x.callback = get_or_from_slice_get list given x.callback x.callback at in
    let longer : take (given + 1) list ≡ take given list ++ x.callback ∷ [] = take_more list given x.callback within ∙ ap (λ (c : Callback). take given list ++ c ∷ []) first in
    is ∙ ap (λ (front : List Numbered). front ++ x ∷ []) begins ∙ sym (ap (numbered_from 1) longer ∙ numbered-append 1 (take given list) (x.callback ∷ []) x.number next)
