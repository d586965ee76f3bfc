-- What many workers took, sorted by number, is what waited.
use Rattle.std.proofs.Common.{◌≡◌, ◌≢◌, ℕ, suc, ◌+◌, ◌<◌, ◌≤◌, cond, eqb, Some, All, IsPermutation, sum_by, List, [], ◌∷◌, ◌++◌, length, take, drop, slice_get, unwrap_or, eq-eqb, ne_eqb, lt_of_not-le, refl, sym, ap, subst, ◌∙◌, append_assoc, take-append-drop, length-append, arith}
use Rattle.std.specs.List.Sorted.{IsNonDecreasingBy}
use Rattle.std.proofs.lemmas.List.Elements.{All-nil, All-cons, All-head, All-tail, All-from_get_or}
use Rattle.std.proofs.lemmas.List.Sums.{sum_by-cons, sum_by-append}
use Rattle.std.proofs.lemmas.List.Sorted.{All-permutation, IsPermutation-sym, sum_by-IsPermutation}
use Rattle.calls.specs.declared.reply.Callback.{Callback}
use Rattle.callback_dispatch.specs.declared.numbered.Numbered.{Numbered}
use Rattle.callback_dispatch.specs.Seen.{element, numbered}
use Rattle.callback_dispatch.proofs.Elements.{numbered-append, slice_get-seam}

-- How often a number stands in a list.

is_at : ℕ → Numbered → ℕ
is_at number x = cond (eqb x.number number) 1 0

times : ℕ → List Numbered → ℕ
times number xs = sum_by (is_at number) xs

is_at-here : (number : ℕ) (x : Numbered) → x.number ≡ number → is_at number x ≡ 1
unfolding is_at
is_at-here number x is = ap (λ b. cond b 1 0) (eq-eqb x.number number is)

is_at-else : (number : ℕ) (x : Numbered) → x.number ≢ number → is_at number x ≡ 0
unfolding is_at
is_at-else number x other = ap (λ b. cond b 1 0) (ne_eqb x.number number other)

times-cons : (number : ℕ) (x : Numbered) (xs : List Numbered) → times number (x ∷ xs) ≡ is_at number x + times number xs
unfolding times
times-cons number x xs = sum_by-cons (is_at number) x xs

times-low : (low number : ℕ) (callbacks : List Callback) → low < number → times low (numbered number callbacks) ≡ 0
unfolding times
times-low low number [] lt = refl
times-low low number (callback ∷ callbacks) lt =
    let rest = times-low low (suc number) callbacks (omega arith) in
    let here = is_at-else low (element number callback) (λ e. omega arith) in
    let both = times-cons low (element number callback) (numbered (suc number) callbacks) in
    omega arith

times-none : (low : ℕ) (xs : List Numbered) → All (λ x. low < x.number) xs → times low xs ≡ 0
unfolding times
times-none low [] above = refl
times-none low (x ∷ xs) above =
    let Above : Numbered → Type 0 = λ y. low < y.number in
    let first : low < x.number = All-head Above x xs above in
    let rest = times-none low xs (All-tail Above x xs above) in
    let here = is_at-else low x (λ e. omega arith) in
    let both = times-cons low x xs in
    omega arith

-- The callback stands at its number among all.
Stands : List Callback → Numbered → Type 0
Stands all x = (place : ℕ) × (x.number ≡ suc place) × (slice_get all place ≡ Some x.callback)

stand_all : (front callbacks : List Callback) → All (Stands (front ++ callbacks)) (numbered (suc (length front)) callbacks)
unfolding Stands
stand_all front [] = All-nil (Stands (front ++ []))
stand_all front (callback ∷ callbacks) =
    let number = suc (length front) in
    let longer = length-append front (callback ∷ []) in
    let next : suc (length (front ++ callback ∷ [])) ≡ suc number = omega arith in
    let all = append_assoc front (callback ∷ []) callbacks in
    let rest : All (Stands (front ++ callback ∷ callbacks)) (numbered (suc number) callbacks) = subst (λ (y : List Callback × ℕ). All (Stands y.0) (numbered y.1 callbacks)) (λ i. (all i, next i)) (stand_all (front ++ callback ∷ []) callbacks) in
    All-cons (Stands (front ++ callback ∷ callbacks)) (element number callback) (numbered (suc number) callbacks) (length front, refl, slice_get-seam front callback callbacks) rest

-- numbers that do not fall, each as often as among those from this one on
in_order : (all front callbacks : List Callback) (xs : List Numbered) → all ≡ front ++ callbacks → IsNonDecreasingBy (λ x. x.number) xs → All (Stands all) xs → ((k : ℕ) → times k xs ≡ times k (numbered (suc (length front)) callbacks)) → xs ≡ numbered (suc (length front)) callbacks
unfolding times Stands
in_order all front [] [] is rises stand as_often = refl
in_order all front [] (x ∷ xs) is rises stand as_often =
    let here = is_at-here x.number x refl in
    let both = times-cons x.number x xs in
    let none : times x.number (x ∷ xs) ≡ 0 = as_often x.number in
    absurd (omega arith)
in_order all front (callback ∷ callbacks) [] is rises stand as_often =
    let number = suc (length front) in
    let here = is_at-here number (element number callback) refl in
    let both = times-cons number (element number callback) (numbered (suc number) callbacks) in
    let none : 0 ≡ times number (numbered number (callback ∷ callbacks)) = as_often number in
    absurd (omega arith)
in_order all front (callback ∷ callbacks) (x ∷ xs) is rises stand as_often =
    let number = suc (length front) in
    let first = element number callback in
    let rest = numbered (suc number) callbacks in
    let not_below : suc x.number ≤ number → ⊥ = λ below.
    let here = is_at-here x.number x refl in
    let both = times-cons x.number x xs in
    let none = times-low x.number number (callback ∷ callbacks) (omega arith) in
    let same = as_often x.number in
    omega arith in
    let not_above : suc number ≤ x.number → ⊥ = λ above.
    let least : All (λ y. number < y.number) xs = All-from_get_or (λ y. number < y.number) xs x (λ i lt. let le = rises 0 (suc i) x (omega arith) (omega arith) in omega (arith, le)) in
    let none = times-none number (x ∷ xs) (All-cons (λ y. number < y.number) x xs (omega arith) least) in
    let here = is_at-here number first refl in
    let both = times-cons number first rest in
    let same = as_often number in
    omega arith in
    let low = lt_of_not-le not_below in
    let high = lt_of_not-le not_above in
    let same : x.number ≡ number = omega arith in
    let stands = All-head (Stands all) x xs stand in
    let place : stands.0 ≡ length front = (let at = stands.1 in omega arith) in
    let found : Some x.callback ≡ Some callback = sym stands.2 ∙ ap (slice_get all) place ∙ ap (λ l. slice_get l (length front)) is ∙ slice_get-seam front callback callbacks in
    let callbacks_same : x.callback ≡ callback = ap (λ o. unwrap_or o callback) found in
    let head : x ≡ first = λ i. record { number = same i; callback = callbacks_same i } in
    let longer = length-append front (callback ∷ []) in
    let next : suc (length (front ++ callback ∷ [])) ≡ suc number = omega arith in
    let rests = in_order all (front ++ callback ∷ []) callbacks xs (is ∙ sym (append_assoc front (callback ∷ []) callbacks)) (λ i j d le lt. rises (suc i) (suc j) d (omega arith) (omega arith)) (All-tail (Stands all) x xs stand)
    (λ k.
    let mine = times-cons k x xs in
    let theirs = times-cons k first rest in
    let both = as_often k in
    let here = ap (is_at k) head in
    let left : times k xs ≡ times k rest = omega arith in
    left ∙ ap (λ n. times k (numbered n callbacks)) (sym next)) in
    λ i. head i ∷ (rests ∙ ap (λ n. numbered n callbacks) next) i

all_behind : (P : Numbered → Type 0) (xs ys : List Numbered) → All P (xs ++ ys) → All P ys
all_behind P [] ys all = all
all_behind P (x ∷ xs) ys all = all_behind P xs ys (All-tail P x (xs ++ ys) all)

-- what was taken of all behind their beginning, in whatever order, and sorted
sorted_behind : (all : List Callback) (count : ℕ) (before taken sorted : List Numbered) → before ≡ numbered 1 (take count all) → IsPermutation (before ++ taken) (numbered 1 all) → IsPermutation taken sorted → IsNonDecreasingBy (λ x. x.number) sorted → before ++ sorted ≡ numbered 1 all
unfolding times
sorted_behind all count before taken sorted begins whole shuffled rises =
    let front = take count all in
    let back = drop count all in
    let parts : all ≡ front ++ back = sym (take-append-drop count all) in
    let number = suc (length front) in
    let number_is : number ≡ 1 + length front = omega arith in
    let in_two : numbered 1 all ≡ before ++ numbered number back =
    ap (numbered 1) parts ∙ numbered-append 1 front back number number_is ∙ ap (λ l. l ++ numbered number back) (sym begins) in
    let stand = All-permutation (Stands all) taken sorted shuffled (all_behind (Stands all) before taken (All-permutation (Stands all) (numbered 1 all) (before ++ taken) (IsPermutation-sym (before ++ taken) (numbered 1 all) whole) (stand_all [] all))) in
    let behind = in_order all front back sorted parts rises stand
    (λ k.
    let sums = sum_by-IsPermutation (is_at k) (before ++ taken) (numbered 1 all) whole in
    let again = sum_by-IsPermutation (is_at k) taken sorted shuffled in
    let one = sum_by-append (is_at k) before taken in
    let two = ap (times k) in_two in
    let three = sum_by-append (is_at k) before (numbered number back) in
    let counts : times k (numbered number back) ≡ sum_by (is_at k) taken = omega arith in
    again ∙ sym counts) in
    ap (λ l. before ++ l) behind ∙ sym in_two

-- the same of lists that stayed what they were
pub given_in_order : (fed told : List Callback) (before settled still taken sorted given : List Numbered) → settled ≡ numbered 1 (take (length settled) fed) → settled ≡ before → still ≡ settled → IsPermutation (still ++ taken) (numbered 1 told) → told ≡ fed → IsPermutation taken sorted → IsNonDecreasingBy (λ x. x.number) sorted → given ≡ sorted → before ++ given ≡ numbered 1 fed
given_in_order fed told before settled still taken sorted given begins was stays whole same shuffled rises is =
    let all : IsPermutation (before ++ taken) (numbered 1 fed) = subst (λ (y : List Numbered × List Callback). IsPermutation (y.0 ++ taken) (numbered 1 y.1)) (λ i. ((stays ∙ was) i, same i)) whole in
    ap (λ l. before ++ l) is ∙ sorted_behind fed (length settled) before taken sorted (sym was ∙ begins) all shuffled rises
