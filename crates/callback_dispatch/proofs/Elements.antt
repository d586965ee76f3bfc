-- Callbacks under their numbers, what a pass took of them, and lists that begin others.
use Rattle.std.proofs.Common.{◌≡◌, ◌≢◌, ℕ, zero, suc, ◌+◌, ◌<◌, ◌≤◌, Bool, true, false, cond, eqb, ◌⊎◌, inl, inr, ⊎_elim, Some, All, List, [], ◌∷◌, ◌++◌, length, take, slice_get, eq-eqb, ne_eqb, ltb, refl, sym, ap, subst, ◌∙◌, append_assoc, length-append, arith}
use Rattle.std.proofs.lemmas.List.Elements.{All-nil, All-cons}
use Rattle.std.proofs.lemmas.List.{take-append-le}
use mathlib.Core.List.{IsPrefix, cons-ne-nil}
use mathlib.Core.Logic.{dite}
use native.Mathlib.Decide.{ℕ_discrete}
use Rattle.calls.specs.declared.reply.Callback.{Callback}
use Rattle.callback_dispatch.specs.declared.numbered.Numbered.{Numbered}
use Rattle.callback_dispatch.specs.Seen.{element, numbered, AllBelow, longer_of}
use Rattle.callback_dispatch.specs.Rule.{taken_by}

pub same_or_not : (a b : ℕ) → (a ≡ b) ⊎ (a ≢ b)
same_or_not a b = dite (ℕ_discrete a b) (λ same. inl same) (λ other. inr other)

-- Numbers.

pub numbered-append : (number : ℕ) (one two : List Callback) (next : ℕ) → next ≡ number + length one → numbered number (one ++ two) ≡ numbered number one ++ numbered next two
numbered-append number [] two next is =
    let same : number ≡ next = omega arith in
    ap (λ n. numbered n two) same
numbered-append number (callback ∷ one) two next is =
    ap (λ (r : List Numbered). element number callback ∷ r) (numbered-append (suc number) one two next (omega arith))

pub length-numbered : (number : ℕ) (callbacks : List Callback) → length (numbered number callbacks) ≡ length callbacks
length-numbered number [] = refl
length-numbered number (callback ∷ callbacks) = ap suc (length-numbered (suc number) callbacks)

pub take-numbered : (count number : ℕ) (callbacks : List Callback) → take count (numbered number callbacks) ≡ numbered number (take count callbacks)
take-numbered zero number callbacks = refl
take-numbered (suc count) number [] = refl
take-numbered (suc count) number (callback ∷ callbacks) =
    ap (λ (r : List Numbered). element number callback ∷ r) (take-numbered count (suc number) callbacks)

-- Lists that begin others.

pub length-prefix : {A : Type 0} (one two : List A) → IsPrefix one two → length one ≤ length two
length-prefix one two begins =
    let all = ap length begins.1 in
    let parts = length-append one begins.0 in
    omega arith

pub take-prefix_of : {A : Type 0} (count : ℕ) (one two : List A) → IsPrefix one two → count ≤ length one → take count two ≡ take count one
take-prefix_of count one two begins within =
    sym (ap (take count) begins.1) ∙ take-append-le count one begins.0 within

pub prefix-more : {A : Type 0} (one two more : List A) → IsPrefix one two → IsPrefix one (two ++ more)
prefix-more one two more begins =
    (begins.0 ++ more, sym (append_assoc one begins.0 more) ∙ ap (λ l. l ++ more) begins.1)

pub slice_get-front : {A : Type 0} (front back : List A) (place : ℕ) → place < length front → slice_get (front ++ back) place ≡ slice_get front place
slice_get-front [] back place within = absurd (omega arith)
slice_get-front (x ∷ front) back zero within = refl
slice_get-front (x ∷ front) back (suc place) within = slice_get-front front back place (omega arith)

pub slice_get-seam : {A : Type 0} (front : List A) (x : A) (back : List A) → slice_get (front ++ x ∷ back) (length front) ≡ Some x
slice_get-seam [] x back = refl
slice_get-seam (y ∷ front) x back = slice_get-seam front x back

-- what a list that begins another has at a place
pub prefix-at : {A : Type 0} (known front : List A) (x : A) (back : List A) → IsPrefix known (front ++ x ∷ back) → length front < length known → slice_get known (length front) ≡ Some x
prefix-at known front x back begins within =
    sym (slice_get-front known begins.0 (length front) within) ∙ ap (λ l. slice_get l (length front)) begins.1 ∙ slice_get-seam front x back

longer-by : (which : Bool) (one two all : List Callback) → IsPrefix one all → IsPrefix two all → IsPrefix (cond which two one) all
longer-by which one two all first second =
    elim which as (λ b. IsPrefix (cond b two one) all) [ true ↦ second | false ↦ first ]

pub prefix-longer : (one two all : List Callback) → IsPrefix one all → IsPrefix two all → IsPrefix (longer_of one two) all
prefix-longer one two all first second = longer-by (ltb (length one) (length two)) one two all first second

-- What a pass took.

pub taken_here : (taker : ℕ → ℕ) (pass number : ℕ) (callback : Callback) (callbacks : List Callback) → taker number ≡ pass → taken_by taker pass number (callback ∷ callbacks) ≡ element number callback ∷ taken_by taker pass (suc number) callbacks
taken_here taker pass number callback callbacks is =
    let rest = taken_by taker pass (suc number) callbacks in
    ap (λ (b : Bool). cond b (element number callback ∷ rest) rest) (eq-eqb (taker number) pass is)

pub taken_else : (taker : ℕ → ℕ) (pass number : ℕ) (callback : Callback) (callbacks : List Callback) → taker number ≢ pass → taken_by taker pass number (callback ∷ callbacks) ≡ taken_by taker pass (suc number) callbacks
taken_else taker pass number callback callbacks other =
    let rest = taken_by taker pass (suc number) callbacks in
    ap (λ (b : Bool). cond b (element number callback ∷ rest) rest) (ne_eqb (taker number) pass other)

-- a fact of what is taken, by whether the first goes to the pass
pub taken_cases : (F : List Numbered → Type 0) (taker : ℕ → ℕ) (pass number : ℕ) (callback : Callback) (callbacks : List Callback) → (taker number ≡ pass → F (element number callback ∷ taken_by taker pass (suc number) callbacks)) → (taker number ≢ pass → F (taken_by taker pass (suc number) callbacks)) → F (taken_by taker pass number (callback ∷ callbacks))
taken_cases F taker pass number callback callbacks here other =
    ⊎_elim (λ is. subst F (sym (taken_here taker pass number callback callbacks is)) (here is))
    (λ not. subst F (sym (taken_else taker pass number callback callbacks not)) (other not)) (same_or_not (taker number) pass)

pub taken-below : (taker : ℕ → ℕ) (pass number : ℕ) (callbacks : List Callback) (high : ℕ) → number + length callbacks ≤ high → AllBelow high (taken_by taker pass number callbacks)
taken-below taker pass number [] high le = All-nil (λ x. x.number < high)
taken-below taker pass number (callback ∷ callbacks) high le =
    let Below : Numbered → Type 0 = λ x. x.number < high in
    let rest = taken-below taker pass (suc number) callbacks high (omega arith) in
    taken_cases (λ xs. All Below xs) taker pass number callback callbacks (λ _. All-cons Below (element number callback) (taken_by taker pass (suc number) callbacks) (omega arith) rest) (λ _. rest)

abbrev pub AllAbove : ℕ → List Numbered → Type 0
AllAbove low xs = All (λ x. low < x.number) xs

pub taken-above : (taker : ℕ → ℕ) (pass number : ℕ) (callbacks : List Callback) (low : ℕ) → low < number → AllAbove low (taken_by taker pass number callbacks)
taken-above taker pass number [] low lt = All-nil (λ x. low < x.number)
taken-above taker pass number (callback ∷ callbacks) low lt =
    let Above : Numbered → Type 0 = λ x. low < x.number in
    let rest = taken-above taker pass (suc number) callbacks low (omega arith) in
    taken_cases (λ xs. All Above xs) taker pass number callback callbacks (λ _. All-cons Above (element number callback) (taken_by taker pass (suc number) callbacks) lt rest) (λ _. rest)

pub length-taken : (taker : ℕ → ℕ) (pass number : ℕ) (callbacks : List Callback) → length (taken_by taker pass number callbacks) ≤ length callbacks
length-taken taker pass number [] = omega arith
length-taken taker pass number (callback ∷ callbacks) =
    let rest = length-taken taker pass (suc number) callbacks in
    taken_cases (λ xs. length xs ≤ suc (length callbacks)) taker pass number callback callbacks (λ _. omega arith) (λ _. omega arith)

-- who alone took anything took all
pub taken-alone : (taker : ℕ → ℕ) (pass number : ℕ) (callbacks : List Callback) → ((other : ℕ) → other ≢ pass → taken_by taker other number callbacks ≡ []) → taken_by taker pass number callbacks ≡ numbered number callbacks
taken-alone taker pass number [] none = refl
taken-alone taker pass number (callback ∷ callbacks) none =
    let first = element number callback in
    ⊎_elim
    (λ mine. taken_here taker pass number callback callbacks mine ∙ ap (λ (r : List Numbered). first ∷ r) (taken-alone taker pass (suc number) callbacks (λ other apart. sym (taken_else taker other number callback callbacks (λ is. apart (sym is ∙ mine))) ∙ none other apart)))
    (λ another. absurd (cons-ne-nil first (taken_by taker (taker number) (suc number) callbacks) (sym (taken_here taker (taker number) number callback callbacks refl) ∙ none (taker number) another)))
    (same_or_not (taker number) pass)

-- the next number goes to a pass
abbrev pub after : (ℕ → ℕ) → ℕ → ℕ → ℕ → ℕ
after taker next pass number = cond (eqb number next) pass (taker number)

after-here : (taker : ℕ → ℕ) (next pass number : ℕ) → number ≡ next → after taker next pass number ≡ pass
after-here taker next pass number is = ap (λ (b : Bool). cond b pass (taker number)) (eq-eqb number next is)

after-else : (taker : ℕ → ℕ) (next pass number : ℕ) → number ≢ next → after taker next pass number ≡ taker number
after-else taker next pass number other = ap (λ (b : Bool). cond b pass (taker number)) (ne_eqb number next other)

pub taken-mine : (taker : ℕ → ℕ) (pass number : ℕ) (callbacks : List Callback) (callback : Callback) (next : ℕ) → next ≡ number + length callbacks → taken_by (after taker next pass) pass number (callbacks ++ callback ∷ []) ≡ taken_by taker pass number callbacks ++ element next callback ∷ []
taken-mine taker pass number [] callback next is =
    let same : number ≡ next = omega arith in
    taken_here (after taker next pass) pass number callback [] (after-here taker next pass number same) ∙ ap (λ n. element n callback ∷ []) same
taken-mine taker pass number (one ∷ callbacks) callback next is =
    let last = element next callback in
    let more = taken-mine taker pass (suc number) callbacks callback next (omega arith) in
    let stays = after-else taker next pass number (λ e. omega arith) in
    let all = callbacks ++ callback ∷ [] in
    ⊎_elim
    (λ mine. taken_here (after taker next pass) pass number one all (stays ∙ mine) ∙ ap (λ (r : List Numbered). element number one ∷ r) more ∙ sym (ap (λ (r : List Numbered). r ++ last ∷ []) (taken_here taker pass number one callbacks mine)))
    (λ other. taken_else (after taker next pass) pass number one all (λ e. other (sym stays ∙ e)) ∙ more ∙ sym (ap (λ (r : List Numbered). r ++ last ∷ []) (taken_else taker pass number one callbacks other)))
    (same_or_not (taker number) pass)

-- two functions that send the same numbers to a pass
pub taken-agree : (one two : ℕ → ℕ) (pass number : ℕ) (callbacks : List Callback) → ((n : ℕ) → one n ≡ pass → two n ≡ pass) → ((n : ℕ) → one n ≢ pass → two n ≢ pass) → taken_by two pass number callbacks ≡ taken_by one pass number callbacks
taken-agree one two pass number [] same other = refl
taken-agree one two pass number (callback ∷ callbacks) same other =
    let rest = taken-agree one two pass (suc number) callbacks same other in
    ⊎_elim
    (λ mine. taken_here two pass number callback callbacks (same number mine) ∙ ap (λ (r : List Numbered). element number callback ∷ r) rest ∙ sym (taken_here one pass number callback callbacks mine))
    (λ apart. taken_else two pass number callback callbacks (other number apart) ∙ rest ∙ sym (taken_else one pass number callback callbacks apart))
    (same_or_not (one number) pass)

pub taken-none : (taker : ℕ → ℕ) (pass number : ℕ) (callbacks : List Callback) → ((n : ℕ) → taker n ≢ pass) → taken_by taker pass number callbacks ≡ []
taken-none taker pass number [] other = refl
taken-none taker pass number (callback ∷ callbacks) other =
    taken_else taker pass number callback callbacks (other number) ∙ taken-none taker pass (suc number) callbacks other

-- the next number goes to another pass
pub taken-theirs : (taker : ℕ → ℕ) (pass other number : ℕ) (callbacks : List Callback) (callback : Callback) (next : ℕ) → pass ≢ other → next ≡ number + length callbacks → taken_by (after taker next other) pass number (callbacks ++ callback ∷ []) ≡ taken_by taker pass number callbacks
taken-theirs taker pass other number [] callback next apart is =
    let same : number ≡ next = omega arith in
    taken_else (after taker next other) pass number callback [] (λ e. apart (sym e ∙ after-here taker next other number same))
taken-theirs taker pass other number (one ∷ callbacks) callback next apart is =
    let more = taken-theirs taker pass other (suc number) callbacks callback next apart (omega arith) in
    let stays = after-else taker next other number (λ e. omega arith) in
    let all = callbacks ++ callback ∷ [] in
    ⊎_elim
    (λ mine. taken_here (after taker next other) pass number one all (stays ∙ mine) ∙ ap (λ (r : List Numbered). element number one ∷ r) more ∙ sym (taken_here taker pass number one callbacks mine))
    (λ not. taken_else (after taker next other) pass number one all (λ e. not (sym stays ∙ e)) ∙ more ∙ sym (taken_else taker pass number one callbacks not))
    (same_or_not (taker number) pass)
