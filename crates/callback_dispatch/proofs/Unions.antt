-- Lists joined by number.
use Rattle.std.proofs.Common.{◌≡◌, ◌≢◌, ℕ, suc, ◌<◌, Bool, true, false, cond, eqb, ⊎_elim, IsPermutation, List, [], ◌∷◌, ◌++◌, ltb, lt-ltb, le-ltb, eq-eqb, ne_eqb, refl, sym, ap, ◌∙◌, arith}
use Rattle.std.proofs.lemmas.List.Elements.{All-head, All-tail}
use Rattle.std.proofs.lemmas.List.Sorted.{IsPermutation-refl, IsPermutation-trans, IsPermutation-cons, IsPermutation-append_left, IsPermutation-append_comm}
use Rattle.calls.specs.declared.reply.Callback.{Callback}
use Rattle.callback_dispatch.specs.declared.numbered.Numbered.{Numbered}
use Rattle.callback_dispatch.specs.Seen.{element, put_by_number, union}
use Rattle.callback_dispatch.specs.Rule.{taken_by}
use Rattle.callback_dispatch.proofs.Elements.{same_or_not, AllAbove, taken_here, taken_else, taken-above, taken-agree, taken-none}

put_before : (x : Numbered) (ys : List Numbered) → AllAbove x.number ys → put_by_number x ys ≡ x ∷ ys
put_before x [] above = refl
put_before x (y ∷ ys) above =
    let first : x.number < y.number = All-head (λ z. x.number < z.number) y ys above in
    ap (λ (b : Bool). cond b (y ∷ put_by_number x ys) (x ∷ y ∷ ys)) (le-ltb y.number x.number (omega arith))

put_behind : (x y : Numbered) (ys : List Numbered) → y.number < x.number → put_by_number x (y ∷ ys) ≡ y ∷ put_by_number x ys
put_behind x y ys lt = ap (λ (b : Bool). cond b (y ∷ put_by_number x ys) (x ∷ y ∷ ys)) (lt-ltb y.number x.number lt)

union-later : (one : List Numbered) (y : Numbered) (two : List Numbered) → AllAbove y.number one → union one (y ∷ two) ≡ y ∷ union one two
union-later [] y two above = refl
union-later (x ∷ one) y two above =
    let Above : Numbered → Type 0 = λ z. y.number < z.number in
    ap (put_by_number x) (union-later one y two (All-tail Above x one above)) ∙ put_behind x y (union one two) (All-head Above x one above)

-- what went to one pass goes to another
abbrev pub handed : (ℕ → ℕ) → ℕ → ℕ → ℕ → ℕ
handed taker from to number = cond (eqb (taker number) from) to (taker number)

handed-from : (taker : ℕ → ℕ) (from to number : ℕ) → taker number ≡ from → handed taker from to number ≡ to
handed-from taker from to number is = ap (λ (b : Bool). cond b to (taker number)) (eq-eqb (taker number) from is)

handed-else : (taker : ℕ → ℕ) (from to number : ℕ) → taker number ≢ from → handed taker from to number ≡ taker number
handed-else taker from to number other = ap (λ (b : Bool). cond b to (taker number)) (ne_eqb (taker number) from other)

-- what two passes took, joined, is what one takes to whom both their parts go
pub union-taken : (taker : ℕ → ℕ) (pass other number : ℕ) (callbacks : List Callback) → other ≢ pass → union (taken_by taker pass number callbacks) (taken_by taker other number callbacks) ≡ taken_by (handed taker other pass) pass number callbacks
union-taken taker pass other number [] apart = refl
union-taken taker pass other number (callback ∷ callbacks) apart =
    let first = element number callback in
    let mine = taken_by taker pass (suc number) callbacks in
    let theirs = taken_by taker other (suc number) callbacks in
    let both = handed taker other pass in
    let rest = union-taken taker pass other (suc number) callbacks apart in
    let above = taken-above both pass (suc number) callbacks number (omega arith) in
    ⊎_elim
    (λ (is : taker number ≡ pass).
    let not : taker number ≢ other = λ e. apart (sym e ∙ is) in
    ap (λ l. union l (taken_by taker other number (callback ∷ callbacks))) (taken_here taker pass number callback callbacks is)
    ∙ ap (λ l. put_by_number first (union mine l)) (taken_else taker other number callback callbacks not)
    ∙ ap (put_by_number first) rest
    ∙ put_before first (taken_by both pass (suc number) callbacks) above
    ∙ sym (taken_here both pass number callback callbacks (handed-else taker other pass number not ∙ is)))
    (λ (not_mine : taker number ≢ pass).
    ap (λ l. union l (taken_by taker other number (callback ∷ callbacks))) (taken_else taker pass number callback callbacks not_mine)
    ∙ ⊎_elim
    (λ (is : taker number ≡ other).
    ap (union mine) (taken_here taker other number callback callbacks is)
    ∙ union-later mine first theirs (taken-above taker pass (suc number) callbacks number (omega arith))
    ∙ ap (λ (r : List Numbered). first ∷ r) rest
    ∙ sym (taken_here both pass number callback callbacks (handed-from taker other pass number is)))
    (λ (not : taker number ≢ other).
    ap (union mine) (taken_else taker other number callback callbacks not)
    ∙ rest
    ∙ sym (taken_else both pass number callback callbacks (λ e. not_mine (sym (handed-else taker other pass number not) ∙ e))))
    (same_or_not (taker number) other))
    (same_or_not (taker number) pass)

pub taken-handed_else : (taker : ℕ → ℕ) (pass other third number : ℕ) (callbacks : List Callback) → third ≢ pass → third ≢ other → taken_by (handed taker other pass) third number callbacks ≡ taken_by taker third number callbacks
taken-handed_else taker pass other third number callbacks not_pass not_other =
    taken-agree taker (handed taker other pass) third number callbacks
    (λ n is. handed-else taker other pass n (λ e. not_other (sym is ∙ e)) ∙ is)
    (λ n not is. ⊎_elim (λ e. not_pass (sym is ∙ handed-from taker other pass n e)) (λ e. not (sym (handed-else taker other pass n e) ∙ is)) (same_or_not (taker n) other))

pub taken-handed_from : (taker : ℕ → ℕ) (pass other number : ℕ) (callbacks : List Callback) → other ≢ pass → taken_by (handed taker other pass) other number callbacks ≡ []
taken-handed_from taker pass other number callbacks apart =
    taken-none (handed taker other pass) other number callbacks
    (λ n is. ⊎_elim (λ e. apart (sym is ∙ handed-from taker other pass n e)) (λ e. e (sym (handed-else taker other pass n e) ∙ is)) (same_or_not (taker n) other))

-- A union has the elements of both.

put-permutes : (x : Numbered) (ys : List Numbered) → IsPermutation (x ∷ ys) (put_by_number x ys)
put-permutes x [] = IsPermutation-refl (x ∷ [])
put-permutes x (y ∷ ys) =
    let swapped = IsPermutation-append_left ys (x ∷ y ∷ []) (y ∷ x ∷ []) (IsPermutation-append_comm (x ∷ []) (y ∷ [])) in
    let behind = IsPermutation-trans (x ∷ y ∷ ys) (y ∷ x ∷ ys) (y ∷ put_by_number x ys) swapped (IsPermutation-cons y (x ∷ ys) (put_by_number x ys) (put-permutes x ys)) in
    elim (ltb y.number x.number) as (λ b. IsPermutation (x ∷ y ∷ ys) (cond b (y ∷ put_by_number x ys) (x ∷ y ∷ ys))) [
      | true ↦ behind
      | false ↦ IsPermutation-refl (x ∷ y ∷ ys)
    ]

pub union-permutes : (one two : List Numbered) → IsPermutation (one ++ two) (union one two)
union-permutes [] two = IsPermutation-refl two
union-permutes (x ∷ one) two =
    IsPermutation-trans (x ∷ (one ++ two)) (x ∷ union one two) (put_by_number x (union one two)) (IsPermutation-cons x (one ++ two) (union one two) (union-permutes one two)) (put-permutes x (union one two))
