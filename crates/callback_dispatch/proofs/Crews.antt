-- What workers took together.
use Rattle.std.proofs.Common.{◌≡◌, ℕ, ◌+◌, ◌≤◌, IsPermutation, true, false, cond, ltb, List, [], ◌∷◌, ◌++◌, length, take, drop, take_all, take-append-drop, length-append, sym, ap, subst, ◌∙◌, append-nil, append_assoc, arith}
use Rattle.std.proofs.lemmas.Grind.{flat_map-append}
use Rattle.std.proofs.lemmas.List.Sorted.{length_permutation, IsPermutation-refl, IsPermutation-sym, IsPermutation-trans, IsPermutation-append_left, IsPermutation-append_right}
use mathlib.Core.List.{IsPrefix}
use Rattle.callback_dispatch.specs.declared.numbered.Numbered.{Numbered}
use Rattle.calls.specs.declared.reply.Callback.{Callback}
use Rattle.callback_dispatch.specs.Seen.{numbered, union, longer_of}
use Rattle.callback_dispatch.specs.Crew.{Buffer, gathered, TookMore}
use Rattle.callback_dispatch.proofs.Elements.{length-numbered, length-prefix}
use Rattle.callback_dispatch.proofs.Unions.{union-permutes}

pub same_permutes : (xs ys : List Numbered) → ys ≡ xs → IsPermutation xs ys
same_permutes xs ys same = subst (IsPermutation xs) (sym same) (IsPermutation-refl xs)

pub gathered-more : (buffers more : List Buffer) (buffer : Buffer) → more ≡ buffers ++ buffer ∷ [] → gathered more ≡ gathered buffers ++ buffer.items
gathered-more buffers more buffer is =
    ap gathered is ∙ flat_map-append (λ (r : Buffer). r.items) buffers (buffer ∷ []) ∙ ap (λ l. gathered buffers ++ l) (append-nil buffer.items)

-- no worker
pub none_took : (list : List Numbered) (buffers : List Buffer) → buffers ≡ [] → IsPermutation (list ++ gathered buffers) list
none_took list buffers none = same_permutes (list ++ gathered buffers) list (sym (ap (λ (r : List Buffer). list ++ gathered r) none ∙ append-nil list))

-- a worker alone
pub one_took : (list new : List Numbered) (buffers more : List Buffer) (buffer : Buffer) → buffers ≡ [] → more ≡ buffers ++ buffer ∷ [] → new ≡ list ++ buffer.items → IsPermutation (list ++ gathered more) new
one_took list new buffers more buffer none is took =
    let all : gathered more ≡ buffer.items = gathered-more buffers more buffer is ∙ ap (λ (r : List Buffer). gathered r ++ buffer.items) none in
    same_permutes (list ++ gathered more) new (took ∙ sym (ap (λ (l : List Numbered). list ++ l) all))

-- a worker beside others
pub both_took : (list old other mine theirs new : List Numbered) (buffers more : List Buffer) (buffer : Buffer) → more ≡ buffers ++ buffer ∷ [] → other ≡ [] → mine ≡ other ++ buffer.items → old ≡ list → IsPermutation (old ++ gathered buffers) theirs → new ≡ union theirs mine → IsPermutation (list ++ gathered more) new
both_took list old other mine theirs new buffers more buffer is empty took same others joined =
    let own : mine ≡ buffer.items = took ∙ ap (λ (l : List Numbered). l ++ buffer.items) empty in
    let all : list ++ gathered more ≡ (old ++ gathered buffers) ++ mine = ap (λ (l : List Numbered). list ++ l) (gathered-more buffers more buffer is) ∙ sym (append_assoc list (gathered buffers) buffer.items) ∙ ap (λ (l : List Numbered). (l ++ gathered buffers) ++ buffer.items) (sym same) ∙ ap (λ (l : List Numbered). (old ++ gathered buffers) ++ l) (sym own) in
    let first = IsPermutation-append_left mine (old ++ gathered buffers) theirs others in
    let whole = IsPermutation-trans ((old ++ gathered buffers) ++ mine) (theirs ++ mine) (union theirs mine) first (union-permutes theirs mine) in
    subst (λ (y : List Numbered × List Numbered). IsPermutation y.0 y.1) (λ i. (sym all i, sym joined i)) whole

-- takers that know the same know it when they are joined
pub joined_known : (one two known new : List Callback) → new ≡ longer_of one two → one ≡ known → two ≡ known → new ≡ known
joined_known one two known new joined first second =
    joined ∙ elim (ltb (length one) (length two)) as (λ b. cond b two one ≡ known) [ true ↦ second | false ↦ first ]

pub took_nothing : (list answer : List Numbered) → TookMore list answer list answer
took_nothing list answer = ([], sym (append-nil list), sym (append-nil answer))

pub took_one_more : (list answer one two : List Numbered) (x : Numbered) (new_one new_two : List Numbered) → TookMore list answer one two → new_one ≡ one ++ x ∷ [] → new_two ≡ two ++ x ∷ [] → TookMore list answer new_one new_two
took_one_more list answer one two x new_one new_two so_far is also = (
  so_far.0 ++ x ∷ [],
  is ∙ ap (λ (l : List Numbered). l ++ x ∷ []) so_far.1 ∙ append_assoc list so_far.0 (x ∷ []),
  also ∙ ap (λ (l : List Numbered). l ++ x ∷ []) so_far.2 ∙ append_assoc answer so_far.0 (x ∷ []),
)

-- where nothing waits, all that is known was taken
pub known_taken : (known new_known : List Callback) (list new_list : List Numbered) → IsPrefix (numbered 1 known) list → new_known ≡ known → new_list ≡ list → length new_known ≤ length new_list
known_taken known new_known list new_list begins told same =
    let within = length-prefix (numbered 1 known) list begins in
    let long = length-numbered 1 known in
    let one = ap length told in
    let two = ap length same in
    omega arith

-- what is as long as what was fed, and its beginning, is all of it
pub all_taken : (fed told known : List Callback) (list new : List Numbered) → new ≡ numbered 1 (take (length new) told) → new ≡ list → known ≡ told → told ≡ fed → length known ≤ length list → new ≡ numbered 1 fed
all_taken fed told known list new is same knows still enough =
    let one = ap length same in
    let two = ap length knows in
    is ∙ ap (numbered 1) (take_all (length new) told (omega arith) ∙ still)

pub all_counted : (fed told known : List Callback) (list new : List Numbered) (count : ℕ) → count ≡ length new → new ≡ numbered 1 (take (length new) told) → new ≡ list → known ≡ told → told ≡ fed → length known ≤ length list → count ≡ length fed
all_counted fed told known list new count counted is same knows still enough =
    counted ∙ ap length (all_taken fed told known list new is same knows still enough) ∙ length-numbered 1 fed

-- what was taken fits where there is room for all that waited
pub took_waiting : (fed : List Callback) (before list new taken : List Numbered) (count waiting room : ℕ) → new ≡ numbered 1 (take (length new) fed) → new ≡ list → IsPermutation (before ++ taken) list → count ≡ length taken → length fed ≤ length before + waiting → waiting ≤ room → count ≤ room
took_waiting fed before list new taken count waiting room is same shuffled counted enough fits =
    let long = length-numbered 1 (take (length new) fed) in
    let whole = ap length is in
    let again = ap length same in
    let within = length-prefix (take (length new) fed) fed (drop (length new) fed, take-append-drop (length new) fed) in
    let both = length_permutation (before ++ taken) list shuffled in
    let parts = length-append before taken in
    omega arith

pub length_together : (before taken list new : List Numbered) (count : ℕ) → IsPermutation (before ++ taken) list → count ≡ length taken → new ≡ list → length new ≡ length before + count
length_together before taken list new count shuffled counted same =
    let again = ap length same in
    let both = length_permutation (before ++ taken) list shuffled in
    let parts = length-append before taken in
    omega arith

pub took_same : (before taken given list new : List Numbered) → IsPermutation (before ++ taken) list → IsPermutation taken given → new ≡ list → IsPermutation (before ++ given) new
took_same before taken given list new shuffled merged same =
    let back = IsPermutation-append_right before given taken (IsPermutation-sym taken given merged) in
    subst (IsPermutation (before ++ given)) (sym same) (IsPermutation-trans (before ++ given) (before ++ taken) list back shuffled)

-- the rest that one taker takes comes behind what the workers took
pub took_rest : (fed told known : List Callback) (before taken list left new more : List Numbered) → IsPermutation (before ++ taken) list → TookMore list taken left more → new ≡ numbered 1 (take (length new) told) → new ≡ left → known ≡ told → told ≡ fed → length known ≤ length left → IsPermutation (before ++ more) (numbered 1 fed)
took_rest fed told known before taken list left new more shuffled took is same knows still enough =
    let rest = took.0 in
    let whole : left ≡ numbered 1 fed = sym same ∙ all_taken fed told known left new is same knows still enough in
    let one : (before ++ taken) ++ rest ≡ before ++ more = append_assoc before taken rest ∙ ap (λ (l : List Numbered). before ++ l) (sym took.2) in
    let two : list ++ rest ≡ numbered 1 fed = sym took.1 ∙ whole in
    subst (λ (y : List Numbered × List Numbered). IsPermutation y.0 y.1) (λ i. (one i, two i)) (IsPermutation-append_left rest (before ++ taken) list shuffled)
