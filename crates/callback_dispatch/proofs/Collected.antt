-- What workers took, as it is collected.
use Rattle.std.proofs.Common.{◌≡◌, ℕ, ◌+◌, ◌≤◌, IsPermutation, List, [], ◌∷◌, ◌++◌, length, length-append, sym, ap, subst, ◌∙◌, append-nil, append_assoc, arith}
use Rattle.std.proofs.lemmas.List.Elements.{All-same, All-push}
use Rattle.std.proofs.lemmas.List.Sorted.{length_permutation, IsPermutation-trans, IsPermutation-append_right, IsPermutation-append_comm}
use Rattle.callback_dispatch.specs.declared.numbered.Numbered.{Numbered}
use Rattle.callback_dispatch.specs.Crew.{Buffer, gathered, IsFree, AreFree}
use Rattle.callback_dispatch.proofs.Crews.{same_permutes, gathered-more}

-- one more buffer is free
pub free_more : (places : ℕ) (buffers more : List Buffer) (buffer : Buffer) → AreFree places buffers → IsFree places buffer → more ≡ buffers ++ buffer ∷ [] → AreFree places more
free_more places buffers more buffer all free is =
    All-same (IsFree places) more (buffers ++ buffer ∷ []) is (All-push (IsFree places) buffers buffer all free)

pub none_collected : (all answer : List Numbered) → answer ≡ [] → IsPermutation all (answer ++ all)
none_collected all answer none = same_permutes all (answer ++ all) (ap (λ (l : List Numbered). l ++ all) none)

-- what the last buffer has comes to the answer
pub collected_more : (all answer more : List Numbered) (buffers left : List Buffer) (buffer : Buffer) → IsPermutation all (answer ++ gathered buffers) → buffers ≡ left ++ buffer ∷ [] → more ≡ answer ++ buffer.items → IsPermutation all (more ++ gathered left)
collected_more all answer more buffers left buffer so_far last moved =
    let rest = gathered left in
    let old : answer ++ gathered buffers ≡ answer ++ (rest ++ buffer.items) = ap (λ (l : List Numbered). answer ++ l) (gathered-more left buffers buffer last) in
    let new : answer ++ (buffer.items ++ rest) ≡ more ++ rest = sym (append_assoc answer buffer.items rest) ∙ ap (λ (l : List Numbered). l ++ rest) (sym moved) in
    let turned = IsPermutation-append_right answer (rest ++ buffer.items) (buffer.items ++ rest) (IsPermutation-append_comm rest buffer.items) in
    IsPermutation-trans all (answer ++ (rest ++ buffer.items)) (more ++ rest) (subst (IsPermutation all) old so_far) (subst (IsPermutation (answer ++ (rest ++ buffer.items))) new turned)

-- the last buffer has its places in the answer
pub buffer_fits : (all answer : List Numbered) (buffers left : List Buffer) (buffer : Buffer) (capacity : ℕ) → IsPermutation all (answer ++ gathered buffers) → buffers ≡ left ++ buffer ∷ [] → length all ≤ capacity → length answer + length buffer.items ≤ capacity
buffer_fits all answer buffers left buffer capacity so_far last fits =
    let both = length_permutation all (answer ++ gathered buffers) so_far in
    let parts = length-append answer (gathered buffers) in
    let more = ap length (gathered-more left buffers buffer last) in
    let long = length-append (gathered left) buffer.items in
    omega arith

pub all_collected : (all answer : List Numbered) (buffers : List Buffer) → IsPermutation all (answer ++ gathered buffers) → buffers ≡ [] → IsPermutation all answer
all_collected all answer buffers so_far none =
    subst (IsPermutation all) (ap (λ (b : List Buffer). answer ++ gathered b) none ∙ append-nil answer) so_far

pub all_long : (all answer : List Numbered) (buffers : List Buffer) → IsPermutation all (answer ++ gathered buffers) → buffers ≡ [] → length answer ≡ length all
all_long all answer buffers so_far none =
    let both = length_permutation all answer (all_collected all answer buffers so_far none) in
    omega arith
