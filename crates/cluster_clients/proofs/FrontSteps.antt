-- The reply to a call is looked for among the strings of the net that begin as it does.
use Rattle.std.proofs.Common.{◌≡◌, ℕ, zero, suc, ◌-◌, ◌<◌, ◌≤◌, Bool, true, ◌==◌, if◌then◌else◌, Option, Some, None, List, [], ◌∷◌, length, take, nat_eq, refl, ap, sym, ◌∙◌, subst, arith}
use Rattle.std.specs.Prelude.{unwrap_or}
use Rattle.std.specs.List.{starts_with}
use Rattle.std.specs.Str.{bytes_eq}
use Rattle.std.specs.Cmp.Lexicographic.{bytes_decides}
use Rattle.message_net.specs.Nets.{bytes_at, front_of, newest_with, net_before}
use Rattle.cluster_facts.proofs.Words.{by_test}
use Rattle.cluster_clients.specs.Replies.{IsReplyIn, FindsFirst}
use Rattle.cluster_clients.specs.Replies.FindsFirst.{Nothing, Passed}
use Rattle.cluster_clients.proofs.ReplySteps.{oldest, oldest-all, older, FindsBelow, finds-passed}

front_of-take : (bytes : List ℕ) → front_of (take 7 bytes) ≡ front_of bytes
front_of-take [] = refl
front_of-take (a ∷ []) = refl
front_of-take (a ∷ b ∷ []) = refl
front_of-take (a ∷ b ∷ c ∷ []) = refl
front_of-take (a ∷ b ∷ c ∷ d ∷ []) = refl
front_of-take (a ∷ b ∷ c ∷ d ∷ e ∷ []) = refl
front_of-take (a ∷ b ∷ c ∷ d ∷ e ∷ f ∷ []) = refl
front_of-take (a ∷ b ∷ c ∷ d ∷ e ∷ f ∷ g ∷ bytes) = refl

-- a string that begins with seven bytes has their front
same-front : (front bytes : List ℕ) → length front ≡ 7 → starts_with nat_eq bytes front ≡ true → front_of bytes ≡ front_of front
same-front front bytes long begins =
    let is : bytes_eq front (take 7 bytes) ≡ true = sym (ap (λ n. bytes_eq front (take n bytes)) long) ∙ begins in
    sym (front_of-take bytes) ∙ sym (ap front_of ((bytes_decides front (take 7 bytes)).0 is))

-- a string of another front is no reply to the call
other-front : (front bytes : List ℕ) → length front ≡ 7 → ((front_of bytes ≡ front_of front) → ⊥) → IsReplyIn front bytes None
other-front front bytes long apart begins message spells = apart (same-front front bytes long begins)

-- where the search is: at a place below which all is left to be looked at, or at its end
pub record IsOpen (front : List ℕ) (net : List (List ℕ)) (place : ℕ) : Type 0 where
  pub some : 0 < place
  pub within : place ≤ length net
  pub same : (bytes : List ℕ) → bytes_at place net ≡ Some bytes → front_of bytes ≡ front_of front
  pub below : FindsBelow front place net

abbrev pub Searches : List ℕ → List (List ℕ) → Option ℕ → Type 0
Searches front net None = FindsFirst front net None
Searches front net (Some place) = IsOpen front net place

same_bytes : (one other : List ℕ) → Some one ≡ Some other → one ≡ other
same_bytes one other is = cc

bytes_at-older : (place : ℕ) (bytes : List ℕ) (net : List (List ℕ)) → place ≤ length net → bytes_at place (bytes ∷ net) ≡ bytes_at place net
bytes_at-older place bytes net within =
    let P : Bool → Type 0 = λ b. (if b then Some bytes else bytes_at place net) ≡ bytes_at place net in
    by_test P place (suc (length net)) (λ same. absurd (omega arith)) (λ different. refl)

past : (front bytes : List ℕ) (net : List (List ℕ)) (next : Option ℕ) → IsReplyIn front bytes None → Searches front net next → Searches front (bytes ∷ net) next
past front bytes net None other finds = Passed bytes other finds
past front bytes net (Some place) other goes = record {
  some = goes.some;
  within = let within = goes.within in omega arith;
  same = λ there is. goes.same there (sym (bytes_at-older place bytes net goes.within) ∙ is);
  below = λ found finds. Passed bytes other (goes.below found (subst (λ n. FindsFirst front n found) (older place bytes net goes.within) finds));
}

-- the search begins at the newest string of the front
pub searches-newest : (front : List ℕ) (net : List (List ℕ)) (next : Option ℕ) → length front ≡ 7 → next ≡ newest_with (front_of front) net → Searches front net next
searches-newest front [] next long is = subst (Searches front []) (sym is) Nothing
searches-newest front (bytes ∷ net) next long is =
    let P : Bool → Type 0 = λ b. Searches front (bytes ∷ net) (if b then Some (suc (length net)) else newest_with (front_of front) net) in
    let found : P (front_of bytes == front_of front) = by_test P (front_of bytes) (front_of front)
    (λ same. record {
      some = omega arith;
      within = omega arith;
      same = λ there at.
          let Q : Bool → Type 0 = λ b. (if b then Some bytes else bytes_at (suc (length net)) net) ≡ Some there → front_of there ≡ front_of front in
          by_test Q (suc (length net)) (suc (length net)) (λ top here. sym (ap front_of (same_bytes bytes there here)) ∙ same) (λ different here. absurd (different refl)) at;
      below = λ found finds. subst (λ n. FindsFirst front n found) (oldest-all (bytes ∷ net)) finds;
    })
    (λ different. past front bytes net (newest_with (front_of front) net) (other-front front bytes long different) (searches-newest front net (newest_with (front_of front) net) long refl)) in
    subst (Searches front (bytes ∷ net)) (sym is) found

-- The strings before a place.

before-oldest : (place : ℕ) (net : List (List ℕ)) → suc place ≤ length net → net_before (suc place) net ≡ oldest place net
before-oldest place [] within = refl
before-oldest place (bytes ∷ net) within =
    let P : Bool → Type 0 = λ b. (if b then net else net_before (suc place) net) ≡ oldest place (bytes ∷ net) in
    by_test P (suc place) (suc (length net))
    (λ same.
    let all : place ≡ length net = omega arith in
    sym (older place bytes net (omega arith) ∙ ap (λ n. oldest n net) all ∙ oldest-all net))
    (λ different. before-oldest place net (omega arith) ∙ sym (older place bytes net (omega arith)))

length-oldest : (count : ℕ) (net : List (List ℕ)) → count ≤ length net → length (oldest count net) ≡ count
length-oldest count [] within = omega arith
length-oldest count (bytes ∷ net) within =
    let P : Bool → Type 0 = λ b. length (if b then bytes ∷ net else oldest count net) ≡ count in
    by_test P count (suc (length net)) (λ same. omega arith) (λ different. length-oldest count net (omega arith))

oldest-oldest : (place count : ℕ) (net : List (List ℕ)) → place ≤ count → count ≤ length net → oldest place (oldest count net) ≡ oldest place net
oldest-oldest place count [] under within = refl
oldest-oldest place count (bytes ∷ net) under within =
    let P : Bool → Type 0 = λ b. oldest place (if b then bytes ∷ net else oldest count net) ≡ oldest place (bytes ∷ net) in
    by_test P count (suc (length net)) (λ same. refl) (λ different. oldest-oldest place count net under (omega arith) ∙ sym (older place bytes net (omega arith)))

bytes_at-oldest : (place count : ℕ) (net : List (List ℕ)) → place ≤ count → count ≤ length net → bytes_at place (oldest count net) ≡ bytes_at place net
bytes_at-oldest place count [] under within = refl
bytes_at-oldest place count (bytes ∷ net) under within =
    let P : Bool → Type 0 = λ b. bytes_at place (if b then bytes ∷ net else oldest count net) ≡ bytes_at place (bytes ∷ net) in
    by_test P count (suc (length net)) (λ same. refl) (λ different. bytes_at-oldest place count net under (omega arith) ∙ sym (bytes_at-older place bytes net (omega arith)))

-- what is found among the oldest strings is found in all
widened : (front : List ℕ) (net : List (List ℕ)) (count : ℕ) (next : Option ℕ) → count ≤ length net → FindsBelow front count net → Searches front (oldest count net) next → Searches front net next
widened front net count None within so_far finds = so_far None finds
widened front net count (Some place) within so_far goes =
    let long = length-oldest count net within in
    let low = goes.within in
    let under : place ≤ count = omega arith in
    record {
      some = goes.some;
      within = omega arith;
      same = λ bytes at. goes.same bytes (bytes_at-oldest place count net under within ∙ at);
      below = λ found finds. so_far found (goes.below found (subst (λ n. FindsFirst front n found) (sym (oldest-oldest place count net under within)) finds));
    }

-- the search goes on below a string that is none
pub searches-on : (front : List ℕ) (net : List (List ℕ)) (place : ℕ) (bytes : List ℕ) (next : Option ℕ) → length front ≡ 7 → IsOpen front net place → bytes_at place net ≡ Some bytes → IsReplyIn front bytes None → next ≡ newest_with (front_of bytes) (net_before place net) → Searches front net next
searches-on front net zero bytes next long goes at none is = absurd (let some = goes.some in omega arith)
searches-on front net (suc place) bytes next long goes at none is =
    let within = goes.within in
    let passed : FindsBelow front (suc place - 1) net = finds-passed front (suc place) net bytes goes.some at none goes.below in
    let less : suc place - 1 ≡ place = omega arith in
    let so_far : FindsBelow front place net = subst (λ p. FindsBelow front p net) less passed in
    let newest : next ≡ newest_with (front_of front) (oldest place net) = is ∙ ap (λ f. newest_with f (net_before (suc place) net)) (goes.same bytes at) ∙ ap (newest_with (front_of front)) (before-oldest place net within) in
    widened front net place next (omega arith) so_far (searches-newest front (oldest place net) next long newest)

-- places fall
pub newest-within : (front : ℕ) (net : List (List ℕ)) (place : ℕ) → newest_with front net ≡ Some place → place ≤ length net
newest-within front [] place is = (let e : None ≡ Some place = is in cc)
newest-within front (bytes ∷ net) place is =
    let P : Bool → Type 0 = λ b. (if b then Some (suc (length net)) else newest_with front net) ≡ Some place → place ≤ suc (length net) in
    by_test P (front_of bytes) front (λ same here. let top : suc (length net) ≡ place = cc in omega arith) (λ different there. let deeper = newest-within front net place there in omega arith) is

-- each place is below the one before it
pub falls : (front : ℕ) (net : List (List ℕ)) (place : ℕ) (next old : Option ℕ) → old ≡ Some place → 0 < place → place ≤ length net → next ≡ newest_with front (net_before place net) → unwrap_or next 0 < unwrap_or old 0
falls front net zero next old was some within is = absurd (omega arith)
falls front net (suc place) next old was some within is =
    let top : unwrap_or old 0 ≡ suc place = ap (λ (o : Option ℕ). unwrap_or o 0) was in
    let long : length (net_before (suc place) net) ≡ place = ap length (before-oldest place net within) ∙ length-oldest place net (omega arith) in
    let P : Option ℕ → Type 0 = λ n. n ≡ newest_with front (net_before (suc place) net) → unwrap_or n 0 < suc place in
    let cases : (n : Option ℕ) → P n = elim [
      | None ↦ λ none. omega arith
      | Some there ↦ λ found. let low = newest-within front (net_before (suc place) net) there (sym found) in omega arith
    ] in
    let under = cases next is in
    omega arith
