-- What stands where the windows of lower clients end, among windows of rising clients.
use Rattle.std.proofs.Common.{◌≡◌, ◌≢◌, ℕ, zero, suc, ◌<◌, ◌≤◌, ◌==◌, nat_lt, Bool, true, false, cond, Some, None, List, [], ◌∷◌, length, get_or, refl, ap, sym, ◌∙◌, arith}
use Rattle.std.specs.Prelude.{find}
use Rattle.std.specs.List.Sorted.{IsNonDecreasingBy}
use Rattle.std.proofs.lemmas.Bool.{ltb-true}
use Rattle.std.proofs.lemmas.Bool.Decides.{nat_tests}
use Rattle.std.proofs.lemmas.List.{get_or_default}
use Rattle.calls.specs.declared.saved.SavedWindow.{SavedWindow}
use Rattle.client_set.specs.Rising.{ComesFirst, IsRising}
use Rattle.saved_fit.specs.Asking.{clients_of, IsCutAt}

abbrev pub is_for : ℕ → SavedWindow → Bool
is_for client window = window.client == client

-- Clients never fall.

first-least : (client : ℕ) (windows : List SavedWindow) (place : ℕ) (d : SavedWindow) → ComesFirst nat_lt client (clients_of windows) → place < length windows → client ≤ (get_or windows place d).client
first-least client [] place d first within = absurd (omega (arith, within))
first-least client (window ∷ windows) zero d first within =
    let less = ltb-true client window.client first.0 in
    omega (arith, less)
first-least client (window ∷ windows) (suc place) d first within = first-least client windows place d first.1 (omega (arith, within))

pub never-falling : (windows : List SavedWindow) → IsRising nat_lt (clients_of windows) → IsNonDecreasingBy (λ (window : SavedWindow). window.client) windows
never-falling [] rising i j d order within = absurd (omega (arith, within))
never-falling (window ∷ windows) rising zero zero d order within = omega arith
never-falling (window ∷ windows) rising zero (suc j) d order within = first-least window.client windows j d rising.0 (omega (arith, within))
never-falling (window ∷ windows) rising (suc i) zero d order within = absurd (omega (arith, order))
never-falling (window ∷ windows) rising (suc i) (suc j) d order within = never-falling windows rising.1 i j d (omega (arith, order)) (omega (arith, within))

-- The window at the place, and none there.

below-apart : (x client : ℕ) → nat_lt x client ≡ true → (x == client) ≡ false
below-apart x client low = grind (arith, nat_tests)

above-from : (x client : ℕ) → nat_lt x client ≡ false → (x == client) ≡ false → nat_lt client x ≡ true
above-from x client low apart = grind (arith, nat_tests)

above-onward : (client x y : ℕ) → nat_lt client x ≡ true → nat_lt x y ≡ true → nat_lt client y ≡ true
above-onward client x y one two = grind (arith, nat_tests)

above-apart : (client x : ℕ) → nat_lt client x ≡ true → (x == client) ≡ false
above-apart client x above = grind (arith, nat_tests)

same-for : (x client : ℕ) → x ≡ client → (x == client) ≡ true
same-for x client same = grind (arith, nat_tests)

other-for : (x client : ℕ) → x ≢ client → (x == client) ≡ false
other-for x client other = grind (arith, nat_tests)

rest-cut : (client place : ℕ) (window : SavedWindow) (windows : List SavedWindow) → IsCutAt client (suc place) (window ∷ windows) → IsCutAt client place windows
rest-cut client place window windows cut =
    (λ k d low high. cut.0 (suc k) d (omega arith) (omega arith), λ k d low high. cut.1 (suc k) d (omega arith) (omega arith))

pub found-at : (client place : ℕ) (windows : List SavedWindow) (one : SavedWindow) → IsCutAt client place windows → place < length windows → one ≡ get_or windows place one → one.client ≡ client → Some one ≡ find (is_for client) windows
found-at client place [] one cut within is own = absurd (omega (arith, within))
found-at client zero (window ∷ windows) one cut within is own =
    let here : is_for client window ≡ true = sym (ap (is_for client) is) ∙ same-for one.client client own in
    ap Some is ∙ sym (ap (λ b. cond b (Some window) (find (is_for client) windows)) here)
found-at client (suc place) (window ∷ windows) one cut within is own =
    let low : nat_lt window.client client ≡ true = cut.0 0 window (omega arith) (omega arith) in
    found-at client place windows one (rest-cut client place window windows cut) (omega (arith, within)) is own
    ∙ sym (ap (λ b. cond b (Some window) (find (is_for client) windows)) (below-apart window.client client low))

-- behind a window of a higher client there is none of the client
none-behind : (client above : ℕ) (windows : List SavedWindow) → nat_lt client above ≡ true → ComesFirst nat_lt above (clients_of windows) → find (is_for client) windows ≡ None
none-behind client above [] high first = refl
none-behind client above (window ∷ windows) high first =
    let here = above-onward client above window.client high first.0 in
    ap (λ b. cond b (Some window) (find (is_for client) windows)) (above-apart client window.client here)
    ∙ none-behind client above windows high first.1

pub none-there : (client place : ℕ) (windows : List SavedWindow) → IsRising nat_lt (clients_of windows) → IsCutAt client place windows → ((d : SavedWindow) → place < length windows → is_for client (get_or windows place d) ≡ false) → None ≡ find (is_for client) windows
none-there client place [] rising cut other = refl
none-there client zero (window ∷ windows) rising cut other =
    let least : nat_lt window.client client ≡ false = cut.1 0 window (omega arith) (omega arith) in
    let apart : is_for client window ≡ false = other window (omega arith) in
    sym (ap (λ b. cond b (Some window) (find (is_for client) windows)) apart
    ∙ none-behind client window.client windows (above-from window.client client least apart) rising.0)
none-there client (suc place) (window ∷ windows) rising cut other =
    let low : nat_lt window.client client ≡ true = cut.0 0 window (omega arith) (omega arith) in
    none-there client place windows rising.1 (rest-cut client place window windows cut) (λ d within. other d (omega (arith, within)))
    ∙ sym (ap (λ b. cond b (Some window) (find (is_for client) windows)) (below-apart window.client client low))

pub none-at : (client place : ℕ) (windows : List SavedWindow) (one : SavedWindow) → IsRising nat_lt (clients_of windows) → IsCutAt client place windows → one ≡ get_or windows place one → one.client ≢ client → None ≡ find (is_for client) windows
none-at client place windows one rising cut is other =
    none-there client place windows rising cut
    (λ d within. ap (is_for client) (get_or_default windows place d one within ∙ sym is) ∙ other-for one.client client other)
