-- Where a client's agent stands among agents by rising client: a search by halving finds it.
use Rattle.std.proofs.Common.{◌≡◌, ℕ, zero, suc, ◌+◌, ◌<◌, ◌≤◌, ◌==◌, nat_lt, Bool, true, false, cond, Some, None, List, [], ◌∷◌, length, get_or, slice_get, ◌-◌, refl, ap, sym, ◌∙◌, arith}
use Rattle.std.specs.Prelude.{option_map}
use Rattle.std.specs.List.{position_from}
use Rattle.std.specs.List.Sorted.{IsNonDecreasingBy}
use Rattle.std.proofs.lemmas.Bool.{ltb-true, ltb-false}
use Rattle.std.proofs.lemmas.Bool.Decides.{nat_tests}
use Rattle.std.proofs.lemmas.Iterator.Adapters.{position_from-zero}
use Rattle.std.proofs.lemmas.List.{get_or_default}
use Rattle.std.proofs.lemmas.Option.{slice_get_past, slice_get_read, get_or_from_slice_get}
use Rattle.client_set.specs.Rising.{ComesFirst}
use Rattle.cluster_facts.proofs.Words.{by_test}
use Rattle.client_agent.specs.Seen.{Seen}
use Rattle.cluster_clients.specs.Clients.{AreByClient, place_of, StandsAt, IsCutAt}
use Rattle.cluster_clients.specs.Asked.{place_for}

abbrev pub is_of : ℕ → Seen → Bool
is_of client one = one.client == client

abbrev before : Seen → Seen → Bool
before one other = nat_lt one.client other.client

-- Clients never fall.

first-least : (first : Seen) (seen : List Seen) (place : ℕ) (d : Seen) → ComesFirst before first seen → place < length seen → first.client ≤ (get_or seen place d).client
first-least first [] place d comes within = absurd (omega arith)
first-least first (next ∷ seen) zero d comes within = let less = ltb-true first.client next.client comes.0 in omega arith
first-least first (next ∷ seen) (suc place) d comes within = first-least first seen place d comes.1 (omega arith)

pub never-falling : (seen : List Seen) → AreByClient seen → IsNonDecreasingBy (λ (one : Seen). one.client) seen
never-falling [] rising i j d order within = absurd (omega arith)
never-falling (first ∷ seen) rising zero zero d order within = omega arith
never-falling (first ∷ seen) rising zero (suc j) d order within = first-least first seen j d rising.0 (omega arith)
never-falling (first ∷ seen) rising (suc i) zero d order within = absurd (omega arith)
never-falling (first ∷ seen) rising (suc i) (suc j) d order within = never-falling seen rising.1 i j d (omega arith) (omega arith)

first-under : (first : Seen) (seen : List Seen) (place : ℕ) (d : Seen) → ComesFirst before first seen → place < length seen → nat_lt first.client (get_or seen place d).client ≡ true
first-under first [] place d comes within = absurd (omega arith)
first-under first (next ∷ seen) zero d comes within = comes.0
first-under first (next ∷ seen) (suc place) d comes within = first-under first seen place d comes.1 (omega arith)

rising-under : (seen : List Seen) → AreByClient seen → (i j : ℕ) (d : Seen) → i < j → j < length seen → nat_lt (get_or seen i d).client (get_or seen j d).client ≡ true
rising-under [] rising i j d order within = absurd (omega arith)
rising-under (first ∷ seen) rising zero zero d order within = absurd (omega arith)
rising-under (first ∷ seen) rising zero (suc j) d order within = first-under first seen j d rising.0 (omega arith)
rising-under (first ∷ seen) rising (suc i) zero d order within = absurd (omega arith)
rising-under (first ∷ seen) rising (suc i) (suc j) d order within = rising-under seen rising.1 i j d (omega arith) (omega arith)

not-under : (client x : ℕ) → client ≤ x → nat_lt x client ≡ false
not-under client x above = grind (arith, nat_tests)

under-last : (x end last client : ℕ) → x ≤ end → end ≡ last → nat_lt last client ≡ true → nat_lt x client ≡ true
under-last x end last client order same less = grind (arith, nat_tests)

-- the agents before the client's own are those of lower clients
pub own-cut : (client place : ℕ) (seen : List Seen) (one : Seen) → place < length seen → one ≡ get_or seen place one → one.client ≡ client → AreByClient seen → IsCutAt client place seen
own-cut client place seen one within there own rising =
    let here : (d : Seen) → (get_or seen place d).client ≡ client = λ d. ap (λ (s : Seen). s.client) (get_or_default seen place d one within ∙ sym there) ∙ own in (
      λ k d low high. ap (λ n. nat_lt (get_or seen k d).client n) (sym (here d)) ∙ rising-under seen rising k place d high within,
      λ k d low high. not-under client (get_or seen k d).client (let order = never-falling seen rising place k d low high in omega (arith, here d, order)),
    )

-- all agents are those of lower clients where the last one is
pub past-cut : (client : ℕ) (seen : List Seen) (last : Seen) → Some last ≡ slice_get seen (length seen - 1) → nat_lt last.client client ≡ true → AreByClient seen → IsCutAt client (length seen) seen
past-cut client [] last is less rising = (λ k d low high. absurd (omega arith), λ k d low high. absurd (omega arith))
past-cut client (first ∷ rest) last is less rising =
    let seen = first ∷ rest in
    let end = length seen - 1 in
    let here : (d : Seen) → (get_or seen end d).client ≡ last.client = λ d. ap (λ (s : Seen). s.client) (get_or_from_slice_get seen end last d (sym is)) in (
      λ k d low high. under-last (get_or seen k d).client (get_or seen end d).client last.client client (never-falling seen rising k end d (omega arith) (omega arith)) (here d) less,
      λ k d low high. absurd (omega arith),
    )

-- What stands where the agents of lower clients end.

-- behind an agent of a higher client there is none of the client
none-behind : (client start : ℕ) (first : Seen) (seen : List Seen) → client < first.client → ComesFirst before first seen → position_from (is_of client) start seen ≡ None
none-behind client start first [] above comes = refl
none-behind client start first (next ∷ seen) above comes =
    let less = ltb-true first.client next.client comes.0 in
    let P : Bool → Type 0 = λ b. cond b (Some start) (position_from (is_of client) (start + 1) seen) ≡ None in
    by_test P next.client client (λ same. absurd (omega arith)) (λ different. none-behind client (start + 1) first seen above comes.1)

rest-cut : (client place : ℕ) (first : Seen) (seen : List Seen) → IsCutAt client (suc place) (first ∷ seen) → IsCutAt client place seen
rest-cut client place first seen cut =
    (λ k d low high. cut.0 (suc k) d (omega arith) (omega arith), λ k d low high. cut.1 (suc k) d (omega arith) (omega arith))

there-from : (client place start : ℕ) (seen : List Seen) → IsCutAt client place seen → StandsAt client place seen → position_from (is_of client) start seen ≡ Some (start + place)
there-from client place start [] cut stands = cc
there-from client zero start (first ∷ seen) cut stands =
    let same : first.client ≡ client = cc in
    let P : Bool → Type 0 = λ b. cond b (Some start) (position_from (is_of client) (start + 1) seen) ≡ Some (start + 0) in
    by_test P first.client client (λ equal. ap Some (omega arith)) (λ different. absurd (different same))
there-from client (suc place) start (first ∷ seen) cut stands =
    let less = ltb-true first.client client (cut.0 0 first (omega arith) (omega arith)) in
    let rest = there-from client place (start + 1) seen (rest-cut client place first seen cut) stands in
    let P : Bool → Type 0 = λ b. cond b (Some start) (position_from (is_of client) (start + 1) seen) ≡ Some (start + suc place) in
    by_test P first.client client (λ same. absurd (omega arith)) (λ different. rest ∙ ap Some (omega arith))

none-from : (client place start : ℕ) (seen : List Seen) → AreByClient seen → IsCutAt client place seen → (StandsAt client place seen → ⊥) → position_from (is_of client) start seen ≡ None
none-from client place start [] rising cut other = refl
none-from client zero start (first ∷ seen) rising cut other =
    let least = ltb-false first.client client (cut.1 0 first (omega arith) (omega arith)) in
    let P : Bool → Type 0 = λ b. cond b (Some start) (position_from (is_of client) (start + 1) seen) ≡ None in
    by_test P first.client client (λ same. absurd (other (ap Some same))) (λ different. none-behind client (start + 1) first seen (omega arith) rising.0)
none-from client (suc place) start (first ∷ seen) rising cut other =
    let less = ltb-true first.client client (cut.0 0 first (omega arith) (omega arith)) in
    let rest = none-from client place (start + 1) seen rising.1 (rest-cut client place first seen cut) other in
    let P : Bool → Type 0 = λ b. cond b (Some start) (position_from (is_of client) (start + 1) seen) ≡ None in
    by_test P first.client client (λ same. absurd (omega arith)) (λ different. rest)

-- the agent that was read is the one at the place
pub stands-read : (client place count : ℕ) (seen : List Seen) (one : Seen) → count ≡ length seen → place < count → one ≡ get_or seen place one → one.client ≡ client → StandsAt client place seen
stands-read client place count seen one counted within is own =
    ap (option_map (λ (s : Seen). s.client)) (slice_get_read seen count place one counted within is) ∙ ap Some own

pub found-place : (client place : ℕ) (seen : List Seen) → IsCutAt client place seen → StandsAt client place seen → Some place ≡ place_of client seen
found-place client place seen cut stands =
    let from_zero : Some (0 + place) ≡ Some place = ap Some (omega arith) in
    sym (position_from-zero (is_of client) seen ∙ there-from client place 0 seen cut stands ∙ from_zero)

pub none-past : (client place : ℕ) (seen : List Seen) → length seen ≤ place → AreByClient seen → IsCutAt client place seen → None ≡ place_of client seen
none-past client place seen past rising cut =
    let nothing : option_map (λ (s : Seen). s.client) (slice_get seen place) ≡ None = ap (option_map (λ (s : Seen). s.client)) (slice_get_past seen place past) in
    sym (position_from-zero (is_of client) seen ∙ none-from client place 0 seen rising cut (λ stands. cc))

pub none-other : (client place count : ℕ) (seen : List Seen) (one : Seen) → count ≡ length seen → place < count → one ≡ get_or seen place one → (one.client ≡ client → ⊥) → AreByClient seen → IsCutAt client place seen → None ≡ place_of client seen
none-other client place count seen one counted within is other rising cut =
    let there : option_map (λ (s : Seen). s.client) (slice_get seen place) ≡ Some one.client = ap (option_map (λ (s : Seen). s.client)) (slice_get_read seen count place one counted within is) in
    sym (position_from-zero (is_of client) seen ∙ none-from client place 0 seen rising cut (λ stands. let same : Some one.client ≡ Some client = sym there ∙ stands in other cc))

-- so many agents from the first on are those of lower clients
pub cut-front : (client place : ℕ) (seen : List Seen) → place ≤ length seen → IsCutAt client place seen → place ≡ place_for client seen
cut-front client zero [] within cut = refl
cut-front client (suc place) [] within cut = absurd (omega arith)
cut-front client zero (first ∷ seen) within cut =
    ap (λ b. cond b (1 + place_for client seen) 0) (sym (cut.1 0 first (omega arith) (omega arith)))
cut-front client (suc place) (first ∷ seen) within cut =
    let rest = cut-front client place seen (omega arith) (rest-cut client place first seen cut) in
    let here : suc place ≡ 1 + place_for client seen = omega (arith, rest) in
    here ∙ ap (λ b. cond b (1 + place_for client seen) 0) (sym (cut.0 0 first (omega arith) (omega arith)))
