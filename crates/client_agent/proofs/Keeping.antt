-- The calls that are kept, as the list of them with the newest first.
use Rattle.std.proofs.Common.{◌≡◌, ℕ, ◌+◌, ◌<◌, ◌==◌, Bool, true, false, not, ◌||◌, cond, if◌then◌else◌, Some, List, [], ◌∷◌, ◌++◌, length, map, take, filter, get_or, option_map, refl, ap, sym, ◌∙◌, append_assoc}
use Rattle.std.specs.Prelude.{nat_le}
use Rattle.std.specs.List.{find, list_any}
use Rattle.std.proofs.lemmas.List.{take_more}
use Rattle.cluster_facts.specs.Types.{Call, Message, Request}
use Rattle.cluster_facts.specs.Agents.{is_shut, kept_call, requests_of}
use Rattle.client_set.specs.Rising.{without}
use Rattle.client_agent.specs.declared.kept.Kept.{Kept}
use Rattle.client_agent.specs.Inside.{calls_kept}

-- a list without the elements of a test is the filtered list, seen by another type
pub without-filter : {X Y : Type 0} (f : X → Y) (test : Y → Bool) (xs : List X) → without test (map f xs) ≡ map f (filter (λ x. not (test (f x))) xs)
without-filter f test [] = refl
without-filter f test (x ∷ xs) =
    let P : Bool → Type 0 = λ b. (if b then without test (map f xs) else f x ∷ without test (map f xs)) ≡ map f (cond (not b) (x ∷ filter (λ y. not (test (f y))) xs) (filter (λ y. not (test (f y))) xs)) in
    let rest = without-filter f test xs in
    let cases : (b : Bool) → P b = elim [ true ↦ rest | false ↦ ap (λ ys. f x ∷ ys) rest ] in
    cases (test (f x))

pub is_shut-any : (next : ℕ) (kept : List Kept) → list_any (λ (sent : Kept). nat_le (sent.number + 32) next) kept ≡ is_shut next (calls_kept kept)
is_shut-any next [] = refl
is_shut-any next (sent ∷ kept) = ap (λ b. nat_le (sent.number + 32) next || b) (is_shut-any next kept)

pub kept_call-find : (number : ℕ) (kept : List Kept) → option_map (λ (sent : Kept). sent.call) (find (λ (sent : Kept). sent.number == number) kept) ≡ kept_call number (calls_kept kept)
kept_call-find number [] = refl
kept_call-find number (sent ∷ kept) =
    let P : Bool → Type 0 = λ b. option_map (λ (k : Kept). k.call) (cond b (Some sent) (find (λ (k : Kept). k.number == number) kept)) ≡ (if b then Some sent.call else kept_call number (calls_kept kept)) in
    let rest = kept_call-find number kept in
    let cases : (b : Bool) → P b = elim [ true ↦ refl | false ↦ rest ] in
    cases (sent.number == number)

requests-snoc : (client : ℕ) (kept : List Kept) (oldest : Kept) → requests_of client (calls_kept (kept ++ oldest ∷ [])) ≡ Request client oldest.number oldest.call ∷ requests_of client (calls_kept kept)
requests-snoc client [] oldest = refl
requests-snoc client (sent ∷ kept) oldest =
    ap (λ (messages : List Message). messages ++ Request client sent.number sent.call ∷ []) (requests-snoc client kept oldest)

-- one request more, from the oldest call on
pub requests_on : (client left : ℕ) (kept : List Kept) (sent : Kept) (call : Call) (before after : List Message) → left < length kept → sent ≡ get_or kept left sent → call ≡ sent.call → after ≡ before ++ Request client sent.number call ∷ [] → after ++ requests_of client (calls_kept (take left kept)) ≡ before ++ requests_of client (calls_kept (take (left + 1) kept))
requests_on client left kept sent call before after within is copied pushed =
    let rest = requests_of client (calls_kept (take left kept)) in
    let front : take (left + 1) kept ≡ take left kept ++ sent ∷ [] = take_more kept left sent within ∙ ap (λ (k : Kept). take left kept ++ k ∷ []) (sym is) in
    let longer : requests_of client (calls_kept (take (left + 1) kept)) ≡ Request client sent.number sent.call ∷ rest = ap (λ (k : List Kept). requests_of client (calls_kept k)) front ∙ requests-snoc client (take left kept) sent in
    ap (λ (messages : List Message). messages ++ rest) (pushed ∙ ap (λ (c : Call). before ++ Request client sent.number c ∷ []) copied) ∙ append_assoc before (Request client sent.number sent.call ∷ []) rest ∙ ap (λ (messages : List Message). before ++ messages) (sym longer)
