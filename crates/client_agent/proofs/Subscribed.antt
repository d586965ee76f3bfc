-- The subscriptions that live, as the list of them with the newest first.
use Rattle.std.proofs.Common.{◌≡◌, ℕ, suc, ◌+◌, ◌<◌, ◌≤◌, ◌==◌, Bool, true, false, cond, if◌then◌else◌, Option, Some, None, List, [], ◌∷◌, ◌++◌, length, map, take, get_or, option_map, refl, ap, sym, ◌∙◌, append_assoc, arith}
use Rattle.std.specs.List.{find}
use Rattle.std.proofs.lemmas.List.{take_more, append-nil}
use Rattle.cluster_facts.specs.Types.{Call, NtfSubscribe, NtfUnsubscribe, NtfFini, Reply, Refused, Message}
use Rattle.cluster_facts.specs.Agents.{Living, find_living, living_after, living_after_reply, living_after_item, greatest_receipt, greatest_receipts}
use Rattle.cluster_facts.proofs.Words.{by_test}
use Rattle.client_set.specs.Rising.{without}
use Rattle.client_agent.specs.declared.living.Subscription.{Subscription}
use Rattle.client_agent.specs.Inside.{living_of, all_living, moved, AreBelow}

pub find_living-find : (key : ℕ) (living : List Subscription) → option_map living_of (find (λ (it : Subscription). it.key == key) living) ≡ find_living key (all_living living)
find_living-find key [] = refl
find_living-find key (it ∷ living) =
    let P : Bool → Type 0 = λ b. option_map living_of (cond b (Some it) (find (λ (other : Subscription). other.key == key) living)) ≡ (if b then Some (living_of it) else find_living key (all_living living)) in
    let rest = find_living-find key living in
    let cases : (b : Bool) → P b = elim [ true ↦ refl | false ↦ rest ] in
    cases (it.key == key)

-- the subscription that is found
pub found-living : (key : ℕ) (living : List Subscription) (found : Subscription) (seen : List Living) → Some found ≡ find (λ (it : Subscription). it.key == key) living → all_living living ≡ seen → find_living key seen ≡ Some (living_of found)
found-living key living found seen is same =
    ap (find_living key) (sym same) ∙ sym (find_living-find key living) ∙ ap (option_map living_of) (sym is)

-- Keys fall.

pub AreBelow-more : (bound higher : ℕ) (living : List Living) → bound ≤ higher → AreBelow bound living → AreBelow higher living
AreBelow-more bound higher [] more below = tt
AreBelow-more bound higher (it ∷ living) more below = (let here = below.0 in omega arith, below.1)

pub AreBelow-without : (test : Living → Bool) (bound : ℕ) (living : List Living) → AreBelow bound living → AreBelow bound (without test living)
AreBelow-without test bound [] below = tt
AreBelow-without test bound (it ∷ living) below =
    let rest = AreBelow-without test it.key living below.1 in
    let here : it.key ≤ bound = let below_it = below.0 in omega arith in
    elim (test it) as (λ b. AreBelow bound (if b then without test living else it ∷ without test living)) [
      | true ↦ AreBelow-more it.key bound (without test living) here rest
      | false ↦ (below.0, rest)
    ]

-- the next call may begin a subscription, whose key is its number
pub AreBelow-call : (number : ℕ) (call : Call) (living : List Living) → AreBelow number living → AreBelow (number + 1) (living_after number call living)
AreBelow-call number (NtfSubscribe id filters) living below = (omega arith, below)
AreBelow-call number (NtfUnsubscribe id) living below =
    AreBelow-more number (number + 1) (without (λ subscription. subscription.id == id) living) (omega arith) (AreBelow-without (λ subscription. subscription.id == id) number living below)
AreBelow-call number NtfFini living below = tt
AreBelow-call number _ living below = AreBelow-more number (number + 1) living (omega arith) below

pub AreBelow-reply : (number : ℕ) (reply : Reply) (bound : ℕ) (living : List Living) → AreBelow bound living → AreBelow bound (living_after_reply number reply living)
AreBelow-reply number (Refused status) bound living below = AreBelow-without (λ subscription. subscription.key == number) bound living below
AreBelow-reply number _ bound living below = below

pub AreBelow-moved : (key number bound : ℕ) (living : List Subscription) → AreBelow bound (all_living living) → AreBelow bound (all_living (map (moved key number) living))
AreBelow-moved key number bound [] below = tt
AreBelow-moved key number bound (it ∷ living) below = (below.0, AreBelow-moved key number it.key living below.1)

-- An item is taken.

-- subscriptions whose keys are below another's stay as that one moves
unmoved : (key number bound : ℕ) (living : List Subscription) → bound ≤ key → AreBelow bound (all_living living) → all_living (map (moved key number) living) ≡ living_after_item key (all_living living)
unmoved key number bound [] above below = refl
unmoved key number bound (it ∷ living) above below =
    let here : it.key < bound = below.0 in
    let rest = unmoved key number it.key living (omega arith) below.1 in
    let P : Bool → Type 0 = λ b. record { key = it.key; id = it.id; next = suc (if b then number else it.taken) } ∷ all_living (map (moved key number) living) ≡ record { key = it.key; id = it.id; next = if b then suc (suc it.taken) else suc it.taken } ∷ living_after_item key (all_living living) in
    by_test P key it.key (λ same. absurd (omega arith)) (λ different. ap (λ (l : List Living). living_of it ∷ l) rest)

-- the one that is found goes on to its next item
pub moved-item : (key number bound : ℕ) (found : Living) (living : List Subscription) → AreBelow bound (all_living living) → find_living key (all_living living) ≡ Some found → number ≡ found.next → all_living (map (moved key number) living) ≡ living_after_item key (all_living living)
moved-item key number bound found [] below is next = refl
moved-item key number bound found (it ∷ living) below is next =
    let P : Bool → Type 0 = λ b. record { key = it.key; id = it.id; next = suc (if b then number else it.taken) } ∷ all_living (map (moved key number) living) ≡ record { key = it.key; id = it.id; next = if b then suc (suc it.taken) else suc it.taken } ∷ living_after_item key (all_living living) in
    let equal : key ≡ it.key → P true = λ same.
    let look : Some (living_of it) ≡ Some found = ap (λ (b : Bool). if b then Some (living_of it) else find_living key (all_living living)) (sym (is_equal it.key key (sym same))) ∙ is in
    let its : number ≡ suc it.taken = next ∙ sym (ap next_of look) in
    let rest = unmoved key number it.key living (let e = same in omega arith) below.1 in
    λ i. record { key = it.key; id = it.id; next = suc (its i) } ∷ rest i in
    let apart : (key ≡ it.key → ⊥) → P false = λ different.
    let look : find_living key (all_living living) ≡ Some found = ap (λ (b : Bool). if b then Some (living_of it) else find_living key (all_living living)) (sym (is_apart it.key key (λ e. different (sym e)))) ∙ is in
    ap (λ (l : List Living). living_of it ∷ l) (moved-item key number it.key found living below.1 look next) in
    by_test P key it.key equal apart
  where
    next_of : Option Living → ℕ
    next_of None = number
    next_of (Some other) = other.next

    is_equal : (one other : ℕ) → one ≡ other → (one == other) ≡ true
    is_equal one other same = by_test (λ b. b ≡ true) one other (λ e. refl) (λ different. absurd (different same))

    is_apart : (one other : ℕ) → (one ≡ other → ⊥) → (one == other) ≡ false
    is_apart one other different = by_test (λ b. b ≡ false) one other (λ same. absurd (different same)) (λ d. refl)

-- Receipts.

receipts-snoc : (client : ℕ) (living : List Subscription) (oldest : Subscription) → greatest_receipts client (all_living (living ++ oldest ∷ [])) ≡ greatest_receipt client oldest.key (suc oldest.taken) ++ greatest_receipts client (all_living living)
receipts-snoc client [] oldest = sym (append-nil (greatest_receipt client oldest.key (suc oldest.taken)))
receipts-snoc client (it ∷ living) oldest =
    ap (λ (messages : List Message). messages ++ greatest_receipt client it.key (suc it.taken)) (receipts-snoc client living oldest) ∙ append_assoc (greatest_receipt client oldest.key (suc oldest.taken)) (greatest_receipts client (all_living living)) (greatest_receipt client it.key (suc it.taken))

-- the receipt of one subscription more, from the oldest on
pub receipts_on : (client left : ℕ) (living : List Subscription) (it : Subscription) (before after : List Message) → left < length living → it ≡ get_or living left it → after ≡ before ++ greatest_receipt client it.key (suc it.taken) → after ++ greatest_receipts client (all_living (take left living)) ≡ before ++ greatest_receipts client (all_living (take (left + 1) living))
receipts_on client left living it before after within is pushed =
    let rest = greatest_receipts client (all_living (take left living)) in
    let front : take (left + 1) living ≡ take left living ++ it ∷ [] = take_more living left it within ∙ ap (λ (s : Subscription). take left living ++ s ∷ []) (sym is) in
    let longer : greatest_receipts client (all_living (take (left + 1) living)) ≡ greatest_receipt client it.key (suc it.taken) ++ rest = ap (λ (l : List Subscription). greatest_receipts client (all_living l)) front ∙ receipts-snoc client (take left living) it in
    ap (λ (messages : List Message). messages ++ rest) pushed ∙ append_assoc before (greatest_receipt client it.key (suc it.taken)) rest ∙ ap (λ (messages : List Message). before ++ messages) (sym longer)
