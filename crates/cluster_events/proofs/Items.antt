-- Of each subscription a client got its first items: from the facts, by which each callback is that of its receipt's item.
use Rattle.std.proofs.Common.{◌≡◌, ℕ, zero, suc, inl, inr, Bool, if◌then◌else◌, Some, List, [], ◌∷◌, ◌++◌, length, slice_get, map, refl, ap, sym, ◌∙◌, subst, arith, length-append, append_assoc}
use Rattle.cluster_facts.specs.Types.{Call, NtfSubscribe, Content, Single, Losses, Entry, Callback}
use Rattle.cluster_facts.specs.Lists.{Stands, IsNumbered, IsCounted, count_of}
use Rattle.cluster_facts.specs.Service.{Plain, subscribes, asked_for}
use Rattle.cluster_facts.specs.Agents.{callback_of}
use Rattle.cluster_facts.specs.Facts.{Fits, IsToldItem}
use Rattle.cluster_facts.specs.Facts.Fits.{empty as none_fit, of_item as item_fits, of_write as write_fits, of_mask as mask_fits}
use Rattle.cluster_facts.proofs.Words.{by_test, Stands-append}
use Rattle.cluster_facts.proofs.Clients.{subscribes-number, asked_for-number}
use Rattle.cluster_events.specs.Taking.{items_in, taken_of, in_order, AreFirstItems}

-- A subscription is asked for under one id.

subscribes-id : (key one other number : ℕ) (call : Call) → Stands (key, one) (subscribes number call) → Stands (key, other) (subscribes number call) → one ≡ other
subscribes-id key one other number (NtfSubscribe id filters) (inl here) (inl there) =
    ap (λ (p : ℕ × ℕ). p.1) here ∙ sym (ap (λ (p : ℕ × ℕ). p.1) there)
subscribes-id key one other number (NtfSubscribe id filters) (inr here) there = elim here [ ]
subscribes-id key one other number (NtfSubscribe id filters) (inl here) (inr there) = elim there [ ]
subscribes-id key one other number _ here there = elim here [ ]

asked_for-id : (key one other : ℕ) (sent : List (ℕ × Call)) → IsNumbered sent → Stands (key, one) (asked_for sent) → Stands (key, other) (asked_for sent) → one ≡ other
asked_for-id key one other [] numbered here there = elim here [ ]
asked_for-id key one other (first ∷ sent) numbered here there =
    let never : (id early : ℕ) → Stands (key, id) (subscribes first.0 first.1) → Stands (key, early) (asked_for sent) → one ≡ other = λ id early now before.
    let is : key ≡ suc (length sent) = subscribes-number key id first.0 first.1 now ∙ numbered.0 in
    let bound = asked_for-number key early sent numbered.1 before in
    absurd (omega arith)
    in
    elim (Stands-append (key, one) (subscribes first.0 first.1) (asked_for sent) here) [
      | inl now ↦ elim (Stands-append (key, other) (subscribes first.0 first.1) (asked_for sent) there) [
        | inl too ↦ subscribes-id key one other first.0 first.1 now too
        | inr before ↦ never one other now before
      ]
      | inr before ↦ elim (Stands-append (key, other) (subscribes first.0 first.1) (asked_for sent) there) [
        | inl now ↦ never other one now before
        | inr too ↦ asked_for-id key one other sent numbered.1 before too
      ]
    ]

-- Each callback that was taken of a subscription is that of the item of its place.

record IsItemAt (plain : Plain) (past : List Entry) (sent : List (ℕ × Call)) (client key place : ℕ) (callback : Callback) : Type 0 where
  pub id : ℕ
  pub asked : Stands (key, id) (asked_for sent)
  pub content : Content
  pub made : slice_get (plain.made past client key) place ≡ Some content
  pub is : callback ≡ callback_of id content

abbrev AreItems : Plain → List Entry → List (ℕ × Call) → ℕ → ℕ → List Callback → Type 0
AreItems plain past sent client key [] = Unit {0}
AreItems plain past sent client key (callback ∷ taken) =
    IsItemAt plain past sent client key (length taken) callback × AreItems plain past sent client key taken

-- and they are so many
record Taken (plain : Plain) (past : List Entry) (sent : List (ℕ × Call)) (client key count : ℕ) (taken : List Callback) : Type 0 where
  pub are : AreItems plain past sent client key taken
  pub many : length taken ≡ count

takes-item : (plain : Plain) (past : List Entry) (sent : List (ℕ × Call)) (client key : ℕ) (mark : ℕ × ℕ) (marks : List (ℕ × ℕ)) (callback : Callback) (items : List Callback) → IsCounted (mark ∷ marks) → IsToldItem plain past sent client mark callback → Taken plain past sent client key (count_of key marks) (taken_of key marks items) → Taken plain past sent client key (count_of key (mark ∷ marks)) (taken_of key (mark ∷ marks) (callback ∷ items))
takes-item plain past sent client key mark marks callback items counted told rest =
    let taken = taken_of key marks items in
    let count = count_of key marks in
    let P : Bool → Type 0 = λ b. Taken plain past sent client key (if b then suc count else count) (if b then callback ∷ taken else taken) in
    by_test P mark.0 key (λ same. record { are = (here same, rest.are); many = ap suc rest.many }) (λ different. rest)
  where
    here : mark.0 ≡ key → IsItemAt plain past sent client key (length (taken_of key marks items)) callback
    here same =
        let before = told.made.0 in
        let counts : count_of mark.0 marks ≡ count_of key marks = ap (λ k. count_of k marks) same in
        let number : mark.1 ≡ suc before = told.made.1 in
        let next : mark.1 ≡ suc (count_of mark.0 marks) = counted.0 in
        let many : length (taken_of key marks items) ≡ count_of key marks = rest.many in
        let place : before ≡ length (taken_of key marks items) = omega arith in
        record {
          id = told.id;
          asked = subst (λ k. Stands (k, told.id) (asked_for sent)) same told.asked;
          content = told.content;
          made = subst (λ p. slice_get (plain.made past client key) p ≡ Some told.content) place (subst (λ k. slice_get (plain.made past client k) before ≡ Some told.content) same told.made.2);
          is = told.is;
        }

-- the callback of an item is one of those of items
item-first : (id : ℕ) (content : Content) (fed : List Callback) → items_in (callback_of id content ∷ fed) ≡ callback_of id content ∷ items_in fed
item-first id (Single notification) fed = refl
item-first id (Losses lost) fed = refl

fits-taken : (plain : Plain) (past : List Entry) (sent : List (ℕ × Call)) (client key : ℕ) {marks : List (ℕ × ℕ)} {fed : List Callback} → Fits (IsToldItem plain past sent client) marks fed → IsCounted marks → Taken plain past sent client key (count_of key marks) (taken_of key marks (items_in fed))
fits-taken plain past sent client key none_fit counted = record { are = tt; many = refl }
fits-taken plain past sent client key (item_fits {marks = marks} {fed = fed} mark callback told rest) counted =
    let deeper = fits-taken plain past sent client key rest counted.1 in
    let first : items_in (callback ∷ fed) ≡ callback ∷ items_in fed =
    let P : Callback → Type 0 = λ c. items_in (c ∷ fed) ≡ c ∷ items_in fed in
    subst P (sym told.is) (item-first told.id told.content fed)
    in
    subst (λ items. Taken plain past sent client key (count_of key (mark ∷ marks)) (taken_of key (mark ∷ marks) items)) (sym first) (takes-item plain past sent client key mark marks callback (items_in fed) counted told deeper)
fits-taken plain past sent client key (write_fits invocation status rest) counted = fits-taken plain past sent client key rest counted
fits-taken plain past sent client key (mask_fits name mask written rest) counted = fits-taken plain past sent client key rest counted

-- Callbacks of items 1, 2, 3 and so on are the beginning of those of all items.

abbrev AreAt : ℕ → List Content → List Callback → Type 0
AreAt id contents [] = Unit {0}
AreAt id contents (callback ∷ taken) =
    ((content : Content) × (slice_get contents (length taken) ≡ Some content) × (callback ≡ callback_of id content)) × AreAt id contents taken

in_order-length : {X : Type 0} (xs : List X) → length (in_order xs) ≡ length xs
in_order-length [] = refl
in_order-length (x ∷ xs) =
    let longer = length-append (in_order xs) (x ∷ []) in
    let deeper = in_order-length xs in
    omega arith

map-at : {X Y : Type 0} (f : X → Y) (xs : List X) (place : ℕ) (x : X) → slice_get xs place ≡ Some x → slice_get (map f xs) place ≡ Some (f x)
map-at f [] place x found = cc
map-at f (y ∷ xs) zero x found = let same : y ≡ x = cc in ap (λ z. Some (f z)) same
map-at f (y ∷ xs) (suc place) x found = map-at f xs place x found

-- what stands behind a list begins with what stands at its length
behind : {X : Type 0} (xs more : List X) (x : X) → slice_get (xs ++ more) (length xs) ≡ Some x → (rest : List X) × (more ≡ x ∷ rest)
behind [] [] x found = cc
behind [] (y ∷ more) x found = let same : y ≡ x = cc in (more, ap (λ z. z ∷ more) same)
behind (y ∷ xs) more x found = behind xs more x found

begin-so : (id : ℕ) (contents : List Content) (taken : List Callback) → AreAt id contents taken → (later : List Callback) × (map (callback_of id) contents ≡ in_order taken ++ later)
begin-so id contents [] are = (map (callback_of id) contents, refl)
begin-so id contents (callback ∷ taken) are =
    let content = are.0.0 in
    let deeper = begin-so id contents taken are.1 in
    let later = deeper.0 in
    let here : slice_get (map (callback_of id) contents) (length taken) ≡ Some (callback_of id content) = map-at (callback_of id) contents (length taken) content are.0.1 in
    let there : slice_get (in_order taken ++ later) (length taken) ≡ Some (callback_of id content) = subst (λ all. slice_get all (length taken) ≡ Some (callback_of id content)) deeper.1 here in
    let last : slice_get (in_order taken ++ later) (length (in_order taken)) ≡ Some (callback_of id content) = subst (λ n. slice_get (in_order taken ++ later) n ≡ Some (callback_of id content)) (sym (in_order-length taken)) there in
    let next = behind (in_order taken) later (callback_of id content) last in
    let whole : later ≡ callback ∷ next.0 = next.1 ∙ ap (λ c. c ∷ next.0) (sym are.0.2) in
    (next.0, deeper.1 ∙ ap (λ rest. in_order taken ++ rest) whole ∙ sym (append_assoc (in_order taken) (callback ∷ []) next.0))

-- the items of a subscription have one id
one-id : (plain : Plain) (past : List Entry) (sent : List (ℕ × Call)) (client key id : ℕ) (taken : List Callback) → IsNumbered sent → Stands (key, id) (asked_for sent) → AreItems plain past sent client key taken → AreAt id (plain.made past client key) taken
one-id plain past sent client key id [] numbered asked are = tt
one-id plain past sent client key id (callback ∷ taken) numbered asked are =
    let item = are.0 in
    let same = asked_for-id key item.id id sent numbered item.asked asked in
    ((item.content, item.made, item.is ∙ ap (λ i. callback_of i item.content) same), one-id plain past sent client key id taken numbered asked are.1)

first-items : (plain : Plain) (past : List Entry) (sent : List (ℕ × Call)) (client key : ℕ) (taken : List Callback) → IsNumbered sent → AreItems plain past sent client key taken → AreFirstItems plain past sent client key taken
first-items plain past sent client key [] numbered are = tt
first-items plain past sent client key (last ∷ taken) numbered are =
    let item = are.0 in
    (item.id, item.asked, begin-so item.id (plain.made past client key) (last ∷ taken) (one-id plain past sent client key item.id (last ∷ taken) numbered item.asked are))

pub taken-begins : (plain : Plain) (past : List Entry) (sent : List (ℕ × Call)) (client key : ℕ) (marks : List (ℕ × ℕ)) (fed : List Callback) → IsNumbered sent → IsCounted marks → Fits (IsToldItem plain past sent client) marks fed → AreFirstItems plain past sent client key (taken_of key marks (items_in fed))
taken-begins plain past sent client key marks fed numbered counted fits =
    first-items plain past sent client key (taken_of key marks (items_in fed)) numbered (fits-taken plain past sent client key fits counted).are
