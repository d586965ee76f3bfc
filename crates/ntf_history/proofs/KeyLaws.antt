-- Subscriptions stand in order of client and key, so each is found by these.
use Rattle.std.proofs.Common.{◌≡◌, ℕ, ◌==◌, Bool, true, false, ◌&&◌, cond, inl, inr, List, [], ◌∷◌, refl, ap, sym, subst, ◌∙◌, arith}
use Rattle.std.specs.Prelude.{Some, find}
use Rattle.std.proofs.lemmas.Bool.Decides.{nat_tests}
use Rattle.client_set.specs.Members.{Stands}
use Rattle.client_set.specs.Rising.{ComesFirst, IsRising, IsOrder}
use Rattle.client_set.proofs.RisingLaws.{IsRising-put, IsRising-without}
use Rattle.ntf_history.specs.Changes.{Sub, NtfChange}
use Rattle.ntf_history.specs.Changes.NtfChange.{Began, Ended, Subscribed, Unsubscribed, Sent, Receipted}
use Rattle.ntf_history.specs.Subscriptions.{has_key, has_id, is_of, key_first, comes_first, subs, sub_at}
use Rattle.ais_values.proofs.Basics.{pair_same}

pub key_first-self : (client key : ℕ) → key_first client key client key ≡ false
key_first-self client key = grind (arith, nat_tests)

pub key_first-onward : (c k d l e m : ℕ) → key_first c k d l ≡ true → key_first d l e m ≡ true → key_first c k e m ≡ true
key_first-onward c k d l e m first second = grind (arith, nat_tests)

pub key_first-beside : (c k d l e m : ℕ) → key_first c k d l ≡ false → key_first d l c k ≡ false → key_first d l e m ≡ true → key_first c k e m ≡ true
key_first-beside c k d l e m one other second = grind (arith, nat_tests)

-- keys of which the first comes before the second differ
key_first-apart : (c k d l : ℕ) → key_first c k d l ≡ true → (c == d && k == l) ≡ false
key_first-apart c k d l first = grind (arith, nat_tests)

pub IsOrder-comes_first : IsOrder comes_first
IsOrder-comes_first = record {
  self = λ x. key_first-self x.client x.key;
  onward = λ x y z. key_first-onward x.client x.key y.client y.key z.client z.key;
  beside = λ x y z. key_first-beside x.client x.key y.client y.key z.client z.key;
}

-- the subscriptions that last stand in order
pub subs-rising : (past : List NtfChange) → IsRising comes_first (subs past)
subs-rising [] = tt
subs-rising (Began client ∷ past) = subs-rising past
subs-rising (Ended client ∷ past) = IsRising-without comes_first (is_of client) (subs past) (subs-rising past)
subs-rising (Subscribed sub ∷ past) = IsRising-put comes_first IsOrder-comes_first sub (subs past) (subs-rising past)
subs-rising (Unsubscribed client id ∷ past) =
    IsRising-without comes_first (has_id client id) (subs past) (subs-rising past)
subs-rising (Sent notification record_number ∷ past) = subs-rising past
subs-rising (Receipted client key through ∷ past) = subs-rising past

-- a number is the same as itself
both_same : (c k : ℕ) → (c == c && k == k) ≡ true
both_same c k = grind (arith, nat_tests)

pub has_key-self : (sub : Sub) → has_key sub.client sub.key sub ≡ true
has_key-self sub = both_same sub.client sub.key

-- the client and the key of a subscription that has them
pub has_key-is : (client key : ℕ) (sub : Sub) → has_key client key sub ≡ true → (sub.client ≡ client) × (sub.key ≡ key)
has_key-is client key sub same = pair_same sub.client sub.key client key same

-- what comes behind an element comes after it
ComesFirst-at : {X : Type 0} (before : X → X → Bool) (x s : X) (xs : List X) → ComesFirst before x xs → Stands s xs → before x s ≡ true
ComesFirst-at before x s [] first stands = absurd stands
ComesFirst-at {X} before x s (y ∷ ys) first (inl same) = ap (λ z. before x z) same ∙ first.0
ComesFirst-at before x s (y ∷ ys) first (inr there) = ComesFirst-at before x s ys first.1 there

-- a subscription that stands in order is found by its client and key
pub find-member : (sub : Sub) (xs : List Sub) → IsRising comes_first xs → Stands sub xs → find (has_key sub.client sub.key) xs ≡ Some sub
find-member sub [] rising stands = absurd stands
find-member sub (x ∷ xs) rising (inl same) =
    let there : has_key sub.client sub.key x ≡ true = ap (λ (y : Sub). has_key sub.client sub.key y) (sym same) ∙ has_key-self sub in
    ap (λ b. cond b (Some x) (find (has_key sub.client sub.key) xs)) there ∙ ap (λ (y : Sub). Some y) (sym same)
find-member sub (x ∷ xs) rising (inr there) =
    let apart = key_first-apart x.client x.key sub.client sub.key (ComesFirst-at comes_first x sub xs rising.0 there) in
    ap (λ b. cond b (Some x) (find (has_key sub.client sub.key) xs)) apart ∙ find-member sub xs rising.1 there

-- what is found stands there and passes
pub find-stands : {X : Type 0} (test : X → Bool) (x : X) (xs : List X) → find test xs ≡ Some x → Stands x xs × (test x ≡ true)
find-stands test x [] found = absurd (cc)
find-stands {X} test x (y ∷ ys) found = first (test y) refl (find-stands test x ys) found where
  first : (passes : Bool) → test y ≡ passes → (find test ys ≡ Some x → Stands x ys × (test x ≡ true)) → cond passes (Some y) (find test ys) ≡ Some x → Stands x (y ∷ ys) × (test x ≡ true)
  first true is rest found =
      let same : x ≡ y = cc in
      (inl same, ap test same ∙ is)
  first false is rest found = (inr (rest found).0, (rest found).1)

-- the subscription of a client and key, as it stands and is named
pub sub_at-stands : (past : List NtfChange) (client key : ℕ) (sub : Sub) → sub_at past client key ≡ Some sub → Stands sub (subs past) × (has_key client key sub ≡ true)
sub_at-stands past client key sub found = find-stands (has_key client key) sub (subs past) found

pub sub_at-member : (past : List NtfChange) (sub : Sub) → Stands sub (subs past) → sub_at past sub.client sub.key ≡ Some sub
sub_at-member past sub stands = find-member sub (subs past) (subs-rising past) stands

-- a subscription that stands among those that last is found by a client and key that it has
pub sub_at-named : (past : List NtfChange) (client key : ℕ) (sub : Sub) → Stands sub (subs past) → has_key client key sub ≡ true → sub_at past client key ≡ Some sub
sub_at-named past client key sub stands named =
    let is = has_key-is client key sub named in
    let P : ℕ → Type 0 = λ c. sub_at past c sub.key ≡ Some sub in
    let Q : ℕ → Type 0 = λ k. sub_at past client k ≡ Some sub in
    subst Q is.1 (subst P is.0 (sub_at-member past sub stands))
