-- What holds of the users, the subscriptions and the queues after changes that could follow one another.
use Rattle.std.proofs.Common.{◌≡◌, ℕ, ◌+◌, ◌<◌, ◌≤◌, ◌==◌, nat_lt, Bool, true, false, not, ◌&&◌, ◌||◌, cond, inl, inr, List, [], ◌∷◌, length, map, refl, ap, ◌∙◌, arith}
use Rattle.std.specs.List.{list_any}
use Rattle.std.proofs.lemmas.Bool.Decides.{nat_tests}
use Rattle.std.proofs.lemmas.Bool.{or_right, and_from, or_parts, or_from}
use Rattle.sub_queue.specs.Queue.{IsCapacity, IsSound}
use Rattle.sub_queue.specs.History.{account_of, queue_for}
use Rattle.sub_queue.proofs.Accounts.{account_of-possible, queue_for-sound}
use Rattle.client_set.specs.Members.{Stands, has}
use Rattle.client_set.specs.Rising.{put, without, ComesFirst, IsRising}
use Rattle.client_set.proofs.RisingLaws.{IsOrder-nat_lt, IsRising-put, IsRising-without, Stands-put, Stands-without, has-put, has-without}
use Rattle.ntf_history.specs.Changes.{Sub, NtfChange, is_using, users, last_id}
use Rattle.ntf_history.specs.Changes.NtfChange.{Began, Ended, Subscribed, Unsubscribed, Sent, Receipted}
use Rattle.ntf_history.specs.Subscriptions.{has_id, is_of, comes_first, subs, happened}
use Rattle.ntf_history.specs.Possible.{HaveIds, ArePossible}
use Rattle.ntf_history.specs.Tables.{kept_first, kept_of, table_of}
use Rattle.ntf_history.proofs.KeyLaws.{subs-rising}
use Rattle.ntf_history.proofs.GrowthLaws.{length-made}

-- the users are those who use the service
pub has-users : (past : List NtfChange) (client : ℕ) → has client (users past) ≡ is_using past client
has-users [] client = refl
has-users (Began other ∷ past) client =
    has-put client other (users past) ∙ ap (λ b. other == client || b) (has-users past client)
has-users (Ended other ∷ past) client =
    has-without client other (users past) ∙ ap (λ b. not (other == client) && b) (has-users past client)
has-users (Subscribed sub ∷ past) client = has-users past client
has-users (Unsubscribed other id ∷ past) client = has-users past client
has-users (Sent notification record_number ∷ past) client = has-users past client
has-users (Receipted other key through ∷ past) client = has-users past client

pub users-rising : (past : List NtfChange) → IsRising nat_lt (users past)
users-rising [] = tt
users-rising (Began client ∷ past) = IsRising-put nat_lt IsOrder-nat_lt client (users past) (users-rising past)
users-rising (Ended client ∷ past) =
    IsRising-without nat_lt (λ other. other == client) (users past) (users-rising past)
users-rising (Subscribed sub ∷ past) = users-rising past
users-rising (Unsubscribed client id ∷ past) = users-rising past
users-rising (Sent notification record_number ∷ past) = users-rising past
users-rising (Receipted client key through ∷ past) = users-rising past

-- kept subscriptions stand in order
ComesFirst-kept : (capacity : ℕ) (past : List NtfChange) (sub : Sub) (xs : List Sub) → ComesFirst comes_first sub xs → ComesFirst kept_first (kept_of capacity past sub) (map (kept_of capacity past) xs)
ComesFirst-kept capacity past sub [] first = tt
ComesFirst-kept capacity past sub (x ∷ xs) first = (first.0, ComesFirst-kept capacity past sub xs first.1)

IsRising-kept : (capacity : ℕ) (past : List NtfChange) (xs : List Sub) → IsRising comes_first xs → IsRising kept_first (map (kept_of capacity past) xs)
IsRising-kept capacity past [] rising = tt
IsRising-kept capacity past (x ∷ xs) rising =
    (ComesFirst-kept capacity past x xs rising.0, IsRising-kept capacity past xs rising.1)

pub kept-rising : (capacity : ℕ) (past : List NtfChange) → IsRising kept_first (table_of capacity past).subs
kept-rising capacity past = IsRising-kept capacity past (subs past) (subs-rising past)

is_not : (c d : ℕ) → (c == d) ≡ false → not (d == c) ≡ true
is_not c d apart = grind (arith, nat_tests)

pub subs-users : (past : List NtfChange) → ArePossible past → (sub : Sub) → Stands sub (subs past) → is_using past sub.client ≡ true
subs-users [] possible sub stands = absurd stands
subs-users (Began other ∷ past) possible sub stands =
    or_right (other == sub.client) (is_using past sub.client) (subs-users past possible.1 sub stands)
subs-users (Ended other ∷ past) possible sub stands =
    let left = Stands-without (is_of other) sub (subs past) stands in
    and_from (not (other == sub.client)) (is_using past sub.client) (is_not sub.client other left.1) (subs-users past possible.1 sub left.0)
subs-users (Subscribed new ∷ past) possible sub stands = elim (Stands-put comes_first sub new (subs past) stands) [
  | inl same ↦ ap (λ (s : Sub). is_using past s.client) same ∙ possible.0.user
  | inr there ↦ subs-users past possible.1 sub there
]
subs-users (Unsubscribed other id ∷ past) possible sub stands =
    subs-users past possible.1 sub (Stands-without (has_id other id) sub (subs past) stands).0
subs-users (Sent notification record_number ∷ past) possible sub stands = subs-users past possible.1 sub stands
subs-users (Receipted other key through ∷ past) possible sub stands = subs-users past possible.1 sub stands

-- at most 64 subscriptions last
pub length-put : {X : Type 0} (before : X → X → Bool) (x : X) (xs : List X) → length (put before x xs) ≤ length xs + 1
length-put before x [] = omega arith
length-put {X} before x (y ∷ ys) = placed (before x y) (before y x) (length-put before x ys) where
  placed : (below above : Bool) → length (put before x ys) ≤ length ys + 1 → length (cond below (x ∷ y ∷ ys) (cond above (y ∷ put before x ys) (x ∷ ys))) ≤ length (y ∷ ys) + 1
  placed true above rest = omega arith
  placed false true rest = omega (arith, rest)
  placed false false rest = omega arith

pub length-without : {X : Type 0} (test : X → Bool) (xs : List X) → length (without test xs) ≤ length xs
length-without test [] = omega arith
length-without {X} test (x ∷ xs) = left (test x) (length-without test xs) where
  left : (passes : Bool) → length (without test xs) ≤ length xs → length (cond passes (without test xs) (x ∷ without test xs)) ≤ length (x ∷ xs)
  left true rest = omega (arith, rest)
  left false rest = omega (arith, rest)

pub length-subs : (past : List NtfChange) → ArePossible past → length (subs past) ≤ 64
length-subs [] possible = omega arith
length-subs (Began other ∷ past) possible = length-subs past possible.1
length-subs (Ended other ∷ past) possible =
    omega (arith, length-subs past possible.1, length-without (is_of other) (subs past))
length-subs (Subscribed new ∷ past) possible =
    omega (arith, possible.0.few, length-put comes_first new (subs past))
length-subs (Unsubscribed other id ∷ past) possible =
    omega (arith, length-subs past possible.1, length-without (has_id other id) (subs past))
length-subs (Sent notification record_number ∷ past) possible = length-subs past possible.1
length-subs (Receipted other key through ∷ past) possible = length-subs past possible.1

-- the ids of one client's subscriptions differ
has_id-back : (c i d j : ℕ) → (c == d && i == j) ≡ false → (d == c && j == i) ≡ false
has_id-back c i d j apart = grind (arith, nat_tests)

-- a test that fails at an element and at all of a list fails at all after it is put there
none-put : (test : Sub → Bool) (x : Sub) (xs : List Sub) → test x ≡ false → list_any test xs ≡ false → list_any test (put comes_first x xs) ≡ false
none-put test x [] fails none = or_from (test x) false fails refl
none-put test x (y ∷ ys) fails none =
    let parts = or_parts (test y) (list_any test ys) none in
    placed parts.0 parts.1 (comes_first x y) (comes_first y x) (none-put test x ys fails parts.1) where
      placed : test y ≡ false → list_any test ys ≡ false → (below above : Bool) → list_any test (put comes_first x ys) ≡ false → list_any test (cond below (x ∷ y ∷ ys) (cond above (y ∷ put comes_first x ys) (x ∷ ys))) ≡ false
      placed first later true above rest =
          or_from (test x) (test y || list_any test ys) fails (or_from (test y) (list_any test ys) first later)
      placed first later false true rest = or_from (test y) (list_any test (put comes_first x ys)) first rest
      placed first later false false rest = or_from (test x) (list_any test ys) fails later

none-without : (test taken : Sub → Bool) (xs : List Sub) → list_any test xs ≡ false → list_any test (without taken xs) ≡ false
none-without test taken [] none = refl
none-without test taken (x ∷ xs) none =
    let parts = or_parts (test x) (list_any test xs) none in
    left parts.0 (taken x) (none-without test taken xs parts.1) where
      left : test x ≡ false → (gone : Bool) → list_any test (without taken xs) ≡ false → list_any test (cond gone (without taken xs) (x ∷ without taken xs)) ≡ false
      left first true rest = rest
      left first false rest = or_from (test x) (list_any test (without taken xs)) first rest

HaveIds-put : (x : Sub) (xs : List Sub) → list_any (has_id x.client x.id) xs ≡ false → HaveIds xs → HaveIds (put comes_first x xs)
HaveIds-put x [] new ids = (refl, tt)
HaveIds-put x (y ∷ ys) new ids =
    let parts = or_parts (has_id x.client x.id y) (list_any (has_id x.client x.id) ys) new in
    let back = has_id-back y.client y.id x.client x.id parts.0 in
    placed parts.1 (none-put (has_id y.client y.id) x ys back ids.0) (comes_first x y) (comes_first y x) (HaveIds-put x ys parts.1 ids.1) where
      placed : list_any (has_id x.client x.id) ys ≡ false → list_any (has_id y.client y.id) (put comes_first x ys) ≡ false → (below above : Bool) → HaveIds (put comes_first x ys) → HaveIds (cond below (x ∷ y ∷ ys) (cond above (y ∷ put comes_first x ys) (x ∷ ys)))
      placed later first true above rest = (new, ids)
      placed later first false true rest = (first, rest)
      placed later first false false rest = (later, ids.1)

HaveIds-without : (taken : Sub → Bool) (xs : List Sub) → HaveIds xs → HaveIds (without taken xs)
HaveIds-without taken [] ids = tt
HaveIds-without taken (x ∷ xs) ids = left (taken x) (HaveIds-without taken xs ids.1) where
  left : (gone : Bool) → HaveIds (without taken xs) → HaveIds (cond gone (without taken xs) (x ∷ without taken xs))
  left true rest = rest
  left false rest = (none-without (has_id x.client x.id) taken xs ids.0, rest)

pub subs-ids : (past : List NtfChange) → ArePossible past → HaveIds (subs past)
subs-ids [] possible = tt
subs-ids (Began other ∷ past) possible = subs-ids past possible.1
subs-ids (Ended other ∷ past) possible = HaveIds-without (is_of other) (subs past) (subs-ids past possible.1)
subs-ids (Subscribed new ∷ past) possible =
    HaveIds-put new (subs past) possible.0.id (subs-ids past possible.1)
subs-ids (Unsubscribed other id ∷ past) possible =
    HaveIds-without (has_id other id) (subs past) (subs-ids past possible.1)
subs-ids (Sent notification record_number ∷ past) possible = subs-ids past possible.1
subs-ids (Receipted other key through ∷ past) possible = subs-ids past possible.1

-- each queue is one that can be rebuilt
pub queues-sound : (capacity : ℕ) (past : List NtfChange) (client key : ℕ) → IsCapacity capacity → length past < 4294967295 → IsSound (queue_for capacity (account_of capacity (happened past client key)))
queues-sound capacity past client key fits few =
    let before = happened past client key in
    let count = length-made capacity past client key in
    queue_for-sound capacity (account_of capacity before) (account_of-possible capacity before) fits (omega (arith, count))

-- no more ids were given than there were changes
pub last_id-bound : (past : List NtfChange) → last_id past ≤ length past
last_id-bound [] = omega arith
last_id-bound (Began other ∷ past) = omega (arith, last_id-bound past)
last_id-bound (Ended other ∷ past) = omega (arith, last_id-bound past)
last_id-bound (Subscribed sub ∷ past) = omega (arith, last_id-bound past)
last_id-bound (Unsubscribed other id ∷ past) = omega (arith, last_id-bound past)
last_id-bound (Sent notification record_number ∷ past) = omega (arith, last_id-bound past)
last_id-bound (Receipted other key through ∷ past) = omega (arith, last_id-bound past)
