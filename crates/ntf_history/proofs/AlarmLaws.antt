-- Stored alarms as the view keeps them: one is added where one is sent, early ones are dropped, and they stay in order.
use Rattle.std.proofs.Common.{◌≡◌, ℕ, ◌+◌, ◌≤◌, nat_le, Bool, true, false, cond, List, [], ◌∷◌, ◌++◌, refl, ap, sym, subst, ◌∙◌, arith}
use Rattle.std.specs.Prelude.{⊤, filter}
use Rattle.std.proofs.lemmas.Bool.Decides.{nat_tests}
use Rattle.ntf_types.specs.declared.notification.Body.{Body}
use Rattle.ntf_types.specs.declared.notification.Body.TheVariants.{Objects, Attributes, States, Alarm, Security}
use Rattle.ntf_types.specs.declared.notification.Notification.{Notification}
use Rattle.alarm_view.specs.declared.alarm.KeptAlarm.{KeptAlarm}
use Rattle.alarm_view.specs.Alarms.{IsAlarm, kept_alarm, IsAboveAll, CanAdd, AreInOrder, from_record}
use Rattle.alarm_view.proofs.Keeping.{AreInOrder-added, AreInOrder-from_record}
use Rattle.ntf_history.specs.Changes.{NtfChange, last_id}
use Rattle.ntf_history.specs.Changes.NtfChange.{Began, Ended, Subscribed, Unsubscribed, Sent, Receipted}
use Rattle.ntf_history.specs.StoredAlarms.{is_alarm, alarms_sent, stored_alarms}
use Rattle.ntf_history.specs.Possible.{HaveNumbersBelow, CanSend, ArePossible}

pub is_alarm-is : (body : Body) → is_alarm body ≡ true → IsAlarm body
is_alarm-is (Objects source attrs) is = cc
is_alarm-is (Attributes source changes) is = cc
is_alarm-is (States source changes) is = cc
is_alarm-is (Alarm cause severity) is = tt
is_alarm-is (Security cause severity detector user provider) is = tt

filter-more : {X : Type 0} (test : X → Bool) (xs : List X) (x : X) → test x ≡ true → filter test (xs ++ x ∷ []) ≡ filter test xs ++ x ∷ []
filter-more test [] x passes = ap (λ b. cond b (x ∷ []) []) passes
filter-more test (y ∷ xs) x passes =
    let rest = filter-more test xs x passes in
    elim (test y) as (λ b. cond b (y ∷ filter test (xs ++ x ∷ [])) (filter test (xs ++ x ∷ [])) ≡ cond b (y ∷ filter test xs) (filter test xs) ++ x ∷ []) [
      | true ↦ ap (λ ys. y ∷ ys) rest
      | false ↦ rest
    ]

-- an alarm that is sent is stored behind the others
pub stored-sent : (first record_number : ℕ) (notification : Notification) (past : List NtfChange) → is_alarm notification.body ≡ true → first ≤ record_number → stored_alarms first (Sent notification record_number ∷ past) ≡ stored_alarms first past ++ kept_alarm record_number notification ∷ []
stored-sent first record_number notification past alarm standing =
    let test = λ (a : KeptAlarm). nat_le first a.number in
    let stands : nat_le first record_number ≡ true = grind (arith, nat_tests) in
    ap (λ b. from_record first (cond b (alarms_sent past ++ kept_alarm record_number notification ∷ []) (alarms_sent past))) alarm ∙ filter-more test (alarms_sent past) (kept_alarm record_number notification) stands

-- another notification changes nothing
pub stored-other : (first record_number : ℕ) (notification : Notification) (past : List NtfChange) → is_alarm notification.body ≡ false → stored_alarms first (Sent notification record_number ∷ past) ≡ stored_alarms first past
stored-other first record_number notification past other =
    ap (λ b. from_record first (cond b (alarms_sent past ++ kept_alarm record_number notification ∷ []) (alarms_sent past))) other

-- where the first record that stands is a later one, the alarms of earlier records go
later-only : (first later number : ℕ) → first ≤ later → (low high : Bool) → nat_le first number ≡ low → nat_le later number ≡ high → low ≡ false → high ≡ false
later-only first later number order low high is was none = grind (arith, nat_tests)

from_record-later : (first later : ℕ) (alarms : List KeptAlarm) → first ≤ later → from_record later (from_record first alarms) ≡ from_record later alarms
from_record-later first later [] order = refl
from_record-later first later (a ∷ alarms) order = low (nat_le first a.number) refl (from_record-later first later alarms order) where
  low : (b : Bool) → nat_le first a.number ≡ b → from_record later (from_record first alarms) ≡ from_record later alarms → from_record later (cond b (a ∷ from_record first alarms) (from_record first alarms)) ≡ cond (nat_le later a.number) (a ∷ from_record later alarms) (from_record later alarms)
  low true is rest = ap (λ kept. cond (nat_le later a.number) (a ∷ kept) kept) rest
  low false is rest =
      let gone = later-only first later a.number order (nat_le first a.number) (nat_le later a.number) refl refl is in
      rest ∙ ap (λ b. cond b (a ∷ from_record later alarms) (from_record later alarms)) (sym gone)

pub stored-later : (first later : ℕ) (past : List NtfChange) → first ≤ later → from_record later (stored_alarms first past) ≡ stored_alarms later past
stored-later first later past order = from_record-later first later (alarms_sent past) order

-- the ids of alarms are at most this one
abbrev IdsUpTo : ℕ → List KeptAlarm → Type 0
IdsUpTo id [] = ⊤
IdsUpTo id (a ∷ alarms) = (a.notification.id ≤ id) × IdsUpTo id alarms

above_all : (number id : ℕ) (alarms : List KeptAlarm) → HaveNumbersBelow number alarms → IdsUpTo id alarms → IsAboveAll number (id + 1) alarms
above_all number id [] below ids = tt
above_all number id (a ∷ alarms) below ids = (below.0, omega (arith, ids.0), above_all number id alarms below.1 ids.1)

IdsUpTo-more : (id : ℕ) (alarms : List KeptAlarm) (a : KeptAlarm) → IdsUpTo id alarms → a.notification.id ≡ id + 1 → IdsUpTo (id + 1) (alarms ++ a ∷ [])
IdsUpTo-more id [] a ids next = (omega (arith, next), tt)
IdsUpTo-more id (b ∷ alarms) a ids next = (omega (arith, ids.0), IdsUpTo-more id alarms a ids.1 next)

IdsUpTo-higher : (id : ℕ) (alarms : List KeptAlarm) → IdsUpTo id alarms → IdsUpTo (id + 1) alarms
IdsUpTo-higher id [] ids = tt
IdsUpTo-higher id (b ∷ alarms) ids = (omega (arith, ids.0), IdsUpTo-higher id alarms ids.1)

-- the ids of alarms that were sent are at most the last id
alarms-ids : (past : List NtfChange) → ArePossible past → IdsUpTo (last_id past) (alarms_sent past)
alarms-ids [] possible = tt
alarms-ids (Began client ∷ past) possible = alarms-ids past possible.1
alarms-ids (Ended client ∷ past) possible = alarms-ids past possible.1
alarms-ids (Subscribed sub ∷ past) possible = alarms-ids past possible.1
alarms-ids (Unsubscribed client id ∷ past) possible = alarms-ids past possible.1
alarms-ids (Sent notification record_number ∷ past) possible = told (is_alarm notification.body) (alarms-ids past possible.1) where
  told : (b : Bool) → IdsUpTo (last_id past) (alarms_sent past) → IdsUpTo (last_id past + 1) (cond b (alarms_sent past ++ kept_alarm record_number notification ∷ []) (alarms_sent past))
  told true ids = IdsUpTo-more (last_id past) (alarms_sent past) (kept_alarm record_number notification) ids possible.0.id
  told false ids = IdsUpTo-higher (last_id past) (alarms_sent past) ids
alarms-ids (Receipted client key through ∷ past) possible = alarms-ids past possible.1

-- the view can add an alarm that can be sent
sent-can_add : (past : List NtfChange) (notification : Notification) (record_number : ℕ) → ArePossible past → CanSend notification record_number past → is_alarm notification.body ≡ true → CanAdd record_number notification (alarms_sent past)
sent-can_add past notification record_number possible can alarm =
    let P : ℕ → Type 0 = λ id. IsAboveAll record_number id (alarms_sent past) in
    record {
      alarm = is_alarm-is notification.body alarm;
      bound = can.bound;
      above = subst P (sym can.id) (above_all record_number (last_id past) (alarms_sent past) (can.later alarm) (alarms-ids past possible));
    }

IsAboveAll-from : (number id first : ℕ) (alarms : List KeptAlarm) → IsAboveAll number id alarms → IsAboveAll number id (from_record first alarms)
IsAboveAll-from number id first [] above = tt
IsAboveAll-from number id first (a ∷ alarms) above = kept (nat_le first a.number) (IsAboveAll-from number id first alarms above.2) where
  kept : (b : Bool) → IsAboveAll number id (from_record first alarms) → IsAboveAll number id (cond b (a ∷ from_record first alarms) (from_record first alarms))
  kept true rest = (above.0, above.1, rest)
  kept false rest = rest

pub stored-can_add : (first : ℕ) (past : List NtfChange) (notification : Notification) (record_number : ℕ) → ArePossible past → CanSend notification record_number past → is_alarm notification.body ≡ true → CanAdd record_number notification (stored_alarms first past)
stored-can_add first past notification record_number possible can alarm =
    let all = sent-can_add past notification record_number possible can alarm in
    record {
      alarm = all.alarm;
      bound = all.bound;
      above = IsAboveAll-from record_number notification.id first (alarms_sent past) all.above;
    }

-- stored alarms stand in order
alarms-order : (past : List NtfChange) → ArePossible past → AreInOrder (alarms_sent past)
alarms-order [] possible = omega arith
alarms-order (Began client ∷ past) possible = alarms-order past possible.1
alarms-order (Ended client ∷ past) possible = alarms-order past possible.1
alarms-order (Subscribed sub ∷ past) possible = alarms-order past possible.1
alarms-order (Unsubscribed client id ∷ past) possible = alarms-order past possible.1
alarms-order (Sent notification record_number ∷ past) possible = told (is_alarm notification.body) refl (alarms-order past possible.1) where
  told : (b : Bool) → is_alarm notification.body ≡ b → AreInOrder (alarms_sent past) → AreInOrder (cond b (alarms_sent past ++ kept_alarm record_number notification ∷ []) (alarms_sent past))
  told true is rest =
      AreInOrder-added record_number notification (alarms_sent past) rest (sent-can_add past notification record_number possible.1 possible.0 is)
  told false is rest = rest
alarms-order (Receipted client key through ∷ past) possible = alarms-order past possible.1

pub stored-order : (first : ℕ) (past : List NtfChange) → ArePossible past → AreInOrder (stored_alarms first past)
stored-order first past possible = AreInOrder-from_record first (alarms_sent past) (alarms-order past possible)
