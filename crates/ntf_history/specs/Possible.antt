-- Words of public clauses: which changes can follow others. The rows of answers see to it; the laws of histories rest on it.
use Rattle.std.specs.Prelude.{◌≡◌, ℕ, ◌+◌, ◌<◌, true, false, ⊤, List, [], ◌∷◌, length}
use Rattle.std.specs.List.{list_any}
use Rattle.ntf_types.specs.declared.notification.Notification.{Notification}
use Rattle.alarm_view.specs.declared.alarm.KeptAlarm.{KeptAlarm}
use Rattle.ntf_history.specs.Changes.{Sub, NtfChange, is_using, last_id}
use Rattle.ntf_history.specs.Changes.NtfChange.{Subscribed, Sent}
use Rattle.ntf_history.specs.Subscriptions.{has_id, subs, is_known}
use Rattle.ntf_history.specs.StoredAlarms.{is_alarm, alarms_sent}

-- no two subscriptions of one client have the same id
abbrev pub HaveIds : List Sub → Type 0
HaveIds [] = ⊤
HaveIds (sub ∷ others) = (list_any (has_id sub.client sub.id) others ≡ false) × HaveIds others

-- a subscription can be made after these changes: its client uses the service, has made none of that key and has none of that id, and fewer than 64 last
pub record CanSubscribe (sub : Sub) (past : List NtfChange) : Type 0 where
  pub user : is_using past sub.client ≡ true
  pub new : is_known past sub.client sub.key ≡ false
  pub id : list_any (has_id sub.client sub.id) (subs past) ≡ false
  pub few : length (subs past) < 64

-- the records of these alarms have numbers below this one
abbrev pub HaveNumbersBelow : ℕ → List KeptAlarm → Type 0
HaveNumbersBelow number [] = ⊤
HaveNumbersBelow number (alarm ∷ alarms) = (alarm.number < number) × HaveNumbersBelow number alarms

-- a notification can be sent after these changes: it has the next id, and the record of an alarm a number above those of earlier ones
pub record CanSend (notification : Notification) (record_number : ℕ) (past : List NtfChange) : Type 0 where
  pub id : notification.id ≡ last_id past + 1
  pub bound : record_number < 4294967295
  pub later : is_alarm notification.body ≡ true → HaveNumbersBelow record_number (alarms_sent past)

abbrev pub CanFollow : NtfChange → List NtfChange → Type 0
CanFollow (Subscribed sub) past = CanSubscribe sub past
CanFollow (Sent notification record_number) past = CanSend notification record_number past
CanFollow _ past = ⊤

-- each change could follow those before it
abbrev pub ArePossible : List NtfChange → Type 0
ArePossible [] = ⊤
ArePossible (change ∷ past) = CanFollow change past × ArePossible past
