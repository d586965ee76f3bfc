-- Worked rows: what the definitions give on small histories.
use Rattle.std.proofs.Common.{◌≡◌, ℕ, true, false, List, [], ◌∷◌, length, map, refl}
use Rattle.std.specs.Prelude.{Some, None, pos}
use Rattle.ais_values.specs.FirstRow.{first_row}
use Rattle.ais_values.specs.declared.status.Status.TheVariants.{BadHandle, NotExist, Exist, NoResources}
use Rattle.ntf_types.specs.declared.notification.Body.TheVariants.{Alarm}
use Rattle.ntf_types.specs.declared.notification.Notification.{Notification}
use Rattle.ntf_filters.specs.declared.filter.Filter.{Filter}
use Rattle.ntf_filters.specs.declared.filter.FilterSet.{FilterSet}
use Rattle.ntf_filters.specs.Matching.{admits, admits_option, admits_common, admits_body}
use Rattle.ntf_filters.specs.FitTests.{is_fit}
use Rattle.sub_queue.specs.declared.item.Content.TheVariants.{Notified, Discarded}
use Rattle.sub_queue.specs.Items.{mark_of}
use Rattle.alarm_view.specs.declared.cursor.Cursor.{Cursor}
use Rattle.alarm_view.specs.declared.alarm.KeptAlarm.{KeptAlarm}
use Rattle.ntf_history.specs.Changes.{Sub, NtfChange, last_id}
use Rattle.ntf_history.specs.Changes.NtfChange.{Began, Ended, Subscribed, Unsubscribed, Sent, Receipted}
use Rattle.ntf_history.specs.Subscriptions.{subs, account, made, through_of, asked_while, dropped_while}
use Rattle.ntf_history.specs.StoredAlarms.{stored_alarms}
use Rattle.ntf_history.specs.Readers.{reader_of}
use Rattle.ntf_history.specs.Readers.ReaderChange.{Started, Told, Stopped}
use Rattle.ntf_history.specs.Rows.{begin_rows, end_rows, subscribe_rows, unsubscribe_rows, stop_rows, read_by}

-- an alarm of this id, at the time 100
abbrev alarm : ℕ → Notification
alarm id = record {
  id = id;
  event_type = 0x4001;
  object = 111 ∷ [];
  notifier = 112 ∷ [];
  class = record { vendor = 1; major = 2; minor = 3 };
  event_time = pos 100;
  correlated = [];
  text = [];
  info = [];
  body = Alarm 1 2;
}

-- a filter that asks for nothing in particular
abbrev open_filter : Filter
open_filter = record {
  types = [];
  objects = [];
  notifiers = [];
  classes = [];
  sources = [];
  causes = [];
  severities = [];
}

-- the filters that ask for all alarms, and for all changes of states
abbrev alarms : FilterSet
alarms = record { objects = None; attributes = None; states = None; alarms = Some open_filter; security = None }

abbrev states : FilterSet
states = record { objects = None; attributes = None; states = Some open_filter; alarms = None; security = None }

-- a client begins its use once, and asks for nothing before
begin_again : first_row (begin_rows (Began 7 ∷ []) 7) ≡ Some NoResources
begin_again = refl

begin_first : first_row (begin_rows (Began 7 ∷ []) 8) ≡ None
begin_first = refl

not_begun : first_row (end_rows (Ended 7 ∷ Began 7 ∷ []) 7) ≡ Some BadHandle
not_begun = refl

-- an id is used by one subscription of a client at a time
abbrev two_subs : List NtfChange
two_subs =
    Subscribed (record { client = 7; key = 3; id = 5; filters = alarms }) ∷ Subscribed (record { client = 2; key = 9; id = 5; filters = alarms }) ∷ Began 2 ∷ Began 7 ∷ []

exist : first_row (subscribe_rows two_subs 7 5 alarms) ≡ Some Exist
unfolding is_fit
exist = refl

not_exist : first_row (unsubscribe_rows (Unsubscribed 7 5 ∷ two_subs) 7 5) ≡ Some NotExist
not_exist = refl

-- subscriptions stand in order of client and key, and a client's end with its use
in_order : map (λ (sub : Sub). sub.client) (subs two_subs) ≡ 2 ∷ 7 ∷ []
in_order = refl

end_of_use : map (λ (sub : Sub). sub.client) (subs (Ended 7 ∷ two_subs)) ≡ 2 ∷ []
end_of_use = refl

-- five alarms to a subscription of capacity 2, with a receipt through 1 behind the third: the second item stays, what was lost is the third item, and the last two are lost
abbrev five_sent : List NtfChange
five_sent =
    Sent (alarm 5) 4 ∷ Sent (alarm 4) 3 ∷ Receipted 7 3 1 ∷ Sent (alarm 3) 2 ∷ Sent (alarm 2) 1 ∷ Sent (alarm 1) 0 ∷ two_subs

five_made : made 2 five_sent 7 3 ≡ Notified (alarm 1) ∷ Notified (alarm 2) ∷ Discarded (record { kind = 0x4000; id = 3 } ∷ []) ∷ []
unfolding admits admits_option admits_common admits_body
five_made = refl

five_lost : (account 2 five_sent 7 3).lost ≡ record { kind = 0x4000; id = 4 } ∷ record { kind = 0x4000; id = 5 } ∷ []
unfolding admits admits_option admits_common admits_body
five_lost = refl

-- all five were asked for, and the last three dropped; what is sent behind the end is not asked for
five_asked : map mark_of (asked_while (Sent (alarm 6) 5 ∷ Unsubscribed 7 5 ∷ five_sent) 7 3) ≡ map mark_of (alarm 1 ∷ alarm 2 ∷ alarm 3 ∷ alarm 4 ∷ alarm 5 ∷ [])
unfolding admits admits_option admits_common admits_body
five_asked = refl

three_dropped : map mark_of (dropped_while 2 (Sent (alarm 6) 5 ∷ Unsubscribed 7 5 ∷ five_sent) 7 3) ≡ map mark_of (alarm 3 ∷ alarm 4 ∷ alarm 5 ∷ [])
unfolding admits admits_option admits_common admits_body
three_dropped = refl

-- the receipt counts for its own subscription alone
others_receipt : through_of 2 five_sent 2 9 ≡ 0
unfolding admits admits_option admits_common admits_body
others_receipt = refl

ids : last_id five_sent ≡ 5
ids = refl

-- what the filters do not ask for is not offered
not_asked : length (made 2 (Sent (alarm 1) 0 ∷ Subscribed (record { client = 7; key = 3; id = 5; filters = states }) ∷ Began 7 ∷ []) 7 3) ≡ 0
unfolding admits admits_option admits_common admits_body
not_asked = refl

-- alarms of records that do not stand any more are not stored
rotated : map (λ (kept : KeptAlarm). kept.number) (stored_alarms 3 five_sent) ≡ 3 ∷ 4 ∷ []
rotated = refl

-- a reader's point is the last alarm that it was told, and goes with its client's use
abbrev started : Cursor
started = record { time = pos 100; id = 2; fresh = true }

abbrev told : Cursor
told = record { time = pos 100; id = 3; fresh = false }

point : reader_of (Told 7 told ∷ Started 7 alarms started ∷ []) 7 ≡ Some (record { client = 7; filters = alarms; cursor = told })
point = refl

no_reader : first_row (stop_rows (Stopped 7 ∷ Started 7 alarms started ∷ []) two_subs 7) ≡ Some BadHandle
no_reader = refl

-- a fresh reader is told the alarm at which it starts, and then those behind it
first_read : read_by (reader_of (Started 7 alarms started ∷ []) 7) 2 (stored_alarms 0 five_sent) ≡ Some (alarm 2)
unfolding admits admits_option admits_common admits_body
first_read = refl

next_read : read_by (reader_of (Told 7 told ∷ Started 7 alarms started ∷ []) 7) 2 (stored_alarms 0 five_sent) ≡ Some (alarm 4)
unfolding admits admits_option admits_common admits_body
next_read = refl

-- the alarm at the point was rotated away: the reader goes on from there all the same
read_past_rotation : read_by (reader_of (Told 7 told ∷ Started 7 alarms started ∷ []) 7) 1 (stored_alarms 3 five_sent) ≡ None
unfolding admits admits_option admits_common admits_body
read_past_rotation = refl
