-- Words of public clauses: which values can be handed on, a record for each group of rules.
use Rattle.std.specs.Prelude.{◌≡◌, ◌≢◌, ℕ, ◌+◌, ◌*◌, ◌<◌, ◌≤◌, ◌⊎◌, pos, ◌≤ℤ◌, unsigned_abs, nat_lt, ◌==◌, Bool, true}
use Rattle.std.specs.Prelude.{◌&&◌, List, [], ◌∷◌, length, take, drop, map, find, MatchOption, slice_get}
use Rattle.std.specs.List.{AllByRecursion}
use Rattle.client_set.specs.Members.{has}
use Rattle.client_set.specs.Rising.{IsRising}
use Rattle.ais_values.specs.Codes.{all_differ}
use Rattle.ais_values.specs.Bounds.{most_entries}
use Rattle.format_expr.specs.Language.{is_notified}
use Rattle.stream_config.specs.declared.attrs.StreamName.{StreamName}
use Rattle.stream_config.specs.declared.attrs.StreamName.TheVariants as name
use Rattle.stream_config.specs.declared.mark.Mark.{Mark}
use Rattle.stream_config.specs.declared.state.StreamState.{StreamState}
use Rattle.stream_config.specs.Marks.{first_mark}
use Rattle.stream_config.specs.Attributes.{kind_of, PassesAttrs}
use Rattle.stream_config.specs.AttributeTests.{have_one_place}
use Rattle.stream_config.specs.Equality.{same_name}
use Rattle.stream_config.specs.Fit.{stamps_of, HasFitFiles, first_standing}
use Rattle.ntf_types.specs.Sound.{IsSound}
use Rattle.ntf_filters.specs.Fit as filters
use Rattle.sub_queue.specs.Queue.{IsCapacity}
use Rattle.alarm_view.specs.Alarms.{IsAlarm}
use Rattle.client_window.specs.Windows.{HasRepliesBefore}
use Rattle.calls.specs.declared.saved.Saved.{Saved}
use Rattle.calls.specs.declared.saved.SavedWindow.{SavedWindow}
use Rattle.calls.specs.declared.saved.SavedStream.{SavedStream}
use Rattle.calls.specs.declared.saved.SavedAlarm.{SavedAlarm}
use Rattle.calls.specs.declared.saved.SavedSub.{SavedSub}
use Rattle.calls.specs.declared.saved.SavedReader.{SavedReader}
use Rattle.log_history.specs.Names.{is_application}
use Rattle.log_history.specs.Stamps.{IsStampUpTo}
use Rattle.ntf_history.specs.Rows.{asks_for_alarms}
use Rattle.ntf_history.specs.Subscriptions.{key_first}
use Rattle.plain_service.specs.Legal.{IsClient}

-- clients, rising strictly
pub record AreClients (clients : List ℕ) : Type 0 where
  pub rising : IsRising nat_lt clients
  pub each : AllByRecursion IsClient clients

-- the client is one of these
abbrev pub IsAmong : List ℕ → ℕ → Type 0
IsAmong clients client = has client clients ≡ true

-- at most 4,000,000,000 entries were accepted, and no more ids were given
pub record HasFitCounts (saved : Saved) : Type 0 where
  pub entries : saved.number ≤ most_entries
  pub ids : saved.last_id ≤ saved.number
  pub capacity : IsCapacity saved.capacity

-- the windows of clients: as many replies as calls before the next, or 32; and no more calls than entries
pub record IsFitWindow (number : ℕ) (window : SavedWindow) : Type 0 where
  pub replies : HasRepliesBefore window.next (length window.replies)
  pub next : window.next ≤ number + 1

pub record HaveFitWindows (saved : Saved) : Type 0 where
  pub clients : AreClients (map (λ (window : SavedWindow). window.client) saved.windows)
  pub each : AllByRecursion (IsFitWindow saved.number) saved.windows

-- the mark of a stream: there is such a mask, and such an entry; the alarm and the notification stream were never set
pub record IsFitMark (number : ℕ) (stream : StreamName) (mark : Mark) : Type 0 where
  pub mask : mark.mask ≤ 127
  pub since : mark.since ≤ number
  pub unset : is_notified (kind_of stream) ≡ true → mark ≡ first_mark

-- a living stream: its attributes pass, whoever has it open uses the service, its files can be those of the records that it has taken, with
-- stamps from 0 to the last one, no more records were taken than entries accepted, and its mark is fit
pub record IsFitStream (saved : Saved) (stream : SavedStream) : Type 0 where
  pub attributes : PassesAttrs (kind_of stream.state.name) stream.state.attrs
  pub openers : AreClients stream.openers
  pub users : AllByRecursion (IsAmong saved.log_users) stream.openers
  pub files : HasFitFiles stream.state
  pub stamps : AllByRecursion (IsStampUpTo saved.last_stamp) (stamps_of stream.state.files)
  pub taken : stream.state.taken ≤ saved.number
  pub mark : IsFitMark saved.number stream.state.name stream.mark

-- a stream of an application lives while somebody has it open
pub record IsOfApplication (stream : SavedStream) : Type 0 where
  pub named : is_application stream.state.name ≡ true
  pub opened : stream.openers ≢ []

abbrev pub have_one_name : SavedStream → SavedStream → Bool
have_one_name one other = same_name one.state.name other.state.name

abbrev pub stand_at_one_place : SavedStream → SavedStream → Bool
stand_at_one_place one other = have_one_place one.state.attrs other.state.attrs

-- first the well-known streams, then at most 64 of applications; no two of one name, or of one path and file
pub record HaveFitStreams (saved : Saved) : Type 0 where
  pub users : AreClients saved.log_users
  pub well_known : map (λ (stream : SavedStream). stream.state.name) (take 3 saved.streams) ≡ name.Alarm ∷ name.Notification ∷ name.System ∷ []
  pub others : AllByRecursion IsOfApplication (drop 3 saved.streams)
  pub few : length (drop 3 saved.streams) ≤ 64
  pub names : all_differ have_one_name saved.streams ≡ true
  pub places : all_differ stand_at_one_place saved.streams ≡ true
  pub each : AllByRecursion (IsFitStream saved) saved.streams

-- the last stamp leaves room for those that end the streams of applications
pub record HasFitStamp (saved : Saved) : Type 0 where
  pub from : pos 0 ≤ℤ saved.last_stamp
  pub to : unsigned_abs saved.last_stamp + length (drop 3 saved.streams) ≤ 9000000100 + 2 * saved.number

-- the record of this number stands in the files of a stream
pub record IsStanding (state : StreamState) (number : ℕ) : Type 0 where
  pub from : first_standing state ≤ number
  pub below : number < state.taken

-- an alarm or security alarm that was sent, and whose record stands in the alarm stream, which is the first
pub record IsFitAlarm (saved : Saved) (alarm : SavedAlarm) : Type 0 where
  pub stands : MatchOption (slice_get saved.streams 0) ⊥ (λ stream. IsStanding stream.state alarm.k)
  pub id : alarm.notification.id ≤ saved.last_id
  pub body : IsAlarm alarm.notification.body
  pub sound : IsSound alarm.notification
  pub time : pos 0 ≤ℤ alarm.notification.event_time

abbrev pub is_record_before : SavedAlarm → SavedAlarm → Bool
is_record_before one other = nat_lt one.k other.k

abbrev pub is_id_before : SavedAlarm → SavedAlarm → Bool
is_id_before one other = nat_lt one.notification.id other.notification.id

-- stored alarms, by the numbers of their records and by their ids
pub record HaveFitAlarms (saved : Saved) : Type 0 where
  pub records : IsRising is_record_before saved.alarms
  pub ids : IsRising is_id_before saved.alarms
  pub each : AllByRecursion (IsFitAlarm saved) saved.alarms

-- the client made a call of this number
abbrev pub HasCalled : Saved → (client number : ℕ) → Type 0
HasCalled saved client number =
    MatchOption (find (λ (window : SavedWindow). window.client == client) saved.windows) ⊥ (λ window. number < window.next)

-- a subscription of a user: its items are numbered from 1 on, as many at most as the capacity, and none is lost while there is a place
pub record IsFitSub (saved : Saved) (sub : SavedSub) : Type 0 where
  pub user : IsAmong saved.ntf_users sub.client
  pub key : HasCalled saved sub.client sub.key
  pub filters : filters.IsFit sub.filters
  pub first : 1 ≤ sub.first
  pub places : length sub.held ≤ saved.capacity
  pub lost : (sub.lost ≡ []) ⊎ (length sub.held ≡ saved.capacity)
  pub numbers : sub.first + length sub.held ≤ saved.number + 1

abbrev pub is_sub_before : SavedSub → SavedSub → Bool
is_sub_before one other = key_first one.client one.key other.client other.key

abbrev pub have_one_id : SavedSub → SavedSub → Bool
have_one_id one other = one.client == other.client && one.id == other.id

-- at most 64 subscriptions, by client and key; no two of one client and id
pub record HaveFitSubs (saved : Saved) : Type 0 where
  pub users : AreClients saved.ntf_users
  pub order : IsRising is_sub_before saved.subs
  pub ids : all_differ have_one_id saved.subs ≡ true
  pub few : length saved.subs ≤ 64
  pub each : AllByRecursion (IsFitSub saved) saved.subs

-- a reader of a user, of alarms and security alarms alone
pub record IsFitReader (saved : Saved) (reader : SavedReader) : Type 0 where
  pub user : IsAmong saved.ntf_users reader.client
  pub filters : filters.IsFit reader.filters
  pub alarms : asks_for_alarms reader.filters ≡ true

pub record HaveFitReaders (saved : Saved) : Type 0 where
  pub clients : AreClients (map (λ (reader : SavedReader). reader.client) saved.readers)
  pub few : length saved.readers ≤ 16
  pub each : AllByRecursion (IsFitReader saved) saved.readers

-- a value that can be handed on
pub record IsFit (saved : Saved) : Type 0 where
  pub counts : HasFitCounts saved
  pub windows : HaveFitWindows saved
  pub streams : HaveFitStreams saved
  pub stamp : HasFitStamp saved
  pub alarms : HaveFitAlarms saved
  pub subs : HaveFitSubs saved
  pub readers : HaveFitReaders saved
