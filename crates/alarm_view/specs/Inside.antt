-- Words of bodies alone: how the alarms are kept, in order of records and beside them their places in order of time and id; what searches of places find.
use Rattle.std.specs.Prelude.{◌≡◌, ◌↔◌, ℕ, ℤ, pos, ◌-◌, ◌<◌, ◌≤◌, min, Bool, true, false, not, int_lt, Option, MatchOption}
use Rattle.std.specs.Prelude.{List, length, map, slice_index_or, vec_len}
use Rattle.std.specs.List.Sorted.{IsPartitionPoint}
use Rattle.std.specs.Vec.{vec_capacity}
use Rattle.std.specs.VecDeque.{deque_len, deque_capacity}
use Rattle.ntf_types.specs.declared.notification.Notification.{Notification}
use Rattle.ntf_filters.specs.declared.filter.FilterSet.{FilterSet}
use Rattle.ntf_filters.specs.Meaning.{IsMatch}
use Rattle.client_set.specs.Members.{Stands}
use Rattle.client_set.specs.Rising.{IsRising}
use Rattle.alarm_view.specs.declared.alarm.KeptAlarm.{KeptAlarm}
use Rattle.alarm_view.specs.declared.cursor.Cursor.{Cursor}
use Rattle.alarm_view.specs.declared.mode.SearchMode.{SearchMode}
use Rattle.alarm_view.specs.declared.mode.Direction.{Direction}
use Rattle.alarm_view.specs.declared.mode.Direction.TheVariants.{Older, Younger}
use Rattle.alarm_view.specs.declared.place.Place.{Place}
use Rattle.alarm_view.specs.declared.place.Cut.{Cut}
use Rattle.alarm_view.specs.declared.place.Cut.TheVariants.{Before, Through, At, Behind}
use Rattle.alarm_view.specs.Order.{Point, point_of, is_older}
use Rattle.alarm_view.specs.declared.view.AlarmView.TheInside.{Inside}
use Rattle.alarm_view.specs.Alarms.{AreInOrder, KeptAlarms}
use Rattle.alarm_view.specs.Nearest.{IsNearest, IsNone, CanStart, CanFollow, IsStart, IsNext}

-- the place of an alarm, and its point in the order

abbrev pub place_of : KeptAlarm → Place
place_of alarm =
    record { time = alarm.notification.event_time; id = alarm.notification.id; number = alarm.number }

abbrev pub places_of : List KeptAlarm → List Place
places_of alarms = map place_of alarms

abbrev pub point_in : Place → Point
point_in place = record { time = place.time; id = place.id }

abbrev pub place_first : Place → Place → Bool
place_first one other = is_older (point_in one) (point_in other)

-- the places of the alarms are those of the order, which rises
pub record IsIndexed (alarms : List KeptAlarm) (order : List Place) : Type 0 where
  pub in_order : AreInOrder alarms
  pub rising : IsRising place_first order
  pub listed : (place : Place) → Stands place order ↔ Stands place (places_of alarms)

-- room for an alarm is room in both orders
abbrev pub kept_inside : Inside → KeptAlarms
kept_inside inside = record {
  kept = inside.alarms.items;
  spare = min (deque_capacity inside.alarms - deque_len inside.alarms) (vec_capacity inside.order - vec_len inside.order);
}

-- the points that lie below a cut
abbrev pub is_below : Cut → Point → Bool
is_below (Before time) point = int_lt point.time time
is_below (Through time) point = not (int_lt time point.time)
is_below (At time id) point = is_older point (record { time = time; id = id })
is_below (Behind time id) point = not (is_older (record { time = time; id = id }) point)

-- so many places lie below a cut, and the rest does not
abbrev pub IsCutAt : Cut → List Place → ℕ → Type 0
IsCutAt cut order place =
    IsPartitionPoint (λ (x : Place). is_below cut (point_in x) ≡ true) (λ (x : Place). is_below cut (point_in x) ≡ false) order place

-- the alarm stands at this place
abbrev pub IsPlacedAt : List Place → ℕ → Notification → Type 0
IsPlacedAt order place alarm = (d : Place) → point_in (slice_index_or order place d) ≡ point_of alarm

-- the alarms that pass a test are those at the places from the first number on and below the second
pub record IsRangeOf (test : Notification → Bool) (order : List Place) (low high : ℕ) : Type 0 where
  pub within : high ≤ length order
  pub passes : (alarm : Notification) (place : ℕ) → low ≤ place → place < high → IsPlacedAt order place alarm → test alarm ≡ true
  pub before : (alarm : Notification) (place : ℕ) → place < low → place < length order → IsPlacedAt order place alarm → test alarm ≡ false
  pub behind : (alarm : Notification) (place : ℕ) → high ≤ place → place < length order → IsPlacedAt order place alarm → test alarm ≡ false

-- the alarm stands at one of these places, and the filters ask for it
pub record IsAskedWithin (order : List Place) (low high : ℕ) (filters : FilterSet) (alarm : Notification) : Type 0 where
  pub place : ℕ
  pub from : low ≤ place
  pub below : place < high
  pub placed : IsPlacedAt order place alarm
  pub matches : IsMatch filters alarm

-- the alarm stands at this point, and the filters ask for it
pub record IsAskedOf (point : Point) (filters : FilterSet) (alarm : Notification) : Type 0 where
  pub placed : point_of alarm ≡ point
  pub matches : IsMatch filters alarm

-- what a search finds: the nearest of the alarms for which P holds, or none where P holds of none
abbrev pub IsFound : Direction → (Notification → Type 0) → List Notification → Option Notification → Type 0
IsFound way P alarms found = MatchOption found (IsNone P alarms) (IsNearest way P alarms)

abbrev pub IsFoundWithin : Direction → List Notification → List Place → ℕ → ℕ → FilterSet → Option Notification → Type 0
IsFoundWithin way alarms order low high filters = IsFound way (IsAskedWithin order low high filters) alarms

abbrev pub StartsAt : SearchMode → ℤ → FilterSet → List Notification → Option Notification → Type 0
StartsAt mode value filters alarms found =
    MatchOption found (IsNone (CanStart mode value filters) alarms) (IsStart mode value filters alarms)

abbrev pub GoesOnAt : Cursor → Direction → FilterSet → List Notification → Option Notification → Type 0
GoesOnAt cursor way filters alarms found =
    MatchOption found (IsNone (CanFollow way cursor filters) alarms) (IsNext cursor way filters alarms)

-- what is found at a point
pub record StandsAsked (alarms : List Notification) (point : Point) (filters : FilterSet) (alarm : Notification) : Type 0 where
  pub stands : Stands alarm alarms
  pub asked : IsAskedOf point filters alarm

abbrev pub IsAskedAt : List Notification → Point → FilterSet → Option Notification → Type 0
IsAskedAt alarms point filters found =
    MatchOption found (IsNone (IsAskedOf point filters) alarms) (StandsAsked alarms point filters)

-- an alarm of an id, or none

pub record IsOfId (id : ℕ) (alarms : List KeptAlarm) (alarm : KeptAlarm) : Type 0 where
  pub stands : Stands alarm alarms
  pub same : alarm.notification.id ≡ id

abbrev pub LacksId : ℕ → List KeptAlarm → Type 0
LacksId id alarms = (alarm : KeptAlarm) → Stands alarm alarms → alarm.notification.id ≡ id → ⊥

-- the id that a signed number is
abbrev pub IsIdIn : ℤ → Option ℕ → Type 0
IsIdIn value found = MatchOption found ((id : ℕ) → pos id ≡ value → ⊥) (λ id. pos id ≡ value)

-- the cut at which a reader goes on, by its direction and by whether nothing was read yet
abbrev pub cut_for : Direction → Bool → ℤ → ℕ → Cut
cut_for Younger true time id = At time id
cut_for Younger false time id = Behind time id
cut_for Older true time id = Behind time id
cut_for Older false time id = At time id

abbrev pub cut_at : Direction → Cursor → Cut
cut_at way cursor = cut_for way cursor.fresh cursor.time cursor.id
