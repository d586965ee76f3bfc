-- Words of public clauses: how notifications and filters are spelled, and which ones can be. Nothing here knows of reading.
use Rattle.std.specs.Prelude.{◌++◌, ◌∷◌, ℕ, List}
use Rattle.ais_values.specs.Names.{IsName}
use Rattle.ais_values.specs.declared.kind.ClassId.{ClassId}
use Rattle.ntf_types.specs.declared.value.Value.{Value}
use Rattle.ntf_types.specs.declared.value.Pair.{Pair}
use Rattle.ntf_types.specs.declared.value.Change.{Change}
use Rattle.ntf_types.specs.declared.value.StateChange.{StateChange}
use Rattle.ntf_types.specs.declared.notification.Body.{Body}
use Rattle.ntf_types.specs.declared.notification.Notification.{Notification}
use Rattle.ntf_filters.specs.declared.filter.Filter.{Filter}
use Rattle.ntf_filters.specs.declared.filter.FilterSet.{FilterSet}
use Rattle.ntf_types.specs.declared.value.Value.TheVariants as value
use Rattle.ntf_types.specs.declared.notification.Body.TheVariants as body
use Rattle.wire_code.specs.Spelling.{number_text, IsNumber, signed_text, IsSigned, counted_text, IsText, list_text, ListFits, option_text, OptionFits}

-- a class
unfoldable pub class_text : ClassId → List ℕ
class_text class =
    number_text 4 class.vendor ++ (number_text 2 class.major ++ number_text 2 class.minor)

pub record ClassFits (class : ClassId) : Type 0 where
  pub vendor : IsNumber 4 class.vendor
  pub major : IsNumber 2 class.major
  pub minor : IsNumber 2 class.minor

-- a value
unfoldable pub value_text : Value → List ℕ
value_text (value.Int value) = 1 ∷ signed_text value
value_text (value.NameOf name) = 2 ∷ counted_text name
value_text (value.TextOf text) = 3 ∷ counted_text text
value_text (value.Binary bytes) = 4 ∷ counted_text bytes

abbrev pub ValueFits : Value → Type 0
ValueFits (value.Int value) = IsSigned value
ValueFits (value.NameOf name) = IsName name
ValueFits (value.TextOf text) = IsText text
ValueFits (value.Binary bytes) = IsText bytes

-- a value under a number
unfoldable pub pair_text : Pair → List ℕ
pair_text pair =
    number_text 2 pair.id ++ value_text pair.value

pub record PairFits (pair : Pair) : Type 0 where
  pub id : IsNumber 2 pair.id
  pub value : ValueFits pair.value

-- a change of an attribute
unfoldable pub change_text : Change → List ℕ
change_text change =
    number_text 2 change.id ++ (value_text change.after ++ option_text value_text change.before)

pub record ChangeFits (change : Change) : Type 0 where
  pub id : IsNumber 2 change.id
  pub after : ValueFits change.after
  pub before : OptionFits ValueFits change.before

-- a change of a state
unfoldable pub state_change_text : StateChange → List ℕ
state_change_text change =
    number_text 2 change.id ++ (number_text 2 change.after ++ option_text (number_text 2) change.before)

pub record StateChangeFits (change : StateChange) : Type 0 where
  pub id : IsNumber 2 change.id
  pub after : IsNumber 2 change.after
  pub before : OptionFits (IsNumber 2) change.before

-- what a notification tells, by its type
unfoldable pub body_text : Body → List ℕ
body_text (body.Objects source attrs) = 1 ∷ (number_text 2 source ++ list_text pair_text attrs)
body_text (body.Attributes source changes) = 2 ∷ (number_text 2 source ++ list_text change_text changes)
body_text (body.States source changes) = 3 ∷ (number_text 2 source ++ list_text state_change_text changes)
body_text (body.Alarm cause severity) = 4 ∷ (number_text 2 cause ++ number_text 2 severity)
body_text (body.Security cause severity detector user provider) =
    5 ∷ (number_text 2 cause ++ (number_text 2 severity ++ (value_text detector ++ (value_text user
    ++ value_text provider))))

abbrev pub BodyFits : Body → Type 0
BodyFits (body.Objects source attrs) = IsNumber 2 source × ListFits PairFits attrs
BodyFits (body.Attributes source changes) = IsNumber 2 source × ListFits ChangeFits changes
BodyFits (body.States source changes) = IsNumber 2 source × ListFits StateChangeFits changes
BodyFits (body.Alarm cause severity) = IsNumber 2 cause × IsNumber 2 severity
BodyFits (body.Security cause severity detector user provider) =
    IsNumber 2 cause × IsNumber 2 severity × ValueFits detector × ValueFits user × ValueFits provider

-- a notification
unfoldable pub notification_text : Notification → List ℕ
notification_text notification =
    number_text 8 notification.id ++ (number_text 2 notification.event_type ++ (counted_text notification.object
    ++ (counted_text notification.notifier ++ (class_text notification.class ++ (signed_text notification.event_time
    ++ (list_text (number_text 8) notification.correlated ++ (counted_text notification.text
    ++ (list_text pair_text notification.info ++ body_text notification.body))))))))

pub record NotificationFits (notification : Notification) : Type 0 where
  pub id : IsNumber 8 notification.id
  pub event_type : IsNumber 2 notification.event_type
  pub object : IsName notification.object
  pub notifier : IsName notification.notifier
  pub class : ClassFits notification.class
  pub event_time : IsSigned notification.event_time
  pub correlated : ListFits (IsNumber 8) notification.correlated
  pub text : IsText notification.text
  pub info : ListFits PairFits notification.info
  pub body : BodyFits notification.body

-- a filter
unfoldable pub filter_text : Filter → List ℕ
filter_text filter =
    list_text (number_text 2) filter.types ++ (list_text counted_text filter.objects
    ++ (list_text counted_text filter.notifiers ++ (list_text class_text filter.classes
    ++ (list_text (number_text 2) filter.sources ++ (list_text (number_text 2) filter.causes
    ++ list_text (number_text 2) filter.severities)))))

pub record FilterFits (filter : Filter) : Type 0 where
  pub types : ListFits (IsNumber 2) filter.types
  pub objects : ListFits IsName filter.objects
  pub notifiers : ListFits IsName filter.notifiers
  pub classes : ListFits ClassFits filter.classes
  pub sources : ListFits (IsNumber 2) filter.sources
  pub causes : ListFits (IsNumber 2) filter.causes
  pub severities : ListFits (IsNumber 2) filter.severities

-- at most one filter for each type
unfoldable pub filter_set_text : FilterSet → List ℕ
filter_set_text set =
    option_text filter_text set.objects ++ (option_text filter_text set.attributes
    ++ (option_text filter_text set.states ++ (option_text filter_text set.alarms
    ++ option_text filter_text set.security)))

pub record FilterSetFits (set : FilterSet) : Type 0 where
  pub objects : OptionFits FilterFits set.objects
  pub attributes : OptionFits FilterFits set.attributes
  pub states : OptionFits FilterFits set.states
  pub alarms : OptionFits FilterFits set.alarms
  pub security : OptionFits FilterFits set.security
