-- Words of public clauses: which notifications a set of filters asks for.
use Rattle.std.specs.Prelude.{◌≡◌, ℕ, ◌⊎◌, List, [], Contains, Option, Some, None, IsSomeAnd}
use Rattle.ntf_types.specs.declared.notification.Body.{Body}
use Rattle.ntf_types.specs.declared.notification.Body.TheVariants.{Objects, Attributes, States, Alarm, Security}
use Rattle.ntf_types.specs.declared.notification.Notification.{Notification}
use Rattle.ntf_filters.specs.declared.filter.Filter.{Filter}
use Rattle.ntf_filters.specs.declared.filter.FilterSet.{FilterSet}

-- the source indicator of a notification on objects, attributes or states
abbrev pub source_of : Body → Option ℕ
source_of (Objects source attrs) = Some source
source_of (Attributes source changes) = Some source
source_of (States source changes) = Some source
source_of (Alarm cause severity) = None
source_of (Security cause severity detector user provider) = None

-- the probable cause of an alarm or a security alarm
abbrev pub cause_of : Body → Option ℕ
cause_of (Objects source attrs) = None
cause_of (Attributes source changes) = None
cause_of (States source changes) = None
cause_of (Alarm cause severity) = Some cause
cause_of (Security cause severity detector user provider) = Some cause

-- the perceived severity of an alarm or a security alarm
abbrev pub severity_of : Body → Option ℕ
severity_of (Objects source attrs) = None
severity_of (Attributes source changes) = None
severity_of (States source changes) = None
severity_of (Alarm cause severity) = Some severity
severity_of (Security cause severity detector user provider) = Some severity

-- the filter of a set for the type that a body is of
abbrev pub filter_for : FilterSet → Body → Option Filter
filter_for filters (Objects source attrs) = filters.objects
filter_for filters (Attributes source changes) = filters.attributes
filter_for filters (States source changes) = filters.states
filter_for filters (Alarm cause severity) = filters.alarms
filter_for filters (Security cause severity detector user provider) = filters.security

-- a list asks for nothing, or for this value among others
abbrev pub Admits : {T : Type 0} → List T → T → Type 0
Admits values value = (values ≡ []) ⊎ Contains values value

-- a list of what only some notifications have: where there is none, only a list that asks for nothing admits it
abbrev pub AdmitsOption : {T : Type 0} → List T → Option T → Type 0
AdmitsOption values None = values ≡ []
AdmitsOption values (Some value) = Admits values value

-- each list of a filter admits what the notification has
pub record IsAdmitted (notification : Notification) (filter : Filter) : Type 0 where
  pub types : Admits filter.types notification.event_type
  pub objects : Admits filter.objects notification.object
  pub notifiers : Admits filter.notifiers notification.notifier
  pub classes : Admits filter.classes notification.class
  pub sources : AdmitsOption filter.sources (source_of notification.body)
  pub causes : AdmitsOption filter.causes (cause_of notification.body)
  pub severities : AdmitsOption filter.severities (severity_of notification.body)

-- the set has a filter of the notification's type, and the filter admits it
abbrev pub IsMatch : FilterSet → Notification → Type 0
IsMatch filters notification = IsSomeAnd (filter_for filters notification.body) (IsAdmitted notification)
