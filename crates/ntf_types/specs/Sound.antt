-- Words of public clauses: what a notification must be to be sent.
use Rattle.std.specs.Prelude.{ℕ, ◌≤◌, ⊤, List, length, All, Contains, IfSome}
use Rattle.ais_values.specs.Times.{IsTime}
use Rattle.ntf_types.specs.declared.value.Value.{Value}
use Rattle.ntf_types.specs.declared.value.Value.TheVariants.{Int, NameOf, TextOf, Binary}
use Rattle.ntf_types.specs.declared.value.Pair.{Pair}
use Rattle.ntf_types.specs.declared.value.Change.{Change}
use Rattle.ntf_types.specs.declared.notification.Body.{Body}
use Rattle.ntf_types.specs.declared.notification.Body.TheVariants.{Objects, Attributes, States, Alarm, Security}
use Rattle.ntf_types.specs.declared.notification.Notification.{Notification}
use Rattle.ntf_types.specs.Kinds.{event_types_of}

-- a source indicator: an object's operation, an unknown one, or a management operation
abbrev pub IsSource : ℕ → Type 0
IsSource source = (1 ≤ source) × (source ≤ 3)

-- a perceived severity: from 0, cleared, to 5, critical
abbrev pub IsSeverity : ℕ → Type 0
IsSeverity severity = severity ≤ 5

-- a text or binary has at most 1,024 bytes
abbrev pub IsShortValue : Value → Type 0
IsShortValue (Int value) = ⊤
IsShortValue (NameOf name) = ⊤
IsShortValue (TextOf text) = length text ≤ 1024
IsShortValue (Binary bytes) = length bytes ≤ 1024

abbrev pub HasShortValue : Pair → Type 0
HasShortValue pair = IsShortValue pair.value

pub record IsShortChange (change : Change) : Type 0 where
  pub after : IsShortValue change.after
  pub before : IfSome change.before IsShortValue

-- a list has at most 16 elements, and P holds of each
pub record AreSound {T : Type 0} (P : T → Type 0) (elements : List T) : Type 0 where
  pub few : length elements ≤ 16
  pub each : All P elements

-- what a body carries is within its bounds
abbrev pub IsSoundBody : Body → Type 0
IsSoundBody (Objects source attrs) = IsSource source × AreSound HasShortValue attrs
IsSoundBody (Attributes source changes) = IsSource source × AreSound IsShortChange changes
IsSoundBody (States source changes) = IsSource source × (length changes ≤ 16)
IsSoundBody (Alarm cause severity) = IsSeverity severity
IsSoundBody (Security cause severity detector user provider) =
    IsSeverity severity × IsShortValue detector × IsShortValue user × IsShortValue provider

-- a notification that may be sent
pub record IsSound (notification : Notification) : Type 0 where
  pub event_type : Contains (event_types_of notification.body) notification.event_type
  pub event_time : IsTime notification.event_time
  pub text : length notification.text ≤ 1024
  pub correlated : length notification.correlated ≤ 16
  pub info : AreSound HasShortValue notification.info
  pub body : IsSoundBody notification.body
