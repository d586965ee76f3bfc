-- Words of public clauses: the five types of notifications, by their codes, and the event types of each.
use Rattle.std.specs.Prelude.{ℕ, List}
use Rattle.ais_values.specs.Events.{object_events, attribute_events, state_events, alarm_events, security_events}
use Rattle.ntf_types.specs.declared.notification.Body.{Body}
use Rattle.ntf_types.specs.declared.notification.Body.TheVariants.{Objects, Attributes, States, Alarm, Security}

-- the code of the type that a body is of
abbrev pub kind_of : Body → ℕ
kind_of (Objects source attrs) = 0x1000
kind_of (Attributes source changes) = 0x2000
kind_of (States source changes) = 0x3000
kind_of (Alarm cause severity) = 0x4000
kind_of (Security cause severity detector user provider) = 0x5000

-- the event types of the type that a body is of
abbrev pub event_types_of : Body → List ℕ
event_types_of (Objects source attrs) = object_events
event_types_of (Attributes source changes) = attribute_events
event_types_of (States source changes) = state_events
event_types_of (Alarm cause severity) = alarm_events
event_types_of (Security cause severity detector user provider) = security_events
