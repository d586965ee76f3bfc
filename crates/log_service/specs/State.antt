-- Words of public clauses: when a call can come, what it did, and of which parts a state can be made.
use Rattle.std.specs.Prelude.{◌≡◌, ◌≢◌, ◌+◌, ◌<◌, ◌≤◌, ℕ, suc, nat_lt, Bool, true, false, Option, None, ℤ, pos, ◌≤ℤ◌, if◌then◌else◌, List, [], ◌∷◌, map}
use Rattle.std.specs.List.{AllByRecursion}
use Rattle.std.specs.Option.{ForSome}
use Rattle.ais_values.specs.declared.status.Status.TheVariants as status
use Rattle.ais_values.specs.declared.kind.StreamKind.{StreamKind}
use Rattle.ais_values.specs.declared.kind.StreamKind.TheVariants.{Alarm}
use Rattle.ais_values.specs.Bounds.{last_moment}
use Rattle.client_set.specs.Rising.{IsRising}
use Rattle.format_expr.specs.Language.{is_notified}
use Rattle.stream_config.specs.Attributes.{kind_of, PassesAttrs}
use Rattle.stream_config.specs.declared.attrs.StreamName.{StreamName}
use Rattle.stream_config.specs.declared.attrs.StreamName.TheVariants as name
use Rattle.stream_config.specs.declared.attrs.StreamAttrs.{StreamAttrs}
use Rattle.stream_config.specs.declared.mark.Mark.{Mark}
use Rattle.stream_config.specs.declared.state.StreamState.{StreamState}
use Rattle.stream_config.specs.declared.event.StreamEvent.{StreamEvent}
use Rattle.stream_config.specs.declared.event.StreamEvent.TheVariants as event
use Rattle.record_print.specs.declared.record.Header.{Header}
use Rattle.record_print.specs.declared.record.Header.TheVariants.{Ntf, Generic}
use Rattle.record_print.specs.declared.record.LogRecord.{LogRecord}
use Rattle.record_print.specs.Printing.{can_print}
use Rattle.log_history.specs.Changes.{LogChange}
use Rattle.log_history.specs.Chronicle.{LogSetup}
use Rattle.log_history.specs.Legal.{IsSetup}
use Rattle.log_history.specs.Table.{OpenStream, LogTable, has_nobody, table, table_after, events_of}
use Rattle.log_history.specs.KeptAnswers.{kept_stream, is_of_application}
use Rattle.log_service.specs.Moments.{second_of}
use Rattle.log_service.specs.declared.step.Step.{Step}

-- what is kept, and for how many streams more there is room
pub record KeptLog : Type 0 where
  pub table : LogTable
  pub spare : ℕ

-- a time at which a call can come: there is room for its stamps behind the last one
pub record IsCallTime (kept : LogTable) (now : ℤ) : Type 0 where
  pub last : kept.last ≤ 19999999000
  pub from : pos 0 ≤ℤ now
  pub to : now ≤ℤ pos last_moment

-- fewer than 4,294,967,294 records of the stream were numbered
abbrev pub HasNumberLeft : LogTable → StreamName → Type 0
HasNumberLeft kept name = ForSome (kept_stream kept.streams name) (λ stream. stream.state.taken < 4294967294)

-- the change was made, and did this to streams
pub record Made (change : LogChange) (old new : LogTable) (events : List StreamEvent) : Type 0 where
  pub now : new ≡ table_after change old
  pub done : events ≡ events_of change old

-- nothing changed
pub record Left (old new : LogTable) (events : List StreamEvent) : Type 0 where
  pub now : new ≡ old
  pub done : events ≡ []

-- what an ok call came to, whose record may be filtered: then nothing changed
abbrev pub Came : (filtered : Bool) → LogChange → (old new : LogTable) → List StreamEvent → Type 0
Came false change old new events = Made change old new events
Came true change old new events = Left old new events

-- what a call tells beside its answer, where it is ok: whether its record was filtered, and its stream's mark
pub record Tells (filtered : Bool) (mark : Option Mark) (step : Step) : Type 0 where
  pub ok : step.status ≡ status.Ok → (step.filtered ≡ filtered) × (step.mark ≡ mark)
  pub refused : step.status ≢ status.Ok → (step.filtered ≡ false) × (step.mark ≡ None)

-- the stream for the records of notifications of a kind: alarms have their own
abbrev pub stream_of_kind : StreamKind → StreamName
stream_of_kind Alarm = name.Alarm
stream_of_kind _ = name.Notification

-- a header of notifications
abbrev pub IsOfNotification : Header → Type 0
IsOfNotification (Ntf id event_type object notifier class event_time) = Unit {0}
IsOfNotification (Generic class user severity) = ⊥

-- a record of a notification of the kind: one of alarms or of other notifications, and none of its times is negative
pub record IsNotified (kind : StreamKind) (rec : LogRecord) : Type 0 where
  pub notified : is_notified kind ≡ true
  pub header : IsOfNotification rec.header
  pub times : can_print rec ≡ true

-- the service begins with this start and these attributes of its well-known streams: alarm, notification and system
pub record BeginsWith (setup : LogSetup) (start : ℤ) (wells : List StreamAttrs) : Type 0 where
  pub second : setup.start ≡ second_of start
  pub attributes : wells ≡ setup.alarm ∷ setup.notification ∷ setup.system ∷ []
  pub sound : IsSetup setup

-- the service can begin so: three sets of attributes that pass, no two with the same path and file
abbrev pub CanBeginWith : ℤ → List StreamAttrs → Type 0
CanBeginWith start wells = (setup : LogSetup) × BeginsWith setup start wells

abbrev pub made_event : OpenStream → StreamEvent
made_event stream = event.Made stream.state

-- nothing happened yet but that the well-known streams were made
pub record HasBegun (setup : LogSetup) (made : LogTable × List StreamEvent) : Type 0 where
  pub now : made.0 ≡ table setup []
  pub done : made.1 ≡ map made_event (table setup []).streams

-- the state with these parts

abbrev pub joined_streams : List StreamState → List (List ℕ) → List Mark → List OpenStream
joined_streams (state ∷ states) (clients ∷ openers) (mark ∷ marks) =
    record { state = state; openers = clients; mark = mark } ∷ joined_streams states openers marks
joined_streams _ _ _ = []

abbrev pub table_with : ℕ → List ℕ → List OpenStream → LogTable
table_with last users streams = record { last = last; users = users; streams = streams }

-- a living stream: its attributes pass, its openers rise, somebody has it open where it is an application's, and every file but the
-- first began with a record
pub record IsSoundStream (stream : OpenStream) : Type 0 where
  pub passes : PassesAttrs (kind_of stream.state.name) stream.state.attrs
  pub openers : IsRising nat_lt stream.openers
  pub opened : has_nobody stream ≡ false
  pub few : stream.state.opened ≤ stream.state.taken + 1

-- how many streams are applications', and how many are not
abbrev pub applications_in : List OpenStream → ℕ
applications_in [] = 0
applications_in (stream ∷ streams) =
    if is_of_application stream then suc (applications_in streams) else applications_in streams

abbrev pub others_in : List OpenStream → ℕ
others_in [] = 0
others_in (stream ∷ streams) = if is_of_application stream then others_in streams else suc (others_in streams)

-- three streams beside those of applications, of which there are 64 at most
pub record AreFew (streams : List OpenStream) : Type 0 where
  pub others : others_in streams ≤ 3
  pub applications : applications_in streams ≤ 64

abbrev pub AreSoundStreams : List OpenStream → Type 0
AreSoundStreams streams = AllByRecursion IsSoundStream streams

-- what holds of all that is kept
pub record IsSoundTable (kept : LogTable) : Type 0 where
  pub users : IsRising nat_lt kept.users
  pub streams : AreSoundStreams kept.streams
  pub few : AreFew kept.streams
