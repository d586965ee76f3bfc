-- Words of public clauses: how lines are written, each in one of its spellings.
use Rattle.std.specs.Prelude.{ℕ, ℤ, List, [], ◌∷◌, ◌++◌, codes}
use Rattle.std.specs.Fmt.{decimal, signed_decimal}
use Rattle.std.specs.List.{flat_map}
use Rattle.std.specs.Ordering.{int_eq}
use Rattle.std.specs.Str.{bytes_eq}
use Rattle.ais_values.specs.Times.{unknown_time}
use Rattle.ais_values.specs.declared.kind.StreamKind.TheVariants as kinds
use Rattle.ais_values.specs.declared.kind.Version.{Version}
use Rattle.ais_values.specs.declared.kind.ClassId.{ClassId}
use Rattle.ntf_types.specs.declared.value.Value.{Value}
use Rattle.ntf_types.specs.declared.value.Value.TheVariants.{Int, NameOf, TextOf, Binary}
use Rattle.ntf_types.specs.declared.value.Pair.{Pair}
use Rattle.ntf_types.specs.declared.value.Change.{Change}
use Rattle.ntf_types.specs.declared.value.StateChange.{StateChange}
use Rattle.ntf_types.specs.declared.notification.Body.{Body}
use Rattle.ntf_types.specs.declared.notification.Body.TheVariants as body
use Rattle.ntf_types.specs.declared.notification.Notification.{Notification}
use Rattle.ntf_filters.specs.declared.filter.Filter.{Filter}
use Rattle.ntf_filters.specs.declared.filter.FilterSet.{FilterSet}
use Rattle.stream_config.specs.declared.attrs.FullAction.{FullAction}
use Rattle.stream_config.specs.declared.attrs.FullAction.TheVariants.{Wrap, Halt, Rotate}
use Rattle.stream_config.specs.declared.attrs.StreamAttrs.{StreamAttrs}
use Rattle.stream_config.specs.declared.attrs.StreamName.{StreamName}
use Rattle.stream_config.specs.declared.attrs.StreamName.TheVariants as stream
use Rattle.stream_config.specs.WellKnown.{default_format}
use Rattle.record_print.specs.declared.record.Header.{Header}
use Rattle.record_print.specs.declared.record.Header.TheVariants as header
use Rattle.calls.specs.declared.call.Ask.{Ask}
use Rattle.calls.specs.declared.call.Ask.TheVariants.{Start, Plain}
use Rattle.calls.specs.declared.call.Call.{Call}
use Rattle.calls.specs.declared.call.Call.TheVariants as call
use Rattle.script_lines.specs.declared.line.Server.{Server}
use Rattle.script_lines.specs.declared.line.Server.TheVariants.{A, B, C}
use Rattle.script_lines.specs.declared.line.WellOptions.{WellOptions}
use Rattle.script_lines.specs.declared.note.NoteKind.{NoteKind}
use Rattle.script_lines.specs.declared.note.NoteKind.TheVariants as kind
use Rattle.script_lines.specs.declared.note.Heading.{Heading}
use Rattle.script_lines.specs.declared.line.Line.{Line}
use Rattle.script_lines.specs.declared.line.Line.TheVariants.{Cluster, Time, Log, Ntf, Deliver, Resend, Mirror, Ack, Work, Push, Inject}
use Rattle.script_lines.specs.declared.line.Line.TheVariants.{Settle, Crash, Arm, Disarm, Restart, DispatchOne, DispatchAll, Servers, Files, Cat}
use Rattle.script_grammar.specs.Values.{hex_word}
use Rattle.script_grammar.specs.Writing.{joined, quoted_text, maybe_text, unless_text, listed_text}
use Rattle.script_language.specs.Notes.{heading_of}

abbrev pub server_text : Server → List ℕ
server_text A = codes "a"
server_text B = codes "b"
server_text C = codes "c"

abbrev pub version_text : Version → List ℕ
version_text version = joined ((version.release ∷ []) ∷ codes "." ∷ decimal version.major ∷ codes "." ∷ decimal version.minor ∷ [])

abbrev pub class_text : ClassId → List ℕ
class_text class = joined (decimal class.vendor ∷ codes "." ∷ decimal class.major ∷ codes "." ∷ decimal class.minor ∷ [])

unfoldable pub value_text : Value → List ℕ
value_text (Int n) = joined (codes "int:" ∷ signed_decimal n ∷ [])
value_text (NameOf name) = joined (codes "name:" ∷ quoted_text name ∷ [])
value_text (TextOf text) = joined (codes "text:" ∷ quoted_text text ∷ [])
value_text (Binary bytes) = joined (codes "bin:" ∷ quoted_text bytes ∷ [])

unfoldable pub pair_text : Pair → List ℕ
pair_text pair = joined (decimal pair.id ∷ codes ":" ∷ value_text pair.value ∷ [])

unfoldable pub change_text : Change → List ℕ
change_text change = joined (decimal change.id ∷ codes ":" ∷ value_text change.after ∷ maybe_text (codes "<") value_text change.before ∷ [])

unfoldable pub state_change_text : StateChange → List ℕ
state_change_text change = joined (decimal change.id ∷ codes ":" ∷ decimal change.after ∷ maybe_text (codes "<") decimal change.before ∷ [])

-- a time that is left out where it is unknown
abbrev pub known_time_text : List ℕ → ℤ → List ℕ
known_time_text word time = unless_text (λ other. int_eq other unknown_time) word signed_decimal time

abbrev pub note_kind_text : NoteKind → List ℕ
note_kind_text kind.Objects = codes "objects"
note_kind_text kind.Attributes = codes "attributes"
note_kind_text kind.States = codes "states"
note_kind_text kind.Alarm = codes "alarm"
note_kind_text kind.Security = codes "security"

-- the type of what is told
abbrev pub note_kind_of : Body → NoteKind
note_kind_of (body.Objects source attrs) = kind.Objects
note_kind_of (body.Attributes source changes) = kind.Attributes
note_kind_of (body.States source changes) = kind.States
note_kind_of (body.Alarm cause severity) = kind.Alarm
note_kind_of (body.Security cause severity detector user provider) = kind.Security

-- what each notification has, where its time is written so
unfoldable pub heading_text_by : (ℤ → List ℕ) → Heading → List ℕ
heading_text_by time heading = joined (
    codes " type=" ∷ hex_word heading.event_type
    ∷ codes " obj=" ∷ quoted_text heading.object
    ∷ codes " by=" ∷ quoted_text heading.notifier
    ∷ codes " class=" ∷ class_text heading.class
    ∷ time heading.event_time
    ∷ listed_text (codes " corr=") decimal heading.correlated
    ∷ codes " text=" ∷ quoted_text heading.text
    ∷ listed_text (codes " info=") pair_text heading.info
    ∷ []
    )

abbrev pub heading_text : Heading → List ℕ
heading_text = heading_text_by (known_time_text (codes " time="))

abbrev pub given_time_text : ℤ → List ℕ
given_time_text time = codes " time=" ++ signed_decimal time

unfoldable pub body_text : Body → List ℕ
body_text (body.Objects source attrs) = joined (codes " source=" ∷ decimal source ∷ listed_text (codes " attrs=") pair_text attrs ∷ [])
body_text (body.Attributes source changes) = joined (codes " source=" ∷ decimal source ∷ listed_text (codes " changes=") change_text changes ∷ [])
body_text (body.States source changes) = joined (codes " source=" ∷ decimal source ∷ listed_text (codes " changes=") state_change_text changes ∷ [])
body_text (body.Alarm cause severity) = joined (codes " cause=" ∷ decimal cause ∷ codes " sev=" ∷ decimal severity ∷ [])
body_text (body.Security cause severity detector user provider) = joined (
    codes " cause=" ∷ decimal cause
    ∷ codes " sev=" ∷ decimal severity
    ∷ codes " detector=" ∷ value_text detector
    ∷ codes " user=" ∷ value_text user
    ∷ codes " provider=" ∷ value_text provider
    ∷ []
    )

abbrev pub heading_part : Notification → Heading
heading_part note = heading_of note.event_type note.object note.notifier note.class note.event_time note.correlated note.text note.info

-- a notification as it is sent: an unknown time is left out
unfoldable pub note_text : Notification → List ℕ
note_text note = joined (note_kind_text (note_kind_of note.body) ∷ heading_text (heading_part note) ∷ body_text note.body ∷ [])

-- a notification as it is shown: with its id and its time
unfoldable pub shown_note_text : Notification → List ℕ
shown_note_text note = joined (
    note_kind_text (note_kind_of note.body)
    ∷ codes " id=" ∷ decimal note.id
    ∷ heading_text_by given_time_text (heading_part note)
    ∷ body_text note.body
    ∷ []
    )

unfoldable pub filter_text : Filter → List ℕ
filter_text filter = joined (
    listed_text (codes " types=") hex_word filter.types
    ∷ listed_text (codes " objs=") quoted_text filter.objects
    ∷ listed_text (codes " bys=") quoted_text filter.notifiers
    ∷ listed_text (codes " classes=") class_text filter.classes
    ∷ listed_text (codes " sources=") decimal filter.sources
    ∷ listed_text (codes " causes=") decimal filter.causes
    ∷ listed_text (codes " sevs=") decimal filter.severities
    ∷ []
    )

unfoldable pub filters_text : FilterSet → List ℕ
filters_text filters = joined (
    maybe_text (codes " filter objects") filter_text filters.objects
    ∷ maybe_text (codes " filter attributes") filter_text filters.attributes
    ∷ maybe_text (codes " filter states") filter_text filters.states
    ∷ maybe_text (codes " filter alarm") filter_text filters.alarms
    ∷ maybe_text (codes " filter security") filter_text filters.security
    ∷ []
    )

abbrev pub full_action_text : FullAction → List ℕ
full_action_text Wrap = codes "wrap"
full_action_text Halt = codes "halt"
full_action_text Rotate = codes "rotate"

abbrev pub stream_text : StreamName → List ℕ
stream_text stream.Alarm = codes "alarm"
stream_text stream.Notification = codes "notification"
stream_text stream.System = codes "system"
stream_text (stream.App name) = joined (codes "app:" ∷ quoted_text name ∷ [])

-- attributes behind the word of their first one; the expression that is meant where none stands is left out
unfoldable pub attrs_text : StreamAttrs → List ℕ
attrs_text attrs = joined (
    quoted_text attrs.file
    ∷ codes " path=" ∷ quoted_text attrs.path
    ∷ codes " max=" ∷ decimal attrs.max_file
    ∷ codes " rec=" ∷ decimal attrs.record_size
    ∷ codes " ha=" ∷ decimal attrs.ha
    ∷ codes " full=" ∷ full_action_text attrs.action
    ∷ codes " rot=" ∷ decimal attrs.rotated
    ∷ unless_text (λ text. bytes_eq text (default_format kinds.Application)) (codes " fmt=") quoted_text attrs.expr
    ∷ []
    )

unfoldable pub header_text : Header → List ℕ
header_text (header.Generic class user severity) =
    joined (codes " gen sev=" ∷ decimal severity ∷ codes " class=" ∷ class_text class ∷ codes " user="
    ∷ quoted_text user ∷ [])
header_text (header.Ntf id event_type object notifier class event_time) = joined (
    codes " ntfh id=" ∷ decimal id
    ∷ codes " type=" ∷ hex_word event_type
    ∷ codes " obj=" ∷ quoted_text object
    ∷ codes " by=" ∷ quoted_text notifier
    ∷ codes " class=" ∷ class_text class
    ∷ known_time_text (codes " evtime=") event_time
    ∷ []
    )

unfoldable pub options_text : List ℕ → WellOptions → List ℕ
options_text stream options = joined (
    maybe_text (stream ++ codes "fmt=") quoted_text options.fmt
    ∷ maybe_text (stream ++ codes "rec=") decimal options.rec
    ∷ maybe_text (stream ++ codes "max=") decimal options.max
    ∷ maybe_text (stream ++ codes "full=") full_action_text options.full
    ∷ maybe_text (stream ++ codes "rot=") decimal options.rot
    ∷ []
    )

-- a call behind its client. No line gives an initialisation so, and it is written without a version
unfoldable pub call_text : Call → List ℕ
call_text call.LogInit = codes "init"
call_text (call.LogOpen stream create) = joined (codes "open " ∷ stream_text stream ∷ maybe_text (codes " create file=") attrs_text create ∷ [])
call_text (call.LogWrite stream invocation flags time header body) = joined (
    codes "write " ∷ stream_text stream
    ∷ codes " inv=" ∷ decimal invocation
    ∷ codes " flags=" ∷ decimal flags
    ∷ known_time_text (codes " time=") time
    ∷ header_text header
    ∷ codes " body=" ∷ quoted_text body
    ∷ []
    )
call_text (call.LogClose stream) = joined (codes "close " ∷ stream_text stream ∷ [])
call_text (call.LogFilter stream mask) = joined (codes "filter " ∷ stream_text stream ∷ codes " mask=" ∷ decimal mask ∷ [])
call_text call.LogFini = codes "fini"
call_text call.NtfInit = codes "init"
call_text (call.NtfSend note) = joined (codes "send " ∷ note_text note ∷ [])
call_text (call.NtfSubscribe id filters) = joined (codes "subscribe " ∷ decimal id ∷ filters_text filters ∷ [])
call_text (call.NtfUnsubscribe id) = joined (codes "unsubscribe " ∷ decimal id ∷ [])
call_text (call.ReaderStart mode value filters) =
    joined (codes "reader mode=" ∷ decimal mode ∷ codes " value=" ∷ signed_decimal value ∷ filters_text filters ∷ [])
call_text (call.ReaderRead direction) = joined (codes "read " ∷ decimal direction ∷ [])
call_text call.ReaderEnd = codes "endread"
call_text call.NtfFini = codes "fini"

abbrev pub ask_text : Ask → List ℕ
ask_text (Start service version) = joined (codes "init " ∷ version_text version ∷ [])
ask_text (Plain asked) = call_text asked

-- a line without its LF
unfoldable pub line_text : Line → List ℕ
line_text (Cluster start queue callbacks alarm ntf sys) = joined (
    codes "cluster start=" ∷ signed_decimal start
    ∷ codes " queue=" ∷ decimal queue
    ∷ codes " callbacks=" ∷ decimal callbacks
    ∷ options_text (codes " alarm") alarm
    ∷ options_text (codes " ntf") ntf
    ∷ options_text (codes " sys") sys
    ∷ []
    )
line_text (Time now) = joined (codes "time " ∷ signed_decimal now ∷ [])
line_text (Log client ask) = joined (codes "log " ∷ decimal client ∷ codes " " ∷ ask_text ask ∷ [])
line_text (Ntf client ask) = joined (codes "ntf " ∷ decimal client ∷ codes " " ∷ ask_text ask ∷ [])
line_text (Deliver place) = joined (codes "deliver " ∷ decimal place ∷ [])
line_text (Resend client) = joined (codes "resend " ∷ decimal client ∷ [])
line_text Mirror = codes "mirror"
line_text Ack = codes "ack"
line_text Work = codes "work"
line_text Push = codes "push"
line_text (Inject bytes) = joined (codes "inject " ∷ quoted_text bytes ∷ [])
line_text Settle = codes "settle"
line_text (Crash server) = joined (codes "crash " ∷ server_text server ∷ [])
line_text (Arm server count) = joined (codes "arm " ∷ server_text server ∷ codes " " ∷ decimal count ∷ [])
line_text Disarm = codes "disarm"
line_text (Restart server) = joined (codes "restart " ∷ server_text server ∷ [])
line_text (DispatchOne client) = joined (codes "dispatch " ∷ decimal client ∷ codes " one" ∷ [])
line_text (DispatchAll client workers) = joined (codes "dispatch " ∷ decimal client ∷ codes " all workers=" ∷ decimal workers ∷ [])
line_text Servers = codes "servers"
line_text Files = codes "files"
line_text (Cat name) = joined (codes "cat " ∷ quoted_text name ∷ [])

-- each line for itself, with its LF
abbrev pub script_text : List Line → List ℕ
script_text lines = flat_map (λ line. line_text line ++ 10 ∷ []) lines
