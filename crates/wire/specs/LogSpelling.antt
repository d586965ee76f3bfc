-- Words of public clauses: how streams and log records are spelled, and which ones can be. Nothing here knows of reading.
use Rattle.std.specs.Prelude.{◌++◌, ◌∷◌, [], ℕ, List}
use Rattle.ais_values.specs.Names.{IsName}
use Rattle.stream_config.specs.declared.attrs.FullAction.{FullAction}
use Rattle.stream_config.specs.declared.attrs.StreamName.{StreamName}
use Rattle.stream_config.specs.declared.attrs.StreamAttrs.{StreamAttrs}
use Rattle.stream_config.specs.declared.mark.Mark.{Mark}
use Rattle.stream_config.specs.declared.state.LogFile.{LogFile}
use Rattle.stream_config.specs.declared.state.StreamState.{StreamState}
use Rattle.record_print.specs.declared.record.Header.{Header}
use Rattle.stream_config.specs.declared.attrs.FullAction.TheVariants as action
use Rattle.stream_config.specs.declared.attrs.StreamName.TheVariants as stream_name
use Rattle.record_print.specs.declared.record.Header.TheVariants as header
use Rattle.wire_code.specs.Spelling.{number_text, IsNumber, signed_text, IsSigned, counted_text, IsText, list_text, ListFits, option_text, OptionFits}
use Rattle.wire.specs.NtfSpelling.{class_text, ClassFits}

-- what a stream does with a record that does not fit its file
unfoldable pub action_text : FullAction → List ℕ
action_text action.Wrap = 1 ∷ []
action_text action.Halt = 2 ∷ []
action_text action.Rotate = 3 ∷ []

abbrev pub ActionFits : FullAction → Type 0
ActionFits action = Unit {0}

-- the name of a stream
unfoldable pub stream_name_text : StreamName → List ℕ
stream_name_text stream_name.Alarm = 1 ∷ []
stream_name_text stream_name.Notification = 2 ∷ []
stream_name_text stream_name.System = 3 ∷ []
stream_name_text (stream_name.App name) = 4 ∷ counted_text name

abbrev pub StreamNameFits : StreamName → Type 0
StreamNameFits stream_name.Alarm = Unit {0}
StreamNameFits stream_name.Notification = Unit {0}
StreamNameFits stream_name.System = Unit {0}
StreamNameFits (stream_name.App name) = IsName name

-- the attributes of a stream
unfoldable pub attrs_text : StreamAttrs → List ℕ
attrs_text attrs =
    counted_text attrs.file ++ (counted_text attrs.path ++ (number_text 8 attrs.max_file
    ++ (number_text 4 attrs.record_size ++ (number_text 1 attrs.ha ++ (action_text attrs.action
    ++ (number_text 4 attrs.rotated ++ counted_text attrs.expr))))))

pub record AttrsFits (attrs : StreamAttrs) : Type 0 where
  pub file : IsText attrs.file
  pub path : IsText attrs.path
  pub max_file : IsNumber 8 attrs.max_file
  pub record_size : IsNumber 4 attrs.record_size
  pub ha : IsNumber 1 attrs.ha
  pub action : ActionFits attrs.action
  pub rotated : IsNumber 4 attrs.rotated
  pub expr : IsText attrs.expr

-- a file of a stream: its stamps, the number of its first record, its length
unfoldable pub log_file_text : LogFile → List ℕ
log_file_text file =
    signed_text file.created ++ (option_text signed_text file.closed ++ (number_text 4 file.first ++ number_text 8 file.bytes))

pub record LogFileFits (file : LogFile) : Type 0 where
  pub created : IsSigned file.created
  pub closed : OptionFits IsSigned file.closed
  pub first : IsNumber 4 file.first
  pub bytes : IsNumber 8 file.bytes

-- a stream as it stands
unfoldable pub stream_text : StreamState → List ℕ
stream_text stream =
    stream_name_text stream.name ++ (attrs_text stream.attrs ++ (number_text 4 stream.taken
    ++ (number_text 4 stream.opened ++ list_text log_file_text stream.files)))

pub record StreamFits (stream : StreamState) : Type 0 where
  pub name : StreamNameFits stream.name
  pub attrs : AttrsFits stream.attrs
  pub taken : IsNumber 4 stream.taken
  pub opened : IsNumber 4 stream.opened
  pub files : ListFits LogFileFits stream.files

-- the mark of a stream
unfoldable pub mark_text : Mark → List ℕ
mark_text mark =
    number_text 8 mark.since ++ number_text 4 mark.mask

pub record MarkFits (mark : Mark) : Type 0 where
  pub since : IsNumber 8 mark.since
  pub mask : IsNumber 4 mark.mask

-- the header of a log record
unfoldable pub header_text : Header → List ℕ
header_text (header.Ntf id event_type object notifier class event_time) =
    1 ∷ (number_text 8 id ++ (number_text 2 event_type ++ (counted_text object ++ (counted_text notifier
    ++ (class_text class ++ signed_text event_time)))))
header_text (header.Generic class user severity) = 2 ∷ (class_text class ++ (counted_text user ++ number_text 2 severity))

abbrev pub HeaderFits : Header → Type 0
HeaderFits (header.Ntf id event_type object notifier class event_time) =
    IsNumber 8 id × IsNumber 2 event_type × IsName object × IsName notifier × ClassFits class × IsSigned event_time
HeaderFits (header.Generic class user severity) = ClassFits class × IsName user × IsNumber 2 severity
