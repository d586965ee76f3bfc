-- Words of bodies alone: how streams and log records are read.
use Rattle.std.specs.Prelude.{ℕ, ℤ, List, Option}
use Rattle.ais_values.specs.declared.kind.ClassId.{ClassId}
use Rattle.stream_config.specs.declared.attrs.FullAction.{FullAction}
use Rattle.stream_config.specs.declared.attrs.StreamName.{StreamName}
use Rattle.stream_config.specs.declared.attrs.StreamAttrs.{StreamAttrs}
use Rattle.stream_config.specs.declared.mark.Mark.{Mark}
use Rattle.stream_config.specs.declared.state.LogFile.{LogFile}
use Rattle.stream_config.specs.declared.state.StreamState.{StreamState}
use Rattle.record_print.specs.declared.record.Header.{Header}
use Rattle.stream_config.specs.declared.attrs.FullAction.TheVariants as action
use Rattle.stream_config.specs.declared.attrs.StreamName.TheVariants as stream_name
use Rattle.record_print.specs.declared.record.Header.TheVariants as header
use Rattle.wire_code.specs.Reading.{At, made, both, nothing, number_at, signed_at, list_at, option_at, text_at, name_at, tagged, variant, no_variant}
use Rattle.wire.specs.NtfReading.{class_at}

-- what a stream does with a record that does not fit its file
unfoldable pub action_at : At FullAction
action_at bytes = tagged
    (variant 1 (made (λ (_ : Unit {0}). action.Wrap) nothing)
    (variant 2 (made (λ (_ : Unit {0}). action.Halt) nothing)
    (variant 3 (made (λ (_ : Unit {0}). action.Rotate) nothing)
    no_variant))) bytes

-- the name of a stream
unfoldable pub stream_name_at : At StreamName
stream_name_at bytes = tagged
    (variant 1 (made (λ (_ : Unit {0}). stream_name.Alarm) nothing)
    (variant 2 (made (λ (_ : Unit {0}). stream_name.Notification) nothing)
    (variant 3 (made (λ (_ : Unit {0}). stream_name.System) nothing)
    (variant 4 (made (λ (x : List ℕ). stream_name.App x) name_at)
    no_variant)))) bytes

-- the attributes of a stream
abbrev pub attrs_of : List ℕ × (List ℕ × (ℕ × (ℕ × (ℕ × (FullAction × (ℕ × List ℕ)))))) → StreamAttrs
attrs_of p = record {
  file = p.0;
  path = p.1.0;
  max_file = p.1.1.0;
  record_size = p.1.1.1.0;
  ha = p.1.1.1.1.0;
  action = p.1.1.1.1.1.0;
  rotated = p.1.1.1.1.1.1.0;
  expr = p.1.1.1.1.1.1.1;
}

unfoldable pub attrs_at : At StreamAttrs
attrs_at bytes =
    made attrs_of (both text_at (both text_at (both (number_at 8) (both (number_at 4) (both (number_at 1)
    (both action_at (both (number_at 4) text_at))))))) bytes

-- a file of a stream
abbrev pub log_file_of : ℤ × (Option ℤ × (ℕ × ℕ)) → LogFile
log_file_of p = record { created = p.0; closed = p.1.0; first = p.1.1.0; bytes = p.1.1.1 }

unfoldable pub log_file_at : At LogFile
log_file_at bytes =
    made log_file_of (both signed_at (both (option_at signed_at) (both (number_at 4) (number_at 8)))) bytes

-- a stream as it stands
abbrev pub stream_of : StreamName × (StreamAttrs × (ℕ × (ℕ × List LogFile))) → StreamState
stream_of p = record { name = p.0; attrs = p.1.0; taken = p.1.1.0; opened = p.1.1.1.0; files = p.1.1.1.1 }

unfoldable pub stream_at : At StreamState
stream_at bytes =
    made stream_of (both stream_name_at (both attrs_at (both (number_at 4) (both (number_at 4) (list_at log_file_at))))) bytes

-- the mark of a stream
abbrev pub mark_of : ℕ × ℕ → Mark
mark_of p = record { since = p.0; mask = p.1 }

unfoldable pub mark_at : At Mark
mark_at bytes = made mark_of (both (number_at 8) (number_at 4)) bytes

-- the header of a log record
unfoldable pub header_at : At Header
header_at bytes = tagged
    (variant 1 (made (λ (p : ℕ × (ℕ × (List ℕ × (List ℕ × (ClassId × ℤ))))).
    header.Ntf p.0 p.1.0 p.1.1.0 p.1.1.1.0 p.1.1.1.1.0 p.1.1.1.1.1)
    (both (number_at 8) (both (number_at 2) (both name_at (both name_at (both class_at signed_at))))))
    (variant 2 (made (λ (p : ClassId × (List ℕ × ℕ)). header.Generic p.0 p.1.0 p.1.1) (both class_at (both name_at (number_at 2))))
    no_variant)) bytes
