-- Words of public clauses: the deeds of what happens to a stream, and the device calls of deeds.
use Rattle.std.specs.Prelude.{ℕ, ℤ, nat_lt, if◌then◌else◌, List, [], ◌∷◌, ◌++◌, length, Option, Some, None}
use Rattle.disk_model.specs.DeviceCalls.{DeviceCall, CallCreate, CallWrite, CallSync, CallRename, CallRemove}
use Rattle.stream_config.specs.declared.attrs.StreamAttrs.{StreamAttrs}
use Rattle.stream_config.specs.declared.state.LogFile.{LogFile}
use Rattle.stream_config.specs.declared.event.Stamps.{Stamps}
use Rattle.stream_config.specs.declared.event.StreamEvent.{StreamEvent}
use Rattle.stream_config.specs.declared.event.StreamEvent.TheVariants.{Made, Stored, Ended}
use Rattle.stream_config.specs.Cfg.{cfg_of}
pub use Rattle.stream_config.specs.Events.{current_file}
use Rattle.stream_config.specs.Events.{open_file, file_closed, last_closed, next_offset}
use Rattle.stream_config.specs.declared.state.StreamState.{StreamState}
use Rattle.stream_layout.specs.declared.deed.Deed.{Deed}
use Rattle.stream_layout.specs.declared.deed.Deed.TheVariants.{Put, Create, Write, Rename, Remove}
use Rattle.stream_layout.specs.Names.{log_name, cfg_name}

-- the calls of one deed, in order
abbrev pub calls_of : Deed → List DeviceCall
calls_of (Put name bytes) = CallCreate name ∷ CallWrite name 0 bytes ∷ CallSync name ∷ []
calls_of (Create name) = CallCreate name ∷ []
calls_of (Write name at bytes) = CallWrite name at bytes ∷ CallSync name ∷ []
calls_of (Rename from to) = CallRename from to ∷ []
calls_of (Remove name) = CallRemove name ∷ []

-- the calls of deeds, in order
abbrev pub calls_of_all : List Deed → List DeviceCall
calls_of_all [] = []
calls_of_all (deed ∷ deeds) = calls_of deed ++ calls_of_all deeds

-- the current file gets its closing stamp
abbrev pub closing : StreamAttrs → List LogFile → ℤ → Deed
closing attrs files closed =
    Rename (log_name attrs (current_file files)) (log_name attrs (file_closed closed (current_file files)))

-- the oldest file goes where more stand than may
abbrev pub removal : StreamAttrs → List LogFile → List Deed
removal attrs [] = []
removal attrs (oldest ∷ files) =
    if nat_lt attrs.rotated (length (oldest ∷ files)) then Remove (log_name attrs oldest) ∷ [] else []

-- the current file is closed, a new one is made, and the oldest goes if it has to
abbrev pub change_of_file : StreamAttrs → List LogFile → Option Stamps → List Deed
change_of_file attrs files None = []
change_of_file attrs files (Some stamps) =
    closing attrs files stamps.closed
    ∷ Create (log_name attrs (open_file stamps.created))
    ∷ removal attrs (last_closed stamps.closed files ++ open_file stamps.created ∷ [])

-- the file that a record goes to
abbrev pub file_written_to : List LogFile → Option Stamps → LogFile
file_written_to files None = current_file files
file_written_to files (Some stamps) = open_file stamps.created

-- and where it stands there: a file that begins with it is empty
abbrev pub offset_written : StreamState → Option Stamps → ℕ
offset_written before None = next_offset before
offset_written before (Some stamps) = 0

unfoldable pub deeds_of : StreamEvent → List Deed
deeds_of (Made state) =
    Put (cfg_name state.attrs) (cfg_of state.name state.attrs)
    ∷ Create (log_name state.attrs (current_file state.files))
    ∷ []
deeds_of (Stored before bytes stamps) =
    change_of_file before.attrs before.files stamps
    ++ Write (log_name before.attrs (file_written_to before.files stamps)) (offset_written before stamps) bytes
    ∷ []
deeds_of (Ended before closed) = closing before.attrs before.files closed ∷ []
