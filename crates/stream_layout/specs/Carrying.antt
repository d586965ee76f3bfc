-- Words of public clauses: the files of a stream before and after an event, and that deeds lead from the ones to the others.
use Rattle.std.specs.Prelude.{◌≡◌, ℕ, ℤ, pos, true, ◌≤ℤ◌, ⊤, IfSome, List, [], ◌∷◌, ◌++◌, length, All, Option, Some, None, is_some, if◌then◌else◌}
use Rattle.std.specs.Option.{option_map_or}
use Rattle.std.specs.Str.{bytes_eq}
use Rattle.std.specs.FinMap.{get}
use Rattle.disk_model.specs.Disk.{File, Files, settled_file}
use Rattle.disk_model.specs.DeviceCalls.{all_applied}
use Rattle.stream_config.specs.declared.attrs.FullAction.TheVariants.{Halt}
use Rattle.stream_config.specs.declared.attrs.StreamAttrs.{StreamAttrs}
use Rattle.stream_config.specs.declared.state.LogFile.{LogFile}
use Rattle.stream_config.specs.declared.state.StreamState.{StreamState}
use Rattle.stream_config.specs.declared.event.Stamps.{Stamps}
use Rattle.stream_config.specs.declared.event.StreamEvent.{StreamEvent}
use Rattle.stream_config.specs.declared.event.StreamEvent.TheVariants.{Made, Stored, Ended}
use Rattle.stream_config.specs.Attributes.{kind_of, PassesAttrs}
use Rattle.stream_config.specs.Events.{file_closed, state_after}
use Rattle.stream_config.specs.Fit.{stamps_of, changes_file, next_first, HasFitFiles}
use Rattle.stream_config.specs.Sizes.{IsLength, has_room}
use Rattle.stream_layout.specs.declared.deed.Deed.{Deed}
use Rattle.stream_layout.specs.Names.{log_name}
use Rattle.stream_layout.specs.LogFiles.{Entries, bytes_in, log_entries, cfg_entry}
use Rattle.stream_layout.specs.Deeds.{calls_of_all, current_file}

-- a stamp that names can show: a second from 1970 to 2603
abbrev pub IsStamp : ℤ → Type 0
IsStamp stamp = (pos 0 ≤ℤ stamp) × (stamp ≤ℤ pos 20000000100)

-- a living stream
pub record IsFitStream (state : StreamState) : Type 0 where
  pub attributes : PassesAttrs (kind_of state.name) state.attrs
  pub standing : HasFitFiles state
  pub stamps : All IsStamp (stamps_of state.files)

-- a stream that is new has taken no record
pub record IsFitMade (state : StreamState) : Type 0 where
  pub stream : IsFitStream state
  pub fresh : state.taken ≡ 0

-- a record that the stream takes: it fits a HALT stream, the file changes exactly where there are stamps
pub record IsFitStored (before : StreamState) (bytes : List ℕ) (stamps : Option Stamps) : Type 0 where
  pub stream : IsFitStream before
  pub size : IsLength before.attrs (length bytes)
  pub room : before.attrs.action ≡ Halt → has_room before.attrs (current_file before.files).bytes (length bytes) ≡ true
  pub changes : is_some stamps ≡ changes_file before.attrs (current_file before.files).bytes (length bytes)
  pub new_stamps : IfSome stamps (λ two. IsStamp two.closed × IsStamp two.created)

pub record IsFitEnded (before : StreamState) (closed : ℤ) : Type 0 where
  pub stream : IsFitStream before
  pub stamp : IsStamp closed

-- an event that can happen to a stream
abbrev pub IsFitEvent : StreamEvent → Type 0
IsFitEvent (Made state) = IsFitMade state
IsFitEvent (Stored before bytes stamps) = IsFitStored before bytes stamps
IsFitEvent (Ended before closed) = IsFitEnded before closed

-- the stream as the event finds it
abbrev pub state_before : StreamEvent → StreamState
state_before (Made state) = state
state_before (Stored before bytes stamps) = before
state_before (Ended before closed) = before

-- each file has as many bytes as its records
abbrev pub HaveBytes : StreamAttrs → List (List ℕ) → (until : ℕ) → List LogFile → Type 0
HaveBytes attrs records until [] = ⊤
HaveBytes attrs records until (file ∷ files) =
    (file.bytes ≡ length (bytes_in attrs file.first (next_first files until) records)) × HaveBytes attrs records until files

-- these are the bytes of the records that a stream has taken
pub record AreRecordsOf (state : StreamState) (records : List (List ℕ)) : Type 0 where
  pub count : length records ≡ state.taken
  pub sizes : All (λ record_bytes. IsLength state.attrs (length record_bytes)) records
  pub bytes : HaveBytes state.attrs records (length records) state.files

-- the records with the one that the event stores
abbrev pub records_after : StreamEvent → List (List ℕ) → List (List ℕ)
records_after (Made state) records = records
records_after (Stored before bytes stamps) records = records ++ bytes ∷ []
records_after (Ended before closed) records = records

-- the files of the stream before the event; a stream that is made has none
abbrev pub entries_before : StreamEvent → List (List ℕ) → Entries
entries_before (Made state) records = []
entries_before (Stored before bytes stamps) records = log_entries before.attrs records before.files
entries_before (Ended before closed) records = log_entries before.attrs records before.files

-- the files of records of the stream after the event
abbrev pub log_entries_after : StreamEvent → List (List ℕ) → Entries
log_entries_after event records =
    log_entries (state_before event).attrs (records_after event records) (state_after event).files

-- the files of the stream after the event, without a cfg that stood before
abbrev pub entries_after : StreamEvent → List (List ℕ) → Entries
entries_after (Made state) records = cfg_entry state.name state.attrs ∷ log_entries state.attrs records state.files
entries_after (Stored before bytes stamps) records = log_entries_after (Stored before bytes stamps) records
entries_after (Ended before closed) records = log_entries_after (Ended before closed) records

-- the bytes of the entry of that name, if there is one
abbrev pub entry_at : Entries → List ℕ → Option (List ℕ)
entry_at [] name = None
entry_at (entry ∷ entries) name = if bytes_eq name entry.0 then Some entry.1 else entry_at entries name

-- the entries stand among the files, whole and settled
abbrev pub Stand : Entries → Files → Type 0
Stand entries files =
    (name bytes : List ℕ) → entry_at entries name ≡ Some bytes → get files name ≡ Some (settled_file bytes)

-- what is found under a name where some entries gave place to others
abbrev pub replaced : (before after : Entries) → Files → List ℕ → Option File
replaced before after files name =
    option_map_or (λ bytes. Some (settled_file bytes)) (entry_at after name)
    (if is_some (entry_at before name) then None else get files name)

-- the name that a change of file gives the file that it closes does not stand
abbrev pub IsFree : StreamEvent → Files → Type 0
IsFree (Made state) files = ⊤
IsFree (Stored before bytes None) files = ⊤
IsFree (Stored before bytes (Some stamps)) files =
    get files (log_name before.attrs (file_closed stamps.closed (current_file before.files))) ≡ None
IsFree (Ended before closed) files = ⊤

-- the deeds make the stream's files after the event out of any files in which those before it stand, and leave every other name alone
abbrev pub CarryOn : StreamEvent → List Deed → Type 0
CarryOn event deeds =
    (records : List (List ℕ)) (files : Files) → AreRecordsOf (state_before event) records
    → Stand (entries_before event records) files → IsFree event files
    → (name : List ℕ) → get (all_applied (calls_of_all deeds) files) name
    ≡ replaced (entries_before event records) (entries_after event records) files name
