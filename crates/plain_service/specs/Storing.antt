-- Words of public clauses: the files of a history, and the deeds of an entry.
use Rattle.std.specs.Prelude.{List, [], Option, None}
use Rattle.std.specs.Option.{option_map_or}
use Rattle.disk_model.specs.Disk.{Files}
use Rattle.stream_config.specs.declared.event.StreamEvent.{StreamEvent}
use Rattle.stream_layout.specs.declared.deed.Deed.{Deed}
use Rattle.calls.specs.declared.entry.Entry.{Entry}
use Rattle.calls.specs.declared.entry.Entry.TheVariants.{Called, Receipted}
use Rattle.log_history.specs.Changes.{LogChange}
use Rattle.log_history.specs.Table.{table, events_of}
use Rattle.log_history.specs.Files.{disk_files}
use Rattle.log_history.specs.Deeds.{deeds_of_all, opening_deeds}
use Rattle.plain_service.specs.Setups.{Setup, log_setup}
use Rattle.plain_service.specs.Pasts.{Past}
use Rattle.plain_service.specs.Answers.{status_of}
use Rattle.plain_service.specs.Changing.{past_of, log_change, if_ok}

-- the files of a history
unfoldable pub files_of : Setup → List Entry → Files
files_of setup past = disk_files (log_setup setup) (past_of setup past).log

-- what an entry changes in the Log Service
abbrev pub log_change_by : Setup → Past → Entry → Option LogChange
log_change_by setup past (Called client seq now call) =
    if_ok (status_of setup past client now call) (log_change setup past client now call)
log_change_by setup past (Receipted client key through now) = None

-- what an entry does to streams, in order
abbrev pub events_by : Setup → Past → Entry → List StreamEvent
events_by setup past entry =
    option_map_or (λ change. events_of change (table (log_setup setup) past.log)) (log_change_by setup past entry) []

-- the deeds of an entry after a history
unfoldable pub deeds_of : Setup → List Entry → Entry → List Deed
deeds_of setup past entry = deeds_of_all (events_by setup (past_of setup past) entry)

-- the deeds of the start, by which the well-known streams are made
unfoldable pub opening_of : Setup → List Deed
opening_of setup = opening_deeds (log_setup setup)
