-- Words of public clauses: the files of all that happened.
use Rattle.std.specs.Prelude.{ℕ, ◌+◌, List, [], ◌∷◌, map, reverse, Option}
use Rattle.std.specs.List.{flat_map}
use Rattle.std.specs.FinMap as map
use Rattle.disk_model.specs.Disk.{Files}
use Rattle.format_expr.specs.Reading.{pieces_of}
use Rattle.record_print.specs.declared.record.LogRecord.{LogRecord}
use Rattle.record_print.specs.Printing.{printed_record}
use Rattle.stream_config.specs.declared.attrs.StreamAttrs.{StreamAttrs}
use Rattle.stream_config.specs.Events.{standing}
use Rattle.stream_layout.specs.LogFiles.{Entries, log_entries, cfg_entry}
use Rattle.stream_layout.specs.Carrying.{entry_at}
use Rattle.disk_model.specs.Disk.{settled_file}
use Rattle.log_history.specs.Changes.{LogChange}
use Rattle.log_history.specs.Chronicle.{LogSetup, Stream, chronicle, all_files}

-- records as they are printed, from this number on
abbrev pub printed_records : StreamAttrs → (number : ℕ) → List LogRecord → List (List ℕ)
printed_records attrs number [] = []
printed_records attrs number (rec ∷ recs) =
    printed_record (pieces_of attrs.expr) number rec attrs.record_size ∷ printed_records attrs (number + 1) recs

-- all records of a stream; the first has number 1
abbrev pub records_of : Stream → List (List ℕ)
records_of stream = printed_records stream.attrs 1 stream.records

-- the files of records of a stream, those that stand
abbrev pub log_entries_of : Stream → Entries
log_entries_of stream = log_entries stream.attrs (records_of stream) (standing stream.attrs (all_files stream))

-- a stream's cfg and its files of records
abbrev pub entries_of : Stream → Entries
entries_of stream = cfg_entry stream.name stream.attrs ∷ log_entries_of stream

-- those of every stream ever made, the newest first: under one name the first counts, so that a later stream's cfg replaces
-- that of an earlier one in its place
abbrev pub history_entries : LogSetup → List LogChange → Entries
history_entries setup past = flat_map entries_of (reverse (chronicle setup past).streams)

-- the bytes of the file of that name, where it stands
unfoldable pub file_at : LogSetup → List LogChange → List ℕ → Option (List ℕ)
file_at setup past name = entry_at (history_entries setup past) name

-- the files on a disk: nothing of them is loose
unfoldable pub disk_files : LogSetup → List LogChange → Files
disk_files setup past =
    map.from_entries (map (λ (entry : List ℕ × List ℕ). (entry.0, settled_file entry.1)) (history_entries setup past))
