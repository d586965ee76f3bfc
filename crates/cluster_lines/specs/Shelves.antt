-- Words of public clauses: what is shown of the files of a disk.
use Rattle.std.specs.Prelude.{option_map}
use Rattle.std.specs.FinMap as files
use Rattle.disk_model.specs.Disk.{Files}
use Rattle.plain_service.specs.Setups.{Setup}
use Rattle.plain_service.specs.Storing.{files_of}
use Rattle.cluster_events.specs.Running.{Shelf}
use Rattle.cluster_clients.specs.Files.{sizes_of, bytes_of}
use Rattle.event_text.specs.Texts.{file_text_lines}

-- what stands in these files, whatever the history
abbrev pub shelf_at : Files → Shelf
shelf_at held = record {
  listing = λ past. sizes_of held (files.keys held);
  text = λ name past. option_map file_text_lines (bytes_of held name);
}

-- what stands in the files of each history of a setup
abbrev pub shelf_of : Setup → Shelf
shelf_of setup = record {
  listing = λ past. (shelf_at (files_of setup past)).listing past;
  text = λ name past. (shelf_at (files_of setup past)).text name past;
}
