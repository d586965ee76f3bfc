-- Words of bodies alone: what is kept of a history.
use Rattle.std.specs.Prelude.{ℕ, List, length, map}
use Rattle.client_window.specs.Windows.{window_of}
use Rattle.calls.specs.declared.entry.Entry.{Entry}
use Rattle.log_history.specs.Table.{table}
use Rattle.ntf_history.specs.Tables.{table_of}
use Rattle.ntf_history.specs.Readers.{readers}
use Rattle.plain_service.specs.Setups.{Setup, log_setup}
use Rattle.plain_service.specs.Pasts.{Past}
use Rattle.plain_service.specs.Alarms.{alarms_stored}
use Rattle.plain_service.specs.Changing.{past_of}
use Rattle.plain_service.specs.Replies.{replies_to, callers}
use Rattle.plain_service.specs.Values.{saved_reader}
use Rattle.service_table.specs.declared.caller.ClientWindow.{ClientWindow}
use Rattle.service_table.specs.Tables.{ServiceTable, client_window}

abbrev pub caller_of : Setup → List Entry → (client : ℕ) → ClientWindow
caller_of setup entries client = client_window client (window_of (replies_to setup client entries))

-- what is kept of all that happened, by the entries whose calls the windows tell
abbrev pub table_with : Setup → List Entry → Past → ServiceTable
table_with setup entries past = record {
  number = length entries;
  log = table (log_setup setup) past.log;
  ntf = table_of setup.capacity past.ntf;
  alarms = alarms_stored setup past;
  readers = map saved_reader (readers past.readings);
  windows = map (caller_of setup entries) (callers entries);
}

unfoldable pub service_of : Setup → List Entry → ServiceTable
service_of setup entries = table_with setup entries (past_of setup entries)
