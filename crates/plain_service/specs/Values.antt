-- Words of public clauses: the value of a service, which is handed on, as a closed form of the history that it stands for.
use Rattle.std.specs.Prelude.{◌≡◌, ℕ, ◌+◌, pos, List, length, drop, map}
use Rattle.calls.specs.declared.entry.Entry.{Entry}
use Rattle.calls.specs.declared.saved.Saved.{Saved}
use Rattle.calls.specs.declared.saved.SavedStream.{SavedStream}
use Rattle.calls.specs.declared.saved.SavedAlarm.{SavedAlarm}
use Rattle.calls.specs.declared.saved.SavedSub.{SavedSub}
use Rattle.calls.specs.declared.saved.SavedReader.{SavedReader}
use Rattle.alarm_view.specs.declared.alarm.KeptAlarm.{KeptAlarm}
use Rattle.log_history.specs.Table.{OpenStream, LogTable, table}
use Rattle.ntf_history.specs.Changes.{Sub, NtfChange, last_id}
use Rattle.ntf_history.specs.Changes as ntf
use Rattle.ntf_history.specs.Subscriptions.{subs, account, made, through_of}
use Rattle.ntf_history.specs.Readers.{Reader, readers}
use Rattle.plain_service.specs.Setups.{Setup, log_setup}
use Rattle.plain_service.specs.Pasts.{Past}
use Rattle.plain_service.specs.Alarms.{alarms_stored}
use Rattle.plain_service.specs.Changing.{past_of}
use Rattle.plain_service.specs.Replies.{windows_of}

-- a living stream, with its attributes and its files, those that have it open, and its mark
abbrev pub saved_stream : OpenStream → SavedStream
saved_stream stream = record { state = stream.state; openers = stream.openers; mark = stream.mark }

-- a stored alarm, with the number of its record
abbrev pub saved_alarm : KeptAlarm → SavedAlarm
saved_alarm alarm = record { k = alarm.number; notification = alarm.notification }

-- a subscription that lasts, with the items that it holds and what it lost since the last was made
abbrev pub saved_sub : (capacity : ℕ) → List NtfChange → Sub → SavedSub
saved_sub capacity past sub = record {
  client = sub.client;
  key = sub.key;
  id = sub.id;
  filters = sub.filters;
  first = through_of capacity past sub.client sub.key + 1;
  held = drop (through_of capacity past sub.client sub.key) (made capacity past sub.client sub.key);
  lost = (account capacity past sub.client sub.key).lost;
}

-- a reader with its point
abbrev pub saved_reader : Reader → SavedReader
saved_reader reader = record {
  client = reader.client;
  filters = reader.filters;
  time = reader.cursor.time;
  id = reader.cursor.id;
  fresh = reader.cursor.fresh;
}

-- the value of these parts: all that happened, and the log's table, by the entries whose number it tells
abbrev pub saved_with : Setup → List Entry → Past → LogTable → Saved
saved_with setup entries past log = record {
  number = length entries;
  last_stamp = pos log.last;
  last_id = last_id past.ntf;
  capacity = setup.capacity;
  log_users = log.users;
  ntf_users = ntf.users past.ntf;
  windows = windows_of setup entries;
  streams = map saved_stream log.streams;
  alarms = map saved_alarm (alarms_stored setup past);
  subs = map (saved_sub setup.capacity past.ntf) (subs past.ntf);
  readers = map saved_reader (readers past.readings);
}

-- the value of a history
unfoldable pub saved_of : Setup → List Entry → Saved
saved_of setup entries = saved_with setup entries (past_of setup entries) (table (log_setup setup) (past_of setup entries).log)

-- a value stands for a history where it is the history's
abbrev pub StandsFor : Setup → List Entry → Saved → Type 0
StandsFor setup entries saved = saved ≡ saved_of setup entries
