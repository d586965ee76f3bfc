-- Words of bodies, and of public clauses of the crates above: what a service keeps, part by part, and the value that it stands for.
use Rattle.std.specs.Prelude.{ℕ, pos, unsigned_abs, ◌==◌, nat_lt, Bool, List, map, reverse, Option, find}
use Rattle.client_window.specs.Windows.{Kept}
use Rattle.alarm_view.specs.declared.alarm.KeptAlarm.{KeptAlarm}
use Rattle.alarm_view.specs.declared.cursor.Cursor.{Cursor}
use Rattle.calls.specs.declared.reply.Reply.{Reply}
use Rattle.calls.specs.declared.saved.Saved.{Saved}
use Rattle.calls.specs.declared.saved.SavedWindow.{SavedWindow}
use Rattle.calls.specs.declared.saved.SavedStream.{SavedStream}
use Rattle.calls.specs.declared.saved.SavedAlarm.{SavedAlarm}
use Rattle.calls.specs.declared.saved.SavedSub.{SavedSub}
use Rattle.calls.specs.declared.saved.SavedReader.{SavedReader}
use Rattle.log_history.specs.Table.{OpenStream, LogTable}
use Rattle.ntf_history.specs.Kept.{Subscription}
use Rattle.ntf_history.specs.Readers.{Reader}
use Rattle.ntf_history.specs.Tables.{NtfTable}
use Rattle.plain_service.specs.Values.{saved_stream, saved_alarm}
use Rattle.service_table.specs.declared.caller.ClientWindow.{ClientWindow}

-- how many entries were accepted, the tables of both services, the stored alarms, the readers and the windows of clients
pub record ServiceTable : Type 0 where
  pub number : ℕ
  pub log : LogTable
  pub ntf : NtfTable
  pub alarms : List KeptAlarm
  pub readers : List SavedReader
  pub windows : List ClientWindow

abbrev pub client_window : ℕ → Kept Reply → ClientWindow
client_window client window = record { client = client; window = window }

abbrev pub saved_window : ClientWindow → SavedWindow
saved_window caller = record {
  client = caller.client;
  next = caller.window.next;
  replies = reverse caller.window.replies;
}

abbrev pub saved_queue : Subscription → SavedSub
saved_queue kept = record {
  client = kept.client;
  key = kept.key;
  id = kept.id;
  filters = kept.filters;
  first = kept.queue.first;
  held = kept.queue.held;
  lost = kept.queue.lost;
}

-- the value of a table
abbrev pub saved_table : ServiceTable → Saved
saved_table kept = record {
  number = kept.number;
  last_stamp = pos kept.log.last;
  last_id = kept.ntf.last_id;
  capacity = kept.ntf.capacity;
  log_users = kept.log.users;
  ntf_users = kept.ntf.users;
  windows = map saved_window kept.windows;
  streams = map saved_stream kept.log.streams;
  alarms = map saved_alarm kept.alarms;
  subs = map saved_queue kept.ntf.subs;
  readers = kept.readers;
}

-- the table of a value

abbrev pub kept_window : SavedWindow → ClientWindow
kept_window saved = record {
  client = saved.client;
  window = record { next = saved.next; replies = reverse saved.replies };
}

abbrev pub kept_stream_of : SavedStream → OpenStream
kept_stream_of saved = record { state = saved.state; openers = saved.openers; mark = saved.mark }

abbrev pub kept_alarm_of : SavedAlarm → KeptAlarm
kept_alarm_of saved = record { number = saved.k; notification = saved.notification }

abbrev pub kept_sub_of : ℕ → SavedSub → Subscription
kept_sub_of capacity saved = record {
  client = saved.client;
  key = saved.key;
  id = saved.id;
  filters = saved.filters;
  queue = record { capacity = capacity; first = saved.first; held = saved.held; lost = saved.lost };
}

abbrev pub table_of_saved : Saved → ServiceTable
table_of_saved saved = record {
  number = saved.number;
  log = record { last = unsigned_abs saved.last_stamp; users = saved.log_users; streams = map kept_stream_of saved.streams };
  ntf = record {
    capacity = saved.capacity;
    users = saved.ntf_users;
    last_id = saved.last_id;
    subs = map (kept_sub_of saved.capacity) saved.subs;
  };
  alarms = map kept_alarm_of saved.alarms;
  readers = saved.readers;
  windows = map kept_window saved.windows;
}

abbrev pub point_of_reader : SavedReader → Cursor
point_of_reader saved = record { time = saved.time; id = saved.id; fresh = saved.fresh }

abbrev pub kept_reader_of : SavedReader → Reader
kept_reader_of saved = record { client = saved.client; filters = saved.filters; cursor = point_of_reader saved }

-- readers and windows by their clients

abbrev pub is_reader_for : ℕ → SavedReader → Bool
is_reader_for client reader = reader.client == client

abbrev pub reader_for : ℕ → List SavedReader → Option SavedReader
reader_for client readers = find (is_reader_for client) readers

abbrev pub reader_before : SavedReader → SavedReader → Bool
reader_before one other = nat_lt one.client other.client

abbrev pub is_window_for : ℕ → ClientWindow → Bool
is_window_for client caller = caller.client == client

abbrev pub window_before : ClientWindow → ClientWindow → Bool
window_before one other = nat_lt one.client other.client
