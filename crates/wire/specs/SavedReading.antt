-- Words of bodies alone: how the saved value of a service is read.
use Rattle.std.specs.Prelude.{ℕ, ℤ, Bool, List}
use Rattle.ntf_types.specs.declared.notification.Notification.{Notification}
use Rattle.ntf_filters.specs.declared.filter.FilterSet.{FilterSet}
use Rattle.sub_queue.specs.declared.item.Lost.{Lost}
use Rattle.sub_queue.specs.declared.item.Content.{Content}
use Rattle.stream_config.specs.declared.mark.Mark.{Mark}
use Rattle.stream_config.specs.declared.state.StreamState.{StreamState}
use Rattle.calls.specs.declared.reply.Reply.{Reply}
use Rattle.calls.specs.declared.saved.SavedWindow.{SavedWindow}
use Rattle.calls.specs.declared.saved.SavedStream.{SavedStream}
use Rattle.calls.specs.declared.saved.SavedAlarm.{SavedAlarm}
use Rattle.calls.specs.declared.saved.SavedSub.{SavedSub}
use Rattle.calls.specs.declared.saved.SavedReader.{SavedReader}
use Rattle.calls.specs.declared.saved.Saved.{Saved}
use Rattle.wire_code.specs.Reading.{At, made, both, number_at, signed_at, client_at, count_at, list_at, flag_at}
use Rattle.wire.specs.NtfReading.{notification_at, filter_set_at}
use Rattle.wire.specs.LogReading.{stream_at, mark_at}
use Rattle.wire.specs.CallReading.{reply_at, lost_at, content_at}

-- the window of a client
abbrev pub saved_window_of : ℕ × (ℕ × List Reply) → SavedWindow
saved_window_of p = record { client = p.0; next = p.1.0; replies = p.1.1 }

unfoldable pub saved_window_at : At SavedWindow
saved_window_at bytes = made saved_window_of (both client_at (both count_at (list_at reply_at))) bytes

-- a stream with its openers and its mark
abbrev pub saved_stream_of : StreamState × (List ℕ × Mark) → SavedStream
saved_stream_of p = record { state = p.0; openers = p.1.0; mark = p.1.1 }

unfoldable pub saved_stream_at : At SavedStream
saved_stream_at bytes = made saved_stream_of (both stream_at (both (list_at (number_at 2)) mark_at)) bytes

-- a stored alarm
abbrev pub saved_alarm_of : ℕ × Notification → SavedAlarm
saved_alarm_of p = record { k = p.0; notification = p.1 }

unfoldable pub saved_alarm_at : At SavedAlarm
saved_alarm_at bytes = made saved_alarm_of (both (number_at 4) notification_at) bytes

-- a subscription
abbrev pub saved_sub_of : ℕ × (ℕ × (ℕ × (FilterSet × (ℕ × (List Content × List Lost))))) → SavedSub
saved_sub_of p = record { client = p.0; key = p.1.0; id = p.1.1.0; filters = p.1.1.1.0; first = p.1.1.1.1.0; held = p.1.1.1.1.1.0; lost = p.1.1.1.1.1.1 }

unfoldable pub saved_sub_at : At SavedSub
saved_sub_at bytes =
    made saved_sub_of (both client_at (both count_at (both (number_at 4) (both filter_set_at (both (number_at 4)
    (both (list_at content_at) (list_at lost_at))))))) bytes

-- a reader of stored alarms
abbrev pub saved_reader_of : ℕ × (FilterSet × (ℤ × (ℕ × Bool))) → SavedReader
saved_reader_of p = record { client = p.0; filters = p.1.0; time = p.1.1.0; id = p.1.1.1.0; fresh = p.1.1.1.1 }

unfoldable pub saved_reader_at : At SavedReader
saved_reader_at bytes = made saved_reader_of (both client_at (both filter_set_at (both signed_at (both (number_at 8) flag_at)))) bytes

-- the value of a service
abbrev pub saved_of : ℕ × (ℤ × (ℕ × (ℕ × (List ℕ × (List ℕ × (List SavedWindow × (List SavedStream × (List SavedAlarm
    × (List SavedSub × List SavedReader))))))))) → Saved
saved_of p = record {
  number = p.0;
  last_stamp = p.1.0;
  last_id = p.1.1.0;
  capacity = p.1.1.1.0;
  log_users = p.1.1.1.1.0;
  ntf_users = p.1.1.1.1.1.0;
  windows = p.1.1.1.1.1.1.0;
  streams = p.1.1.1.1.1.1.1.0;
  alarms = p.1.1.1.1.1.1.1.1.0;
  subs = p.1.1.1.1.1.1.1.1.1.0;
  readers = p.1.1.1.1.1.1.1.1.1.1;
}

unfoldable pub saved_at : At Saved
saved_at bytes =
    made saved_of (both (number_at 8) (both signed_at (both (number_at 8) (both (number_at 4)
    (both (list_at (number_at 2)) (both (list_at (number_at 2)) (both (list_at saved_window_at)
    (both (list_at saved_stream_at) (both (list_at saved_alarm_at)
    (both (list_at saved_sub_at) (list_at saved_reader_at))))))))))) bytes
