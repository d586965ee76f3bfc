-- Words of public clauses: how the saved value of a service is spelled, and which ones can be. Nothing here knows of reading.
use Rattle.std.specs.Prelude.{◌++◌, ℕ, List, All}
use Rattle.calls.specs.declared.saved.SavedWindow.{SavedWindow}
use Rattle.calls.specs.declared.saved.SavedStream.{SavedStream}
use Rattle.calls.specs.declared.saved.SavedAlarm.{SavedAlarm}
use Rattle.calls.specs.declared.saved.SavedSub.{SavedSub}
use Rattle.calls.specs.declared.saved.SavedReader.{SavedReader}
use Rattle.calls.specs.declared.saved.Saved.{Saved}
use Rattle.wire_code.specs.Spelling.{number_text, IsNumber, signed_text, IsSigned, flag_text, IsClient, IsCount, list_text, ListFits}
use Rattle.wire.specs.NtfSpelling.{notification_text, NotificationFits, filter_set_text, FilterSetFits}
use Rattle.wire.specs.LogSpelling.{stream_text, StreamFits, mark_text, MarkFits}
use Rattle.wire.specs.CallSpelling.{reply_text, ReplyFits, lost_text, LostFits, content_text, ContentFits}

-- the window of a client
unfoldable pub saved_window_text : SavedWindow → List ℕ
saved_window_text window =
    number_text 2 window.client ++ (number_text 4 window.next ++ list_text reply_text window.replies)

pub record SavedWindowFits (window : SavedWindow) : Type 0 where
  pub client : IsClient window.client
  pub next : IsCount window.next
  pub replies : ListFits ReplyFits window.replies

-- the ranges that its types leave open
pub record SavedWindowInRange (window : SavedWindow) : Type 0 where
  pub client : IsClient window.client
  pub next : IsCount window.next

-- a stream with its openers and its mark
unfoldable pub saved_stream_text : SavedStream → List ℕ
saved_stream_text stream =
    stream_text stream.state ++ (list_text (number_text 2) stream.openers ++ mark_text stream.mark)

pub record SavedStreamFits (stream : SavedStream) : Type 0 where
  pub state : StreamFits stream.state
  pub openers : ListFits (IsNumber 2) stream.openers
  pub mark : MarkFits stream.mark

-- a stored alarm
unfoldable pub saved_alarm_text : SavedAlarm → List ℕ
saved_alarm_text alarm =
    number_text 4 alarm.k ++ notification_text alarm.notification

pub record SavedAlarmFits (alarm : SavedAlarm) : Type 0 where
  pub k : IsNumber 4 alarm.k
  pub notification : NotificationFits alarm.notification

-- a subscription
unfoldable pub saved_sub_text : SavedSub → List ℕ
saved_sub_text sub =
    number_text 2 sub.client ++ (number_text 4 sub.key ++ (number_text 4 sub.id ++ (filter_set_text sub.filters
    ++ (number_text 4 sub.first ++ (list_text content_text sub.held ++ list_text lost_text sub.lost)))))

pub record SavedSubFits (sub : SavedSub) : Type 0 where
  pub client : IsClient sub.client
  pub key : IsCount sub.key
  pub id : IsNumber 4 sub.id
  pub filters : FilterSetFits sub.filters
  pub first : IsNumber 4 sub.first
  pub held : ListFits ContentFits sub.held
  pub lost : ListFits LostFits sub.lost

-- the ranges that its types leave open
pub record SavedSubInRange (sub : SavedSub) : Type 0 where
  pub client : IsClient sub.client
  pub key : IsCount sub.key

-- a reader of stored alarms
unfoldable pub saved_reader_text : SavedReader → List ℕ
saved_reader_text reader =
    number_text 2 reader.client ++ (filter_set_text reader.filters ++ (signed_text reader.time ++ (number_text 8 reader.id ++ flag_text reader.fresh)))

pub record SavedReaderFits (reader : SavedReader) : Type 0 where
  pub client : IsClient reader.client
  pub filters : FilterSetFits reader.filters
  pub time : IsSigned reader.time
  pub id : IsNumber 8 reader.id

-- the ranges that its types leave open
pub record SavedReaderInRange (reader : SavedReader) : Type 0 where
  pub client : IsClient reader.client

-- the value of a service
unfoldable pub saved_text : Saved → List ℕ
saved_text saved =
    number_text 8 saved.number ++ (signed_text saved.last_stamp ++ (number_text 8 saved.last_id
    ++ (number_text 4 saved.capacity ++ (list_text (number_text 2) saved.log_users
    ++ (list_text (number_text 2) saved.ntf_users ++ (list_text saved_window_text saved.windows
    ++ (list_text saved_stream_text saved.streams ++ (list_text saved_alarm_text saved.alarms
    ++ (list_text saved_sub_text saved.subs ++ list_text saved_reader_text saved.readers)))))))))

pub record SavedFits (saved : Saved) : Type 0 where
  pub number : IsNumber 8 saved.number
  pub last_stamp : IsSigned saved.last_stamp
  pub last_id : IsNumber 8 saved.last_id
  pub capacity : IsNumber 4 saved.capacity
  pub log_users : ListFits (IsNumber 2) saved.log_users
  pub ntf_users : ListFits (IsNumber 2) saved.ntf_users
  pub windows : ListFits SavedWindowFits saved.windows
  pub streams : ListFits SavedStreamFits saved.streams
  pub alarms : ListFits SavedAlarmFits saved.alarms
  pub subs : ListFits SavedSubFits saved.subs
  pub readers : ListFits SavedReaderFits saved.readers

-- the ranges that its types leave open
pub record SavedInRange (saved : Saved) : Type 0 where
  pub windows : All SavedWindowInRange saved.windows
  pub subs : All SavedSubInRange saved.subs
  pub readers : All SavedReaderInRange saved.readers
