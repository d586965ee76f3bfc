-- Words of public clauses: how calls, replies, items and entries are spelled, and which ones can be. Nothing here knows of reading.
use Rattle.std.specs.Prelude.{◌++◌, ◌∷◌, [], ℕ, List}
use Rattle.ais_values.specs.declared.status.Status.{Status}
use Rattle.sub_queue.specs.declared.item.Lost.{Lost}
use Rattle.sub_queue.specs.declared.item.Content.{Content}
use Rattle.sub_queue.specs.declared.item.Item.{Item}
use Rattle.calls.specs.declared.call.Call.{Call}
use Rattle.calls.specs.declared.reply.Reply.{Reply}
use Rattle.calls.specs.declared.entry.Entry.{Entry}
use Rattle.sub_queue.specs.declared.item.Content.TheVariants as content
use Rattle.ais_values.specs.declared.status.Status.TheVariants as status
use Rattle.calls.specs.declared.call.Call.TheVariants as call
use Rattle.calls.specs.declared.reply.Reply.TheVariants as reply
use Rattle.calls.specs.declared.entry.Entry.TheVariants as entry
use Rattle.wire_code.specs.Spelling.{number_text, IsNumber, signed_text, IsSigned, counted_text, IsText, flag_text}
use Rattle.wire_code.specs.Spelling.{IsClient, IsCount, list_text, ListFits, option_text, OptionFits}
use Rattle.wire.specs.NtfSpelling.{notification_text, NotificationFits, filter_set_text, FilterSetFits}
use Rattle.wire.specs.LogSpelling.{stream_name_text, StreamNameFits, attrs_text, AttrsFits, mark_text, MarkFits, header_text, HeaderFits}

-- a status: one byte, its number in the interface
unfoldable pub status_text : Status → List ℕ
status_text status.Ok = 1 ∷ []
status_text status.Version = 3 ∷ []
status_text status.TryAgain = 6 ∷ []
status_text status.InvalidParam = 7 ∷ []
status_text status.BadHandle = 9 ∷ []
status_text status.NotExist = 12 ∷ []
status_text status.Exist = 14 ∷ []
status_text status.NoSpace = 15 ∷ []
status_text status.NoResources = 18 ∷ []
status_text status.BadFlags = 25 ∷ []

abbrev pub StatusFits : Status → Type 0
StatusFits status = Unit {0}

-- a call
unfoldable pub call_text : Call → List ℕ
call_text call.LogInit = 1 ∷ []
call_text (call.LogOpen stream create) = 2 ∷ (stream_name_text stream ++ option_text attrs_text create)
call_text (call.LogWrite stream invocation flags time header body) =
    3 ∷ (stream_name_text stream ++ (number_text 8 invocation ++ (number_text 4 flags ++ (signed_text time
    ++ (header_text header ++ counted_text body)))))
call_text (call.LogClose stream) = 4 ∷ stream_name_text stream
call_text call.LogFini = 5 ∷ []
call_text call.NtfInit = 6 ∷ []
call_text (call.NtfSend notification) = 7 ∷ notification_text notification
call_text (call.NtfSubscribe id filters) = 8 ∷ (number_text 4 id ++ filter_set_text filters)
call_text (call.NtfUnsubscribe id) = 9 ∷ number_text 4 id
call_text (call.ReaderStart mode value filters) = 10 ∷ (number_text 4 mode ++ (signed_text value ++ filter_set_text filters))
call_text (call.ReaderRead direction) = 11 ∷ number_text 4 direction
call_text call.ReaderEnd = 12 ∷ []
call_text call.NtfFini = 13 ∷ []
call_text (call.LogFilter stream mask) = 14 ∷ (stream_name_text stream ++ number_text 4 mask)

abbrev pub CallFits : Call → Type 0
CallFits call.LogInit = Unit {0}
CallFits (call.LogOpen stream create) = StreamNameFits stream × OptionFits AttrsFits create
CallFits (call.LogWrite stream invocation flags time header body) =
    StreamNameFits stream × IsNumber 8 invocation × IsNumber 4 flags × IsSigned time × HeaderFits header × IsText body
CallFits (call.LogClose stream) = StreamNameFits stream
CallFits call.LogFini = Unit {0}
CallFits call.NtfInit = Unit {0}
CallFits (call.NtfSend notification) = NotificationFits notification
CallFits (call.NtfSubscribe id filters) = IsNumber 4 id × FilterSetFits filters
CallFits (call.NtfUnsubscribe id) = IsNumber 4 id
CallFits (call.ReaderStart mode value filters) = IsNumber 4 mode × IsSigned value × FilterSetFits filters
CallFits (call.ReaderRead direction) = IsNumber 4 direction
CallFits call.ReaderEnd = Unit {0}
CallFits call.NtfFini = Unit {0}
CallFits (call.LogFilter stream mask) = StreamNameFits stream × IsNumber 4 mask

-- a reply
unfoldable pub reply_text : Reply → List ℕ
reply_text (reply.Refused status) = 1 ∷ status_text status
reply_text reply.Done = 2 ∷ []
reply_text (reply.Sent id) = 3 ∷ number_text 8 id
reply_text (reply.Found notification) = 4 ∷ notification_text notification
reply_text (reply.Marked filtered mark) = 5 ∷ (flag_text filtered ++ mark_text mark)

abbrev pub ReplyFits : Reply → Type 0
ReplyFits (reply.Refused status) = StatusFits status
ReplyFits reply.Done = Unit {0}
ReplyFits (reply.Sent id) = IsNumber 8 id
ReplyFits (reply.Found notification) = NotificationFits notification
ReplyFits (reply.Marked filtered mark) = MarkFits mark

-- a notification that was lost
unfoldable pub lost_text : Lost → List ℕ
lost_text lost =
    number_text 2 lost.kind ++ number_text 8 lost.id

pub record LostFits (lost : Lost) : Type 0 where
  pub kind : IsNumber 2 lost.kind
  pub id : IsNumber 8 lost.id

-- what an item holds
unfoldable pub content_text : Content → List ℕ
content_text (content.Notified notification) = 1 ∷ notification_text notification
content_text (content.Discarded lost) = 2 ∷ list_text lost_text lost

abbrev pub ContentFits : Content → Type 0
ContentFits (content.Notified notification) = NotificationFits notification
ContentFits (content.Discarded lost) = ListFits LostFits lost

-- an item
unfoldable pub item_text : Item → List ℕ
item_text item =
    number_text 4 item.number ++ content_text item.content

pub record ItemFits (item : Item) : Type 0 where
  pub number : IsCount item.number
  pub content : ContentFits item.content

-- the ranges that its types leave open
pub record ItemInRange (item : Item) : Type 0 where
  pub number : IsCount item.number

-- what was accepted
unfoldable pub entry_text : Entry → List ℕ
entry_text (entry.Called client seq time call) = 1 ∷ (number_text 2 client ++ (number_text 4 seq ++ (signed_text time ++ call_text call)))
entry_text (entry.Receipted client key through time) = 2 ∷ (number_text 2 client ++ (number_text 4 key ++ (number_text 4 through ++ signed_text time)))

abbrev pub EntryFits : Entry → Type 0
EntryFits (entry.Called client seq time call) = IsClient client × IsCount seq × IsSigned time × CallFits call
EntryFits (entry.Receipted client key through time) = IsClient client × IsCount key × IsCount through × IsSigned time

-- the ranges that its types leave open
abbrev pub EntryInRange : Entry → Type 0
EntryInRange (entry.Called client seq time call) = IsClient client × IsCount seq
EntryInRange (entry.Receipted client key through time) = IsClient client × IsCount key × IsCount through
