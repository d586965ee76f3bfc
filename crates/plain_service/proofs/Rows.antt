-- Worked rows: what the definitions give on small histories.
use Rattle.std.proofs.Common.{◌≡◌, ℕ, true, false, List, [], ◌∷◌, refl}
use Rattle.std.specs.Prelude.{Some, None, ℤ, pos, codes}
use Rattle.ais_values.specs.declared.kind.StreamKind.TheVariants as kind
use Rattle.ais_values.specs.declared.status.Status.TheVariants as status
use Rattle.stream_config.specs.declared.attrs.FullAction.{FullAction}
use Rattle.stream_config.specs.declared.attrs.FullAction.TheVariants.{Halt, Rotate}
use Rattle.stream_config.specs.declared.attrs.StreamAttrs.{StreamAttrs}
use Rattle.stream_config.specs.declared.attrs.StreamName.TheVariants as name
use Rattle.stream_config.specs.WellKnown.{default_attrs}
use Rattle.record_print.specs.Printing.{printed_record}
use Rattle.record_print.specs.declared.record.Header.TheVariants.{Generic}
use Rattle.format_expr.specs.Reading.{pieces_of, pieces_from}
use Rattle.format_expr.specs.Tokens.{part_with, shown_parts}
use Rattle.ntf_types.specs.declared.notification.Body.TheVariants.{Alarm}
use Rattle.ntf_types.specs.declared.notification.Notification.{Notification}
use Rattle.ntf_types.specs.SoundTests.{is_sound}
use Rattle.ntf_filters.specs.declared.filter.FilterSet.{FilterSet}
use Rattle.ntf_filters.specs.Matching.{admits, admits_option, admits_common, admits_body}
use Rattle.ntf_filters.specs.FitTests.{is_fit}
use Rattle.sub_queue.specs.declared.item.Lost.{Lost}
use Rattle.sub_queue.specs.declared.item.Content.TheVariants.{Notified, Discarded}
use Rattle.calls.specs.declared.call.Call.{Call}
use Rattle.calls.specs.declared.call.Call.TheVariants.{LogInit, LogOpen, LogWrite, LogFilter, NtfInit, NtfSend, NtfSubscribe, NtfUnsubscribe, ReaderStart, ReaderRead, ReaderEnd, NtfFini}
use Rattle.calls.specs.declared.reply.Reply.TheVariants.{Refused, Sent, Found, Marked}
use Rattle.calls.specs.declared.entry.Entry.{Entry}
use Rattle.calls.specs.declared.entry.Entry.TheVariants.{Called, Receipted}
use Rattle.calls.specs.declared.entry.Held.{Held}
use Rattle.plain_service.specs.Setups.{Setup}
use Rattle.plain_service.specs.Replies.{reply_of, next_number}
use Rattle.plain_service.specs.Items.{items_of, held_for, made_for, through_for, is_new_receipt}
use Rattle.plain_service.specs.Records.{record_of}
use Rattle.plain_service.specs.Asked.{sub_for, sends_asked, sends_dropped}

-- 2024-01-01T00:00:00 UTC
abbrev now : ℤ
now = pos 1704067200000000000

abbrev with_alarm : StreamAttrs → Setup
with_alarm attrs = record {
  start = now;
  capacity = 2;
  alarm = attrs;
  notification = default_attrs kind.Notification;
  system = default_attrs kind.System;
}

abbrev setup : Setup
setup = with_alarm (default_attrs kind.Alarm)

-- an alarm at a time
abbrev alarm : (id : ℕ) → ℤ → List ℕ → Notification
alarm id time text = record {
  id = id;
  event_type = 0x4001;
  object = codes "node1";
  notifier = codes "hw";
  class = record { vendor = 1; major = 2; minor = 3 };
  event_time = time;
  correlated = [];
  text = text;
  info = [];
  body = Alarm 5 4;
}

abbrev alarms : FilterSet
alarms = record {
  objects = None;
  attributes = None;
  states = None;
  alarms = Some (record { types = []; objects = []; notifiers = []; classes = []; sources = []; causes = []; severities = [] });
  security = None;
}

-- the client's next call
abbrev called : ℕ → Call → List Entry → List Entry
called client call past = Called client (next_number client past) now call ∷ past

-- five alarms to a subscription of capacity 2: two are items, and three are lost
abbrev subscribed : List Entry
subscribed = called 2 NtfInit (called 1 (NtfSubscribe 9 alarms) (called 1 NtfInit []))

abbrev sent : List Entry → List Entry
sent past = called 2 (NtfSend (alarm 0 now (codes "f"))) past

abbrev five_sent : List Entry
five_sent = sent (sent (sent (sent (sent subscribed))))

abbrev item : ℕ → Held
item number = held_for 1 2 (record { number = number; content = Notified (alarm number now (codes "f")) })

two_held : items_of setup five_sent ≡ item 1 ∷ item 2 ∷ []
unfolding items_of is_fit is_sound admits admits_option admits_common admits_body
two_held = refl

-- a receipt through the second is new, and then one item holds the three that were lost
is_first_new : is_new_receipt setup five_sent 1 2 2 ≡ true
unfolding is_new_receipt is_fit is_sound admits admits_option admits_common admits_body
is_first_new = refl

abbrev one_receipt : List Entry
one_receipt = Receipted 1 2 2 now ∷ five_sent

abbrev lost : ℕ → Lost
lost id = record { kind = 0x4000; id = id }

lost_held : items_of setup one_receipt ≡ held_for 1 2 (record { number = 3; content = Discarded (lost 3 ∷ lost 4 ∷ lost 5 ∷ []) }) ∷ []
unfolding items_of is_fit is_sound admits admits_option admits_common admits_body
lost_held = refl

is_second_old : is_new_receipt setup one_receipt 1 2 2 ≡ false
unfolding is_new_receipt is_fit is_sound admits admits_option admits_common admits_body
is_second_old = refl

none_held : items_of setup (Receipted 1 2 3 now ∷ one_receipt) ≡ []
unfolding items_of is_fit is_sound admits admits_option admits_common admits_body
none_held = refl

-- all five were asked for, and three of them dropped; a refused send is not among them, and no send behind the end
abbrev after_end : List Entry
after_end = sent (called 1 (NtfUnsubscribe 9) (called 3 (NtfSend (alarm 0 now (codes "f"))) one_receipt))

all_asked : sends_asked setup after_end 1 2 ≡ lost 1 ∷ lost 2 ∷ lost 3 ∷ lost 4 ∷ lost 5 ∷ []
unfolding sub_for reply_of is_fit is_sound admits admits_option admits_common admits_body
all_asked = refl

three_dropped : sends_dropped setup after_end 1 2 ≡ lost 3 ∷ lost 4 ∷ lost 5 ∷ []
unfolding sub_for made_for through_for reply_of is_fit is_sound admits admits_option admits_common admits_body
three_dropped = refl

-- a reader at the first of two alarms of one time reads both and goes back, and finds none before the first
abbrev reading : List Entry
reading =
    called 1 (ReaderStart 2 (pos 100) alarms)
    (called 1 (NtfSend (alarm 0 (pos 100) (codes "y"))) (called 1 (NtfSend (alarm 0 (pos 100) (codes "x"))) (called 1 NtfInit [])))

first_read : reply_of setup reading 1 now (ReaderRead 2) ≡ Found (alarm 1 (pos 100) (codes "x"))
unfolding reply_of is_fit is_sound admits admits_option admits_common admits_body
first_read = refl

second_read : reply_of setup (called 1 (ReaderRead 2) reading) 1 now (ReaderRead 2) ≡ Found (alarm 2 (pos 100) (codes "y"))
unfolding reply_of is_fit is_sound admits admits_option admits_common admits_body
second_read = refl

third_read : reply_of setup (called 1 (ReaderRead 2) (called 1 (ReaderRead 2) reading)) 1 now (ReaderRead 1) ≡ Found (alarm 1 (pos 100) (codes "x"))
unfolding reply_of is_fit is_sound admits admits_option admits_common admits_body
third_read = refl

fourth_read : reply_of setup (called 1 (ReaderRead 1) (called 1 (ReaderRead 2) (called 1 (ReaderRead 2) reading))) 1 now (ReaderRead 1) ≡ Refused status.NotExist
unfolding reply_of is_fit is_sound admits admits_option admits_common admits_body
fourth_read = refl

-- the alarm stream keeps one record: the reader's alarm is gone, and it goes on from where that stood
abbrev one_kept : Setup
one_kept = with_alarm (record (default_attrs kind.Alarm) { record_size = 64; max_file = 64; rotated = 1 })

abbrev rotated : List Entry
rotated =
    called 1 (NtfSend (alarm 0 (pos 200) (codes "y")))
    (called 1 (ReaderStart 7 (pos 0) alarms) (called 1 (NtfSend (alarm 0 (pos 100) (codes "x"))) (called 1 NtfInit [])))

none_before : reply_of one_kept rotated 1 now (ReaderRead 1) ≡ Refused status.NotExist
unfolding reply_of is_fit is_sound admits admits_option admits_common admits_body
none_before = refl

one_behind : reply_of one_kept (called 1 (ReaderRead 1) rotated) 1 now (ReaderRead 2) ≡ Found (alarm 2 (pos 200) (codes "y"))
unfolding reply_of is_fit is_sound admits admits_option admits_common admits_body
one_behind = refl

-- records of the sizes of their texts: an alarm that does not fit is refused, and a shorter one has the next id
abbrev freely : ℕ → FullAction → Setup
freely max action =
    with_alarm (record (default_attrs kind.Alarm) { record_size = 0; max_file = max; action = action; rotated = 1; expr = codes "@Cb" })

abbrev one_sent : List Entry
one_sent = called 1 (NtfSend (alarm 0 now (codes "abc"))) (called 1 NtfInit [])

free_full : reply_of (freely 6 Halt) one_sent 1 now (NtfSend (alarm 0 now (codes "de"))) ≡ Refused status.NoSpace
unfolding reply_of is_fit is_sound admits admits_option admits_common admits_body printed_record pieces_of pieces_from part_with shown_parts
free_full = refl

free_fits : reply_of (freely 6 Halt) (called 1 (NtfSend (alarm 0 now (codes "de"))) one_sent) 1 now (NtfSend (alarm 0 now (codes "d"))) ≡ Sent 2
unfolding reply_of is_fit is_sound admits admits_option admits_common admits_body printed_record pieces_of pieces_from part_with shown_parts
free_fits = refl

-- the second begins the next file where the first leaves it no room, and the first is gone
both_stand : reply_of (freely 4 Rotate) rotated 1 now (ReaderRead 1) ≡ Found (alarm 1 (pos 100) (codes "x"))
unfolding reply_of is_fit is_sound admits admits_option admits_common admits_body printed_record pieces_of pieces_from part_with shown_parts
both_stand = refl

first_gone : reply_of (freely 3 Rotate) rotated 1 now (ReaderRead 1) ≡ Refused status.NotExist
unfolding reply_of is_fit is_sound admits admits_option admits_common admits_body printed_record pieces_of pieces_from part_with shown_parts
first_gone = refl

-- two clients have the system stream open; the fifth entry sets a mask that lets warnings alone pass, and a notice is filtered
abbrev both_open : List Entry
both_open =
    called 2 (LogOpen name.System None) (called 2 LogInit (called 1 (LogOpen name.System None) (called 1 LogInit [])))

abbrev masked : List Entry
masked = called 1 (LogFilter name.System 8) both_open

abbrev write : (severity : ℕ) → Call
write severity =
    LogWrite name.System 7 1 now (Generic (record { vendor = 0; major = 0; minor = 0 }) (codes "u") severity) (codes "x")

mask_set : reply_of setup both_open 1 now (LogFilter name.System 8) ≡ Marked false (record { since = 5; mask = 8 })
unfolding reply_of
mask_set = refl

notice_filtered : reply_of setup masked 2 now (write 6) ≡ Marked true (record { since = 5; mask = 8 })
unfolding reply_of
notice_filtered = refl

notice_gone : record_of setup (called 2 (write 6) masked) 2 3 ≡ None
unfolding record_of
notice_gone = refl

warning_written : reply_of setup masked 2 now (write 3) ≡ Marked false (record { since = 5; mask = 8 })
unfolding reply_of
warning_written = refl

no_such_mask : reply_of setup both_open 1 now (LogFilter name.System 128) ≡ Refused status.InvalidParam
unfolding reply_of
no_such_mask = refl

none_open : reply_of setup both_open 1 now (LogFilter name.Alarm 1) ≡ Refused status.BadHandle
unfolding reply_of
none_open = refl

-- a service that is not begun refuses, and one that is begun is not begun again
not_begun : reply_of setup [] 1 now (NtfUnsubscribe 1) ≡ Refused status.BadHandle
unfolding reply_of
not_begun = refl

begun_once : reply_of setup (called 1 LogInit []) 1 now LogInit ≡ Refused status.NoResources
unfolding reply_of
begun_once = refl

-- a use that ended takes the subscriptions and the reader with it
ended : reply_of setup (called 1 NtfInit (called 1 NtfFini reading)) 1 now ReaderEnd ≡ Refused status.BadHandle
unfolding reply_of is_fit is_sound admits admits_option admits_common admits_body
ended = refl

-- ids are those of the sends that were answered ok
third_id : reply_of setup (called 1 (NtfSend (record (alarm 0 now []) { event_type = 1 })) reading) 1 now (NtfSend (alarm 0 now [])) ≡ Sent 3
unfolding reply_of is_fit is_sound admits admits_option admits_common admits_body
third_id = refl
