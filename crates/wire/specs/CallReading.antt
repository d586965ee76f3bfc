-- Words of bodies alone: how calls, replies, items and entries are read.
use Rattle.std.specs.Prelude.{ℕ, ℤ, Bool, List, Option}
use Rattle.ais_values.specs.declared.status.Status.{Status}
use Rattle.ntf_types.specs.declared.notification.Notification.{Notification}
use Rattle.ntf_filters.specs.declared.filter.FilterSet.{FilterSet}
use Rattle.sub_queue.specs.declared.item.Lost.{Lost}
use Rattle.sub_queue.specs.declared.item.Content.{Content}
use Rattle.sub_queue.specs.declared.item.Item.{Item}
use Rattle.stream_config.specs.declared.attrs.StreamName.{StreamName}
use Rattle.stream_config.specs.declared.attrs.StreamAttrs.{StreamAttrs}
use Rattle.stream_config.specs.declared.mark.Mark.{Mark}
use Rattle.record_print.specs.declared.record.Header.{Header}
use Rattle.calls.specs.declared.call.Call.{Call}
use Rattle.calls.specs.declared.reply.Reply.{Reply}
use Rattle.calls.specs.declared.entry.Entry.{Entry}
use Rattle.sub_queue.specs.declared.item.Content.TheVariants as content
use Rattle.ais_values.specs.declared.status.Status.TheVariants as status
use Rattle.calls.specs.declared.call.Call.TheVariants as call
use Rattle.calls.specs.declared.reply.Reply.TheVariants as reply
use Rattle.calls.specs.declared.entry.Entry.TheVariants as entry
use Rattle.wire_code.specs.Reading.{At, made, both, nothing, number_at, signed_at, client_at}
use Rattle.wire_code.specs.Reading.{count_at, list_at, option_at, text_at, flag_at, tagged, variant, no_variant}
use Rattle.wire.specs.NtfReading.{notification_at, filter_set_at}
use Rattle.wire.specs.LogReading.{stream_name_at, attrs_at, mark_at, header_at}

-- a status: one byte, its number in the interface
unfoldable pub status_at : At Status
status_at bytes = tagged
    (variant 1 (made (λ (_ : Unit {0}). status.Ok) nothing)
    (variant 3 (made (λ (_ : Unit {0}). status.Version) nothing)
    (variant 6 (made (λ (_ : Unit {0}). status.TryAgain) nothing)
    (variant 7 (made (λ (_ : Unit {0}). status.InvalidParam) nothing)
    (variant 9 (made (λ (_ : Unit {0}). status.BadHandle) nothing)
    (variant 12 (made (λ (_ : Unit {0}). status.NotExist) nothing)
    (variant 14 (made (λ (_ : Unit {0}). status.Exist) nothing)
    (variant 15 (made (λ (_ : Unit {0}). status.NoSpace) nothing)
    (variant 18 (made (λ (_ : Unit {0}). status.NoResources) nothing)
    (variant 25 (made (λ (_ : Unit {0}). status.BadFlags) nothing)
    no_variant)))))))))) bytes

-- a call of a reader, one that ends the use of the Notification Service, or one that sets a mask, behind its tag
abbrev pub reader_call_at : ℕ → At Call
reader_call_at =
    variant 10 (made (λ (p : ℕ × (ℤ × FilterSet)). call.ReaderStart p.0 p.1.0 p.1.1) (both (number_at 4) (both signed_at filter_set_at)))
    (variant 11 (made (λ (x : ℕ). call.ReaderRead x) (number_at 4))
    (variant 12 (made (λ (_ : Unit {0}). call.ReaderEnd) nothing)
    (variant 13 (made (λ (_ : Unit {0}). call.NtfFini) nothing)
    (variant 14 (made (λ (p : StreamName × ℕ). call.LogFilter p.0 p.1) (both stream_name_at (number_at 4)))
    no_variant))))

-- any call of the Notification Service, or one that sets a mask, behind its tag
abbrev pub ntf_call_at : ℕ → At Call
ntf_call_at =
    variant 6 (made (λ (_ : Unit {0}). call.NtfInit) nothing)
    (variant 7 (made (λ (x : Notification). call.NtfSend x) notification_at)
    (variant 8 (made (λ (p : ℕ × FilterSet). call.NtfSubscribe p.0 p.1) (both (number_at 4) filter_set_at))
    (variant 9 (made (λ (x : ℕ). call.NtfUnsubscribe x) (number_at 4))
    reader_call_at)))

-- a call
unfoldable pub call_at : At Call
call_at bytes = tagged
    (variant 1 (made (λ (_ : Unit {0}). call.LogInit) nothing)
    (variant 2 (made (λ (p : StreamName × Option StreamAttrs). call.LogOpen p.0 p.1) (both stream_name_at (option_at attrs_at)))
    (variant 3 (made (λ (p : StreamName × (ℕ × (ℕ × (ℤ × (Header × List ℕ))))).
    call.LogWrite p.0 p.1.0 p.1.1.0 p.1.1.1.0 p.1.1.1.1.0 p.1.1.1.1.1)
    (both stream_name_at (both (number_at 8) (both (number_at 4) (both signed_at (both header_at text_at))))))
    (variant 4 (made (λ (x : StreamName). call.LogClose x) stream_name_at)
    (variant 5 (made (λ (_ : Unit {0}). call.LogFini) nothing)
    ntf_call_at))))) bytes

-- a reply
unfoldable pub reply_at : At Reply
reply_at bytes = tagged
    (variant 1 (made (λ (x : Status). reply.Refused x) status_at)
    (variant 2 (made (λ (_ : Unit {0}). reply.Done) nothing)
    (variant 3 (made (λ (x : ℕ). reply.Sent x) (number_at 8))
    (variant 4 (made (λ (x : Notification). reply.Found x) notification_at)
    (variant 5 (made (λ (p : Bool × Mark). reply.Marked p.0 p.1) (both flag_at mark_at))
    no_variant))))) bytes

-- a notification that was lost
abbrev pub lost_of : ℕ × ℕ → Lost
lost_of p = record { kind = p.0; id = p.1 }

unfoldable pub lost_at : At Lost
lost_at bytes = made lost_of (both (number_at 2) (number_at 8)) bytes

-- what an item holds
unfoldable pub content_at : At Content
content_at bytes = tagged
    (variant 1 (made (λ (x : Notification). content.Notified x) notification_at)
    (variant 2 (made (λ (x : List Lost). content.Discarded x) (list_at lost_at))
    no_variant)) bytes

-- an item
abbrev pub item_of : ℕ × Content → Item
item_of p = record { number = p.0; content = p.1 }

unfoldable pub item_at : At Item
item_at bytes = made item_of (both count_at content_at) bytes

-- what was accepted
unfoldable pub entry_at : At Entry
entry_at bytes = tagged
    (variant 1 (made (λ (p : ℕ × (ℕ × (ℤ × Call))). entry.Called p.0 p.1.0 p.1.1.0 p.1.1.1) (both client_at (both count_at (both signed_at call_at))))
    (variant 2 (made (λ (p : ℕ × (ℕ × (ℕ × ℤ))). entry.Receipted p.0 p.1.0 p.1.1.0 p.1.1.1) (both client_at (both count_at (both count_at signed_at))))
    no_variant)) bytes
