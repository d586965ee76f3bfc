-- The readings of calls, replies, items and entries are exact.
use Rattle.std.proofs.Common.{ℕ, ℤ, Bool, List, Option, refl, inl, inr, arith}
use Rattle.ais_values.specs.declared.status.Status.{Status}
use Rattle.ntf_types.specs.declared.notification.Notification.{Notification}
use Rattle.ntf_filters.specs.declared.filter.FilterSet.{FilterSet}
use Rattle.sub_queue.specs.declared.item.Lost.{Lost}
use Rattle.stream_config.specs.declared.attrs.StreamName.{StreamName}
use Rattle.stream_config.specs.declared.attrs.StreamAttrs.{StreamAttrs}
use Rattle.stream_config.specs.declared.mark.Mark.{Mark}
use Rattle.record_print.specs.declared.record.Header.{Header}
use Rattle.calls.specs.declared.call.Call.{Call}
use Rattle.sub_queue.specs.declared.item.Content.TheVariants as content
use Rattle.ais_values.specs.declared.status.Status.TheVariants as status
use Rattle.calls.specs.declared.call.Call.TheVariants as call
use Rattle.calls.specs.declared.reply.Reply.TheVariants as reply
use Rattle.calls.specs.declared.entry.Entry.TheVariants as entry
use Rattle.wire.proofs.NtfCodes.{notification_code, filter_set_code}
use Rattle.wire.specs.LogSpelling.{attrs_text, AttrsFits}
use Rattle.wire.specs.LogReading.{attrs_at}
use Rattle.wire.proofs.LogCodes.{stream_name_code, attrs_code, mark_code, header_code}
use Rattle.wire.specs.CallSpelling.{status_text, StatusFits, call_text, CallFits, reply_text, ReplyFits, lost_text, LostFits, content_text, ContentFits, item_text, ItemFits, entry_text, EntryFits}
use Rattle.wire.specs.CallReading.{status_at, call_at, reply_at, lost_at, lost_of, content_at, item_at, item_of, entry_at}
use Rattle.wire_code.proofs.Codes.{Code, made_code, both_code, nothing_code}
use Rattle.wire_code.proofs.NumberCodes.{number_code, signed_code}
use Rattle.wire_code.proofs.RangeCodes.{client_code, count_code}
use Rattle.wire_code.proofs.ListCodes.{list_code, text_code}
use Rattle.wire_code.proofs.ChoiceCodes.{option_code, flag_code, no_choice, variant_choice, choice_code}

-- a status: one byte, its number in the interface
pub status_code : Code status_at status_text StatusFits
unfolding status_at status_text
status_code =
    choice_code
    (variant_choice 1 (λ (_ : Unit {0}). status.Ok) status_text StatusFits nothing_code (λ p fits. refl) (λ p fits. tt) (omega arith)
    (variant_choice 3 (λ (_ : Unit {0}). status.Version) status_text StatusFits nothing_code (λ p fits. refl) (λ p fits. tt) (omega arith)
    (variant_choice 6 (λ (_ : Unit {0}). status.TryAgain) status_text StatusFits nothing_code (λ p fits. refl) (λ p fits. tt) (omega arith)
    (variant_choice 7 (λ (_ : Unit {0}). status.InvalidParam) status_text StatusFits nothing_code (λ p fits. refl) (λ p fits. tt) (omega arith)
    (variant_choice 9 (λ (_ : Unit {0}). status.BadHandle) status_text StatusFits nothing_code (λ p fits. refl) (λ p fits. tt) (omega arith)
    (variant_choice 12 (λ (_ : Unit {0}). status.NotExist) status_text StatusFits nothing_code (λ p fits. refl) (λ p fits. tt) (omega arith)
    (variant_choice 14 (λ (_ : Unit {0}). status.Exist) status_text StatusFits nothing_code (λ p fits. refl) (λ p fits. tt) (omega arith)
    (variant_choice 15 (λ (_ : Unit {0}). status.NoSpace) status_text StatusFits nothing_code (λ p fits. refl) (λ p fits. tt) (omega arith)
    (variant_choice 18 (λ (_ : Unit {0}). status.NoResources) status_text StatusFits nothing_code (λ p fits. refl) (λ p fits. tt) (omega arith)
    (variant_choice 25 (λ (_ : Unit {0}). status.BadFlags) status_text StatusFits nothing_code (λ p fits. refl) (λ p fits. tt) (omega arith)
    (no_choice 26 status_text StatusFits)))))))))))
    (elim [
      | status.Ok ↦ λ fits. inl (tt, refl, tt)
      | status.Version ↦ λ fits. inr (inl (tt, refl, tt))
      | status.TryAgain ↦ λ fits. inr (inr (inl (tt, refl, tt)))
      | status.InvalidParam ↦ λ fits. inr (inr (inr (inl (tt, refl, tt))))
      | status.BadHandle ↦ λ fits. inr (inr (inr (inr (inl (tt, refl, tt)))))
      | status.NotExist ↦ λ fits. inr (inr (inr (inr (inr (inl (tt, refl, tt))))))
      | status.Exist ↦ λ fits. inr (inr (inr (inr (inr (inr (inl (tt, refl, tt)))))))
      | status.NoSpace ↦ λ fits. inr (inr (inr (inr (inr (inr (inr (inl (tt, refl, tt))))))))
      | status.NoResources ↦ λ fits. inr (inr (inr (inr (inr (inr (inr (inr (inl (tt, refl, tt)))))))))
      | status.BadFlags ↦ λ fits. inr (inr (inr (inr (inr (inr (inr (inr (inr (inl (tt, refl, tt))))))))))
    ])
    (status.Ok, tt)

-- a call
pub call_code : Code call_at call_text CallFits
unfolding call_at call_text
call_code =
    choice_code
    (variant_choice 1 (λ (_ : Unit {0}). call.LogInit) call_text CallFits nothing_code (λ p fits. refl) (λ p fits. tt) (omega arith)
    (variant_choice 2 (λ (p : StreamName × Option StreamAttrs). call.LogOpen p.0 p.1) call_text CallFits (both_code stream_name_code (option_code attrs_at attrs_text AttrsFits attrs_code)) (λ p fits. refl) (λ p fits. (fits.0, fits.1)) (omega arith)
    (variant_choice 3 (λ (p : StreamName × (ℕ × (ℕ × (ℤ × (Header × List ℕ))))). call.LogWrite p.0 p.1.0 p.1.1.0 p.1.1.1.0 p.1.1.1.1.0 p.1.1.1.1.1) call_text CallFits (both_code stream_name_code (both_code (number_code 8) (both_code (number_code 4) (both_code signed_code (both_code header_code text_code))))) (λ p fits. refl) (λ p fits. (fits.0, fits.1.0, fits.1.1.0, fits.1.1.1.0, fits.1.1.1.1.0, fits.1.1.1.1.1)) (omega arith)
    (variant_choice 4 (λ (x : StreamName). call.LogClose x) call_text CallFits stream_name_code (λ p fits. refl) (λ p fits. fits) (omega arith)
    (variant_choice 5 (λ (_ : Unit {0}). call.LogFini) call_text CallFits nothing_code (λ p fits. refl) (λ p fits. tt) (omega arith)
    (variant_choice 6 (λ (_ : Unit {0}). call.NtfInit) call_text CallFits nothing_code (λ p fits. refl) (λ p fits. tt) (omega arith)
    (variant_choice 7 (λ (x : Notification). call.NtfSend x) call_text CallFits notification_code (λ p fits. refl) (λ p fits. fits) (omega arith)
    (variant_choice 8 (λ (p : ℕ × FilterSet). call.NtfSubscribe p.0 p.1) call_text CallFits (both_code (number_code 4) filter_set_code) (λ p fits. refl) (λ p fits. (fits.0, fits.1)) (omega arith)
    (variant_choice 9 (λ (x : ℕ). call.NtfUnsubscribe x) call_text CallFits (number_code 4) (λ p fits. refl) (λ p fits. fits) (omega arith)
    (variant_choice 10 (λ (p : ℕ × (ℤ × FilterSet)). call.ReaderStart p.0 p.1.0 p.1.1) call_text CallFits (both_code (number_code 4) (both_code signed_code filter_set_code)) (λ p fits. refl) (λ p fits. (fits.0, fits.1.0, fits.1.1)) (omega arith)
    (variant_choice 11 (λ (x : ℕ). call.ReaderRead x) call_text CallFits (number_code 4) (λ p fits. refl) (λ p fits. fits) (omega arith)
    (variant_choice 12 (λ (_ : Unit {0}). call.ReaderEnd) call_text CallFits nothing_code (λ p fits. refl) (λ p fits. tt) (omega arith)
    (variant_choice 13 (λ (_ : Unit {0}). call.NtfFini) call_text CallFits nothing_code (λ p fits. refl) (λ p fits. tt) (omega arith)
    (variant_choice 14 (λ (p : StreamName × ℕ). call.LogFilter p.0 p.1) call_text CallFits (both_code stream_name_code (number_code 4)) (λ p fits. refl) (λ p fits. (fits.0, fits.1)) (omega arith)
    (no_choice 15 call_text CallFits)))))))))))))))
    (elim [
      | call.LogInit ↦ λ fits. inl (tt, refl, tt)
      | call.LogOpen stream create ↦ λ fits. inr (inl ((stream, create), refl, (fits.0, fits.1)))
      | call.LogWrite stream invocation flags time header body ↦ λ fits. inr (inr (inl ((stream, (invocation, (flags, (time, (header, body))))), refl, (fits.0, (fits.1, (fits.2, (fits.3, (fits.4, fits.5))))))))
      | call.LogClose stream ↦ λ fits. inr (inr (inr (inl (stream, refl, fits))))
      | call.LogFini ↦ λ fits. inr (inr (inr (inr (inl (tt, refl, tt)))))
      | call.NtfInit ↦ λ fits. inr (inr (inr (inr (inr (inl (tt, refl, tt))))))
      | call.NtfSend notification ↦ λ fits. inr (inr (inr (inr (inr (inr (inl (notification, refl, fits)))))))
      | call.NtfSubscribe id filters ↦ λ fits. inr (inr (inr (inr (inr (inr (inr (inl ((id, filters), refl, (fits.0, fits.1)))))))))
      | call.NtfUnsubscribe id ↦ λ fits. inr (inr (inr (inr (inr (inr (inr (inr (inl (id, refl, fits)))))))))
      | call.ReaderStart mode value filters ↦ λ fits. inr (inr (inr (inr (inr (inr (inr (inr (inr (inl ((mode, (value, filters)), refl, (fits.0, (fits.1, fits.2))))))))))))
      | call.ReaderRead direction ↦ λ fits. inr (inr (inr (inr (inr (inr (inr (inr (inr (inr (inl (direction, refl, fits)))))))))))
      | call.ReaderEnd ↦ λ fits. inr (inr (inr (inr (inr (inr (inr (inr (inr (inr (inr (inl (tt, refl, tt))))))))))))
      | call.NtfFini ↦ λ fits. inr (inr (inr (inr (inr (inr (inr (inr (inr (inr (inr (inr (inl (tt, refl, tt)))))))))))))
      | call.LogFilter stream mask ↦ λ fits. inr (inr (inr (inr (inr (inr (inr (inr (inr (inr (inr (inr (inr (inl ((stream, mask), refl, (fits.0, fits.1)))))))))))))))
    ])
    (call.LogInit, tt)

-- a reply
pub reply_code : Code reply_at reply_text ReplyFits
unfolding reply_at reply_text
reply_code =
    choice_code
    (variant_choice 1 (λ (x : Status). reply.Refused x) reply_text ReplyFits status_code (λ p fits. refl) (λ p fits. fits) (omega arith)
    (variant_choice 2 (λ (_ : Unit {0}). reply.Done) reply_text ReplyFits nothing_code (λ p fits. refl) (λ p fits. tt) (omega arith)
    (variant_choice 3 (λ (x : ℕ). reply.Sent x) reply_text ReplyFits (number_code 8) (λ p fits. refl) (λ p fits. fits) (omega arith)
    (variant_choice 4 (λ (x : Notification). reply.Found x) reply_text ReplyFits notification_code (λ p fits. refl) (λ p fits. fits) (omega arith)
    (variant_choice 5 (λ (p : Bool × Mark). reply.Marked p.0 p.1) reply_text ReplyFits (both_code flag_code mark_code) (λ p fits. refl) (λ p fits. fits.1) (omega arith)
    (no_choice 6 reply_text ReplyFits))))))
    (elim [
      | reply.Refused status ↦ λ fits. inl (status, refl, fits)
      | reply.Done ↦ λ fits. inr (inl (tt, refl, tt))
      | reply.Sent id ↦ λ fits. inr (inr (inl (id, refl, fits)))
      | reply.Found notification ↦ λ fits. inr (inr (inr (inl (notification, refl, fits))))
      | reply.Marked filtered mark ↦ λ fits. inr (inr (inr (inr (inl ((filtered, mark), refl, (tt, fits))))))
    ])
    (reply.Refused status_code.some.0, status_code.some.1)

-- a notification that was lost
pub lost_code : Code lost_at lost_text LostFits
unfolding lost_at lost_text
lost_code =
    made_code lost_of lost_text LostFits (both_code (number_code 2) (number_code 8))
    (λ p fits. refl)
    (λ p fits. record { kind = fits.0; id = fits.1 })
    (λ x fits. ((x.kind, x.id), refl, (fits.kind, fits.id)))

-- what an item holds
pub content_code : Code content_at content_text ContentFits
unfolding content_at content_text
content_code =
    choice_code
    (variant_choice 1 (λ (x : Notification). content.Notified x) content_text ContentFits notification_code (λ p fits. refl) (λ p fits. fits) (omega arith)
    (variant_choice 2 (λ (x : List Lost). content.Discarded x) content_text ContentFits (list_code lost_at lost_text LostFits lost_code) (λ p fits. refl) (λ p fits. fits) (omega arith)
    (no_choice 3 content_text ContentFits)))
    (elim [
      | content.Notified notification ↦ λ fits. inl (notification, refl, fits)
      | content.Discarded lost ↦ λ fits. inr (inl (lost, refl, fits))
    ])
    (content.Notified notification_code.some.0, notification_code.some.1)

-- an item
pub item_code : Code item_at item_text ItemFits
unfolding item_at item_text
item_code =
    made_code item_of item_text ItemFits (both_code count_code content_code)
    (λ p fits. refl)
    (λ p fits. record { number = fits.0; content = fits.1 })
    (λ x fits. ((x.number, x.content), refl, (fits.number, fits.content)))

-- what was accepted
pub entry_code : Code entry_at entry_text EntryFits
unfolding entry_at entry_text
entry_code =
    choice_code
    (variant_choice 1 (λ (p : ℕ × (ℕ × (ℤ × Call))). entry.Called p.0 p.1.0 p.1.1.0 p.1.1.1) entry_text EntryFits (both_code client_code (both_code count_code (both_code signed_code call_code))) (λ p fits. refl) (λ p fits. (fits.0, fits.1.0, fits.1.1.0, fits.1.1.1)) (omega arith)
    (variant_choice 2 (λ (p : ℕ × (ℕ × (ℕ × ℤ))). entry.Receipted p.0 p.1.0 p.1.1.0 p.1.1.1) entry_text EntryFits (both_code client_code (both_code count_code (both_code count_code signed_code))) (λ p fits. refl) (λ p fits. (fits.0, fits.1.0, fits.1.1.0, fits.1.1.1)) (omega arith)
    (no_choice 3 entry_text EntryFits)))
    (elim [
      | entry.Called client seq time call ↦ λ fits. inl ((client, (seq, (time, call))), refl, (fits.0, (fits.1, (fits.2, fits.3))))
      | entry.Receipted client key through time ↦ λ fits. inr (inl ((client, (key, (through, time))), refl, (fits.0, (fits.1, (fits.2, fits.3)))))
    ])
    (entry.Called client_code.some.0 count_code.some.0 signed_code.some.0 call_code.some.0, (client_code.some.1, count_code.some.1, signed_code.some.1, call_code.some.1))
