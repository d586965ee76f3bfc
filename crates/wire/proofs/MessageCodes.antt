-- The readings of messages are exact.
use Rattle.std.proofs.Common.{ℕ, refl, inl, inr, arith}
use Rattle.sub_queue.specs.declared.item.Item.{Item}
use Rattle.calls.specs.declared.call.Call.{Call}
use Rattle.calls.specs.declared.reply.Reply.{Reply}
use Rattle.calls.specs.declared.entry.Entry.{Entry}
use Rattle.calls.specs.declared.saved.Saved.{Saved}
use Rattle.wire.specs.declared.message.Message.TheVariants as message
use Rattle.wire.proofs.CallCodes.{call_code, reply_code, item_code, entry_code}
use Rattle.wire.proofs.SavedCodes.{saved_code}
use Rattle.wire.specs.MessageSpelling.{message_text, MessageFits}
use Rattle.wire.specs.MessageReading.{message_at}
use Rattle.wire_code.proofs.Codes.{Code, both_code}
use Rattle.wire_code.proofs.NumberCodes.{number_code}
use Rattle.wire_code.proofs.RangeCodes.{client_code, count_code}
use Rattle.wire_code.proofs.ChoiceCodes.{no_choice, variant_choice, choice_code}

-- a message
pub message_code : Code message_at message_text MessageFits
unfolding message_at message_text
message_code =
    choice_code
    (variant_choice 1 (λ (p : ℕ × (ℕ × Call)). message.Request p.0 p.1.0 p.1.1) message_text MessageFits (both_code client_code (both_code count_code call_code)) (λ p fits. refl) (λ p fits. (fits.0, fits.1.0, fits.1.1)) (omega arith)
    (variant_choice 2 (λ (p : ℕ × (ℕ × Reply)). message.Reply p.0 p.1.0 p.1.1) message_text MessageFits (both_code client_code (both_code count_code reply_code)) (λ p fits. refl) (λ p fits. (fits.0, fits.1.0, fits.1.1)) (omega arith)
    (variant_choice 3 (λ (p : ℕ × (ℕ × Item)). message.Item p.0 p.1.0 p.1.1) message_text MessageFits (both_code client_code (both_code count_code item_code)) (λ p fits. refl) (λ p fits. (fits.0, fits.1.0, fits.1.1)) (omega arith)
    (variant_choice 4 (λ (p : ℕ × (ℕ × ℕ)). message.Receipt p.0 p.1.0 p.1.1) message_text MessageFits (both_code client_code (both_code count_code count_code)) (λ p fits. refl) (λ p fits. (fits.0, fits.1.0, fits.1.1)) (omega arith)
    (variant_choice 5 (λ (p : ℕ × Entry). message.Mirror p.0 p.1) message_text MessageFits (both_code (number_code 8) entry_code) (λ p fits. refl) (λ p fits. (fits.0, fits.1)) (omega arith)
    (variant_choice 6 (λ (x : ℕ). message.MirrorAck x) message_text MessageFits (number_code 8) (λ p fits. refl) (λ p fits. fits) (omega arith)
    (variant_choice 7 (λ (x : Saved). message.Snapshot x) message_text MessageFits saved_code (λ p fits. refl) (λ p fits. fits) (omega arith)
    (variant_choice 8 (λ (x : ℕ). message.JoinAck x) message_text MessageFits (number_code 8) (λ p fits. refl) (λ p fits. fits) (omega arith)
    (no_choice 9 message_text MessageFits)))))))))
    (elim [
      | message.Request client seq call ↦ λ fits. inl ((client, (seq, call)), refl, (fits.0, (fits.1, fits.2)))
      | message.Reply client seq reply ↦ λ fits. inr (inl ((client, (seq, reply)), refl, (fits.0, (fits.1, fits.2))))
      | message.Item client key item ↦ λ fits. inr (inr (inl ((client, (key, item)), refl, (fits.0, (fits.1, fits.2)))))
      | message.Receipt client key through ↦ λ fits. inr (inr (inr (inl ((client, (key, through)), refl, (fits.0, (fits.1, fits.2))))))
      | message.Mirror number entry ↦ λ fits. inr (inr (inr (inr (inl ((number, entry), refl, (fits.0, fits.1))))))
      | message.MirrorAck number ↦ λ fits. inr (inr (inr (inr (inr (inl (number, refl, fits))))))
      | message.Snapshot saved ↦ λ fits. inr (inr (inr (inr (inr (inr (inl (saved, refl, fits)))))))
      | message.JoinAck number ↦ λ fits. inr (inr (inr (inr (inr (inr (inr (inl (number, refl, fits))))))))
    ])
    (message.Request client_code.some.0 count_code.some.0 call_code.some.0, (client_code.some.1, count_code.some.1, call_code.some.1))
