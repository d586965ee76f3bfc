-- Words of bodies alone: how messages are read.
use Rattle.std.specs.Prelude.{ℕ}
use Rattle.sub_queue.specs.declared.item.Item.{Item}
use Rattle.calls.specs.declared.call.Call.{Call}
use Rattle.calls.specs.declared.reply.Reply.{Reply}
use Rattle.calls.specs.declared.entry.Entry.{Entry}
use Rattle.calls.specs.declared.saved.Saved.{Saved}
use Rattle.wire.specs.declared.message.Message.{Message}
use Rattle.wire.specs.declared.message.Message.TheVariants as message
use Rattle.wire_code.specs.Reading.{At, made, both, number_at, client_at, count_at, tagged, variant, no_variant}
use Rattle.wire.specs.CallReading.{call_at, reply_at, item_at, entry_at}
use Rattle.wire.specs.SavedReading.{saved_at}

-- a message between servers, behind its tag
abbrev pub server_message_at : ℕ → At Message
server_message_at =
    variant 5 (made (λ (p : ℕ × Entry). message.Mirror p.0 p.1) (both (number_at 8) entry_at))
    (variant 6 (made (λ (x : ℕ). message.MirrorAck x) (number_at 8))
    (variant 7 (made (λ (x : Saved). message.Snapshot x) saved_at)
    (variant 8 (made (λ (x : ℕ). message.JoinAck x) (number_at 8))
    no_variant)))

-- a message
unfoldable pub message_at : At Message
message_at bytes = tagged
    (variant 1 (made (λ (p : ℕ × (ℕ × Call)). message.Request p.0 p.1.0 p.1.1) (both client_at (both count_at call_at)))
    (variant 2 (made (λ (p : ℕ × (ℕ × Reply)). message.Reply p.0 p.1.0 p.1.1) (both client_at (both count_at reply_at)))
    (variant 3 (made (λ (p : ℕ × (ℕ × Item)). message.Item p.0 p.1.0 p.1.1) (both client_at (both count_at item_at)))
    (variant 4 (made (λ (p : ℕ × (ℕ × ℕ)). message.Receipt p.0 p.1.0 p.1.1) (both client_at (both count_at count_at)))
    server_message_at)))) bytes
