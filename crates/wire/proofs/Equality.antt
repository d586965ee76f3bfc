-- `==` of messages decides whether they are equal.
use Rattle.std.proofs.Common.{◌≡◌, ℕ, refl}
use Rattle.std.specs.Bool.{Decides}
use Rattle.std.proofs.lemmas.Bool.Decides.{Decides-eqb, Decides-and, Decides-like}
use Rattle.ais_values.proofs.Equality.{eq-decides_through, eq-decides_apart}
use Rattle.sub_queue.proofs.Equality.{item_eq-decides}
use Rattle.calls.proofs.Equality.{call_eq-decides, reply_eq-decides, entry_eq-decides}
use Rattle.calls.proofs.SavedEquality.{saved_eq-decides}
use Rattle.wire.specs.declared.message.Message.{Message}
use Rattle.wire.specs.declared.message.Message.TheVariants as message
use Rattle.wire.specs.contracts.message.MessagePartialEq.TheImpl as message_impl

abbrev message_number : Message → ℕ
message_number (message.Request client seq call) = 0
message_number (message.Reply client seq reply) = 1
message_number (message.Item client key item) = 2
message_number (message.Receipt client key through) = 3
message_number (message.Mirror number entry) = 4
message_number (message.MirrorAck number) = 5
message_number (message.Snapshot saved) = 6
message_number (message.JoinAck number) = 7

pub message_eq-decides : (one other : Message) → Decides ((message_impl.ghosts).eq one other) (one ≡ other)
message_eq-decides (message.Request client1 seq1 call1) (message.Request client2 seq2 call2) =
    Decides-like _
    (λ e. λ i. message.Request (e.0 i) ((e.1).0 i) ((e.1).1 i))
    (λ e. (cc, (cc, cc)))
    (Decides-and _ _ (Decides-eqb client1 client2) (Decides-and _ _ (Decides-eqb seq1 seq2) (call_eq-decides call1 call2)))
message_eq-decides (message.Reply client1 seq1 reply1) (message.Reply client2 seq2 reply2) =
    Decides-like _
    (λ e. λ i. message.Reply (e.0 i) ((e.1).0 i) ((e.1).1 i))
    (λ e. (cc, (cc, cc)))
    (Decides-and _ _ (Decides-eqb client1 client2) (Decides-and _ _ (Decides-eqb seq1 seq2) (reply_eq-decides reply1 reply2)))
message_eq-decides (message.Item client1 key1 item1) (message.Item client2 key2 item2) =
    Decides-like _
    (λ e. λ i. message.Item (e.0 i) ((e.1).0 i) ((e.1).1 i))
    (λ e. (cc, (cc, cc)))
    (Decides-and _ _ (Decides-eqb client1 client2) (Decides-and _ _ (Decides-eqb key1 key2) (item_eq-decides item1 item2)))
message_eq-decides (message.Receipt client1 key1 through1) (message.Receipt client2 key2 through2) =
    Decides-like _
    (λ e. λ i. message.Receipt (e.0 i) ((e.1).0 i) ((e.1).1 i))
    (λ e. (cc, (cc, cc)))
    (Decides-and _ _ (Decides-eqb client1 client2) (Decides-and _ _ (Decides-eqb key1 key2) (Decides-eqb through1 through2)))
message_eq-decides (message.Mirror number1 entry1) (message.Mirror number2 entry2) =
    Decides-like _
    (λ e. λ i. message.Mirror (e.0 i) ((e.1) i))
    (λ e. (cc, cc))
    (Decides-and _ _ (Decides-eqb number1 number2) (entry_eq-decides entry1 entry2))
message_eq-decides (message.MirrorAck one) (message.MirrorAck other) =
    eq-decides_through message.MirrorAck _ one other (λ e. cc) (Decides-eqb one other)
message_eq-decides (message.Snapshot one) (message.Snapshot other) =
    eq-decides_through message.Snapshot _ one other (λ e. cc) (saved_eq-decides one other)
message_eq-decides (message.JoinAck one) (message.JoinAck other) =
    eq-decides_through message.JoinAck _ one other (λ e. cc) (Decides-eqb one other)
message_eq-decides one other = eq-decides_apart message_number _ one other refl refl
