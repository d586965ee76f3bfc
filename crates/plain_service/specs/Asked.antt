-- Words of public clauses: the sends for which a subscription asks, and which of them were dropped.
use Rattle.std.specs.Prelude.{ℕ, ◌-◌, ℤ, nat_lt, Bool, if◌then◌else◌, List, [], ◌∷◌, ◌++◌, length, map, Option}
use Rattle.ntf_types.specs.declared.notification.Notification.{Notification}
use Rattle.ntf_types.specs.Kinds.{kind_of}
use Rattle.sub_queue.specs.declared.item.Lost.{Lost}
use Rattle.calls.specs.declared.call.Call.TheVariants.{NtfSend}
use Rattle.calls.specs.declared.entry.Entry.{Entry}
use Rattle.calls.specs.declared.entry.Entry.TheVariants.{Called}
use Rattle.calls.specs.declared.reply.Reply.{Reply}
use Rattle.calls.specs.declared.reply.Reply.TheVariants.{Sent}
use Rattle.ntf_history.specs.Changes.{Sub}
use Rattle.ntf_history.specs.Subscriptions.{sub_at, lost_of, asked_by}
use Rattle.plain_service.specs.Setups.{Setup}
use Rattle.plain_service.specs.Changing.{past_of}
use Rattle.plain_service.specs.Replies.{reply_of}
use Rattle.plain_service.specs.Items.{made_for, through_for}

-- the subscription of this client and key, while it lasts
unfoldable pub sub_for : Setup → List Entry → (client key : ℕ) → Option Sub
sub_for setup past client key = sub_at (past_of setup past).ntf client key

-- what was lost of it since the last item that was made for it
unfoldable pub lost_for : Setup → List Entry → (client key : ℕ) → List Lost
lost_for setup past client key = lost_of setup.capacity (past_of setup past).ntf client key

-- fewer of its items than its queue holds are without receipt
abbrev pub has_place_for : Setup → List Entry → (client key : ℕ) → Bool
has_place_for setup past client key = nat_lt (length (made_for setup past client key) - through_for setup past client key) setup.capacity

-- a notification's mark by the id that its send is told: its type and this id
abbrev pub mark_under : ℕ → Notification → Lost
mark_under id notification = record { kind = kind_of notification.body; id = id }

-- the mark of a send by the id that it is told, as a list of one: where it is answered ok and there is a subscription that asks for it; else none
abbrev pub mark_asked : Option Sub → Notification → Reply → List Lost
mark_asked found notification (Sent id) = map (mark_under id) (asked_by found notification)
mark_asked found notification _ = []

-- the mark of a send that comes behind this history, as a list of one: where it is answered ok and the subscription of this client and key,
-- which lasts as it comes, asks for it; else none
abbrev pub mark_for : Setup → List Entry → (client key sender : ℕ) (now : ℤ) → Notification → List Lost
mark_for setup past client key sender now notification =
    mark_asked (sub_for setup past client key) notification (reply_of setup past sender now (NtfSend notification))

-- the marks of the ok sends for which the subscription of this client and key asked while it lasted, in order
abbrev pub sends_asked : Setup → List Entry → (client key : ℕ) → List Lost
sends_asked setup [] client key = []
sends_asked setup (Called sender seq now (NtfSend notification) ∷ past) client key =
    sends_asked setup past client key ++ mark_for setup past client key sender now notification
sends_asked setup (_ ∷ past) client key = sends_asked setup past client key

-- those of them that were dropped: as they came, its queue had no place
abbrev pub sends_dropped : Setup → List Entry → (client key : ℕ) → List Lost
sends_dropped setup [] client key = []
sends_dropped setup (Called sender seq now (NtfSend notification) ∷ past) client key =
    sends_dropped setup past client key ++ (if has_place_for setup past client key then [] else mark_for setup past client key sender now notification)
sends_dropped setup (_ ∷ past) client key = sends_dropped setup past client key

-- marks stand in the order of their ids
abbrev pub lower_id : Lost → Lost → Bool
lower_id one other = nat_lt one.id other.id
