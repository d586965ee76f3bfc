-- The plain service keeps what the cluster asks of a service.
use Rattle.std.proofs.Common.{◌≡◌, ℕ, suc, true, ◌⊎◌, inl, inr, List, [], ◌∷◌, map, refl, ap}
use Rattle.std.specs.Prelude.{ℤ}
use Rattle.std.specs.Bool.{Decides}
use Rattle.std.specs.List.{AllByRecursion}
use Rattle.client_set.specs.Members.{Stands}
use Rattle.calls.specs.declared.entry.Entry.{Entry}
use Rattle.calls.specs.declared.entry.Entry.TheVariants.{Receipted}
use Rattle.calls.specs.declared.entry.Held.{Held}
use Rattle.wire.specs.declared.message.Message.{Message}
use Rattle.wire.specs.declared.message.Message.TheVariants.{Receipt}
use Rattle.wire.specs.contracts.message.MessagePartialEq.TheImpl as message_impl
use Rattle.cluster_facts.specs.Messages.{message_of}
use Rattle.cluster_facts.specs.Service.{is_new, IsHeldItem, IsPlain}
use Rattle.plain_service.specs.Setups.{Setup}
use Rattle.plain_service.specs.Items.{items_of, made_for, through_for, lasts_for, is_new_receipt}
use Rattle.plain_service.specs.Items as service
use Rattle.plain_service.proofs.ItemLaws.{items-grow, items-held, first-held, through-starts, through-steps, through-new}
use Rattle.service_laws.specs.PlainOf.{item_message, plain_of}
use Rattle.service_laws.proofs.LastingLaws.{lasting-asked}
use Rattle.wire.proofs.Equality.{message_eq-decides}

steps : (setup : Setup) (entry : Entry) (past : List Entry) (client key : ℕ) → (through_for setup (entry ∷ past) client key ≡ through_for setup past client key) ⊎ (message_of entry ≡ Receipt client key (through_for setup (entry ∷ past) client key))
steps setup entry past client key = elim (through-steps setup entry past client key) [
  | inl same ↦ inl same
  | inr moved ↦ inr (ap message_of moved.1)
]

pub new-receipt : (setup : Setup) (past : List Entry) (client key number : ℕ) → is_new (plain_of setup) past client key number ≡ true → is_new_receipt setup past client key number ≡ true
unfolding is_new_receipt lasts_for through_for made_for
new-receipt setup past client key number new = new

received : (setup : Setup) (past : List Entry) (client key number : ℕ) (time : ℤ) → is_new (plain_of setup) past client key number ≡ true → through_for setup (Receipted client key number time ∷ past) client key ≡ number
received setup past client key number time new =
    through-new setup past client key number time (new-receipt setup past client key number new)

held-messages : (setup : Setup) (past : List Entry) (items : List Held) → AllByRecursion (service.IsHeldItem setup past) items → AllByRecursion (IsHeldItem (plain_of setup) past) (map item_message items)
held-messages setup past [] each = tt
held-messages setup past (held ∷ items) each =
    ((each.0.lasting, each.0.above, (each.0.before, each.0.numbered, each.0.made)), held-messages setup past items each.1)

Stands-message : (held : Held) (items : List Held) → Stands held items → Stands (item_message held) (map item_message items)
Stands-message held [] stands = absurd stands
Stands-message held (other ∷ items) (inl same) = inl (ap item_message same)
Stands-message held (other ∷ items) (inr there) = inr (Stands-message held items there)

-- with an equality of messages that decides
is_plain-by : ((one other : Message) → Decides ((message_impl.ghosts).eq one other) (one ≡ other)) → (setup : Setup) → IsPlain (plain_of setup)
is_plain-by decides setup = record {
  same_is = λ one other is. (decides one other).0 is;
  same_self = λ message. (decides message message).1 refl;
  grows = λ entry past client key. let grown = items-grow setup entry past client key in (grown.more, grown.is);
  begins = through-starts setup;
  moves = steps setup;
  received = received setup;
  lasting = lasting-asked setup;
  held_of = λ past. held-messages setup past (items_of setup past) (items-held setup past);
  held_first = λ past client key content lasting is.
      Stands-message (service.held_for client key (record { number = suc (through_for setup past client key); content = content })) (items_of setup past) (first-held setup past client key content lasting is);
}

-- **the plain service keeps what the cluster asks of a service**
pub is_plain : (setup : Setup) → IsPlain (plain_of setup)
is_plain setup = is_plain-by message_eq-decides setup
