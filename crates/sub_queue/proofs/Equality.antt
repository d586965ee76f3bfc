-- `==` of items and of what they hold decides whether they are equal.
use Rattle.std.proofs.Common.{◌≡◌, ap}
use Rattle.std.specs.Bool.{Decides}
use Rattle.std.specs.Cmp.Lexicographic.{pointwise_decides}
use Rattle.std.proofs.lemmas.Bool.Decides.{Decides-eqb, Decides-and, Decides-like}
use Rattle.ais_values.proofs.Equality.{eq-decides_through}
use Rattle.ntf_types.proofs.Equality.{notification_eq-decides}
use Rattle.sub_queue.specs.declared.item.Lost.{Lost}
use Rattle.sub_queue.specs.declared.item.Content.{Content}
use Rattle.sub_queue.specs.declared.item.Content.TheVariants.{Notified, Discarded}
use Rattle.sub_queue.specs.declared.item.Item.{Item}
use Rattle.sub_queue.specs.contracts.item.LostPartialEq.TheImpl as lost_impl
use Rattle.sub_queue.specs.contracts.item.ContentPartialEq.TheImpl as content_impl
use Rattle.sub_queue.specs.contracts.item.ItemPartialEq.TheImpl as item_impl

pub lost_eq-decides : (one other : Lost) → Decides ((lost_impl.ghosts).eq one other) (one ≡ other)
lost_eq-decides one other =
    Decides-like _
    (λ e. λ i. record { kind = e.0 i; id = e.1 i })
    (λ e. (ap (λ (l : Lost). l.kind) e, ap (λ (l : Lost). l.id) e))
    (Decides-and _ _ (Decides-eqb one.kind other.kind) (Decides-eqb one.id other.id))

pub content_eq-decides : (one other : Content) → Decides ((content_impl.ghosts).eq one other) (one ≡ other)
content_eq-decides (Notified one) (Notified other) =
    eq-decides_through Notified _ one other (λ e. cc) (notification_eq-decides one other)
content_eq-decides (Discarded one) (Discarded other) =
    eq-decides_through Discarded _ one other (λ e. cc) (pointwise_decides lost_eq-decides one other)
content_eq-decides (Notified one) (Discarded other) = (λ e. absurd (cc), λ e. absurd (cc))
content_eq-decides (Discarded one) (Notified other) = (λ e. absurd (cc), λ e. absurd (cc))

pub item_eq-decides : (one other : Item) → Decides ((item_impl.ghosts).eq one other) (one ≡ other)
item_eq-decides one other =
    Decides-like _
    (λ e. λ i. record { number = e.0 i; content = e.1 i })
    (λ e. (ap (λ (x : Item). x.number) e, ap (λ (x : Item). x.content) e))
    (Decides-and _ _ (Decides-eqb one.number other.number) (content_eq-decides one.content other.content))
