-- `==` of notifications and of the values in them decides whether they are equal.
use Rattle.std.proofs.Common.{◌≡◌, ℕ, refl, nat_eq, ap}
use Rattle.std.specs.Bool.{Decides}
use Rattle.std.specs.Cmp.Lexicographic.{pointwise_decides}
use Rattle.std.proofs.lemmas.Bool.Decides.{Decides-eqb, Decides-int_eq, Decides-and, Decides-like}
use Rattle.std.proofs.lemmas.Slice.Eq.{bytes_eq-Decides}
use Rattle.ais_values.proofs.Equality.{eq-decides_through, eq-decides_apart, option_eq-decides, class_eq-decides}
use Rattle.ntf_types.specs.declared.value.Value.{Value}
use Rattle.ntf_types.specs.declared.value.Value.TheVariants.{Int, NameOf, TextOf, Binary}
use Rattle.ntf_types.specs.declared.value.Pair.{Pair}
use Rattle.ntf_types.specs.declared.value.Change.{Change}
use Rattle.ntf_types.specs.declared.value.StateChange.{StateChange}
use Rattle.ntf_types.specs.declared.notification.Body.{Body}
use Rattle.ntf_types.specs.declared.notification.Body.TheVariants.{Objects, Attributes, States, Alarm, Security}
use Rattle.ntf_types.specs.declared.notification.Notification.{Notification}
use Rattle.ntf_types.specs.contracts.value.ValuePartialEq.TheImpl as value_impl
use Rattle.ntf_types.specs.contracts.value.PairPartialEq.TheImpl as pair_impl
use Rattle.ntf_types.specs.contracts.value.ChangePartialEq.TheImpl as change_impl
use Rattle.ntf_types.specs.contracts.value.StateChangePartialEq.TheImpl as state_impl
use Rattle.ntf_types.specs.contracts.notification.BodyPartialEq.TheImpl as body_impl
use Rattle.ntf_types.specs.contracts.notification.NotificationPartialEq.TheImpl as notification_impl

abbrev value_number : Value → ℕ
value_number (Int value) = 0
value_number (NameOf value) = 1
value_number (TextOf value) = 2
value_number (Binary value) = 3

pub value_eq-decides : (one other : Value) → Decides ((value_impl.ghosts).eq one other) (one ≡ other)
value_eq-decides (Int one) (Int other) = eq-decides_through Int _ one other (λ e. cc) (Decides-int_eq one other)
value_eq-decides (NameOf one) (NameOf other) = eq-decides_through NameOf _ one other (λ e. cc) (bytes_eq-Decides one other)
value_eq-decides (TextOf one) (TextOf other) = eq-decides_through TextOf _ one other (λ e. cc) (bytes_eq-Decides one other)
value_eq-decides (Binary one) (Binary other) = eq-decides_through Binary _ one other (λ e. cc) (bytes_eq-Decides one other)
value_eq-decides one other = eq-decides_apart value_number _ one other refl refl

pub pair_eq-decides : (one other : Pair) → Decides ((pair_impl.ghosts).eq one other) (one ≡ other)
pair_eq-decides one other =
    Decides-like _
    (λ e. λ i. record { id = e.0 i; value = e.1 i })
    (λ e. (ap (λ (p : Pair). p.id) e, ap (λ (p : Pair). p.value) e))
    (Decides-and _ _ (Decides-eqb one.id other.id) (value_eq-decides one.value other.value))

pub change_eq-decides : (one other : Change) → Decides ((change_impl.ghosts).eq one other) (one ≡ other)
change_eq-decides one other =
    Decides-like _
    (λ e. λ i. record { id = e.0 i; after = (e.1).0 i; before = (e.1).1 i })
    (λ e. (ap (λ (c : Change). c.id) e, (ap (λ (c : Change). c.after) e, ap (λ (c : Change). c.before) e)))
    (Decides-and _ _ (Decides-eqb one.id other.id) (Decides-and _ _ (value_eq-decides one.after other.after) (option_eq-decides (value_impl.ghosts).eq value_eq-decides one.before other.before)))

pub state_change_eq-decides : (one other : StateChange) → Decides ((state_impl.ghosts).eq one other) (one ≡ other)
state_change_eq-decides one other =
    Decides-like _
    (λ e. λ i. record { id = e.0 i; after = (e.1).0 i; before = (e.1).1 i })
    (λ e. (ap (λ (c : StateChange). c.id) e, (ap (λ (c : StateChange). c.after) e, ap (λ (c : StateChange). c.before) e)))
    (Decides-and _ _ (Decides-eqb one.id other.id) (Decides-and _ _ (Decides-eqb one.after other.after) (option_eq-decides nat_eq Decides-eqb one.before other.before)))

abbrev body_number : Body → ℕ
body_number (Objects source attributes) = 0
body_number (Attributes source changes) = 1
body_number (States source changes) = 2
body_number (Alarm cause severity) = 3
body_number (Security cause severity detector user provider) = 4

pub body_eq-decides : (one other : Body) → Decides ((body_impl.ghosts).eq one other) (one ≡ other)
body_eq-decides (Objects s1 a1) (Objects s2 a2) =
    Decides-like _ (λ e. λ i. Objects (e.0 i) (e.1 i)) (λ e. (cc, cc)) (Decides-and _ _ (Decides-eqb s1 s2) (pointwise_decides pair_eq-decides a1 a2))
body_eq-decides (Attributes s1 c1) (Attributes s2 c2) =
    Decides-like _ (λ e. λ i. Attributes (e.0 i) (e.1 i)) (λ e. (cc, cc)) (Decides-and _ _ (Decides-eqb s1 s2) (pointwise_decides change_eq-decides c1 c2))
body_eq-decides (States s1 c1) (States s2 c2) =
    Decides-like _ (λ e. λ i. States (e.0 i) (e.1 i)) (λ e. (cc, cc)) (Decides-and _ _ (Decides-eqb s1 s2) (pointwise_decides state_change_eq-decides c1 c2))
body_eq-decides (Alarm c1 s1) (Alarm c2 s2) =
    Decides-like _ (λ e. λ i. Alarm (e.0 i) (e.1 i)) (λ e. (cc, cc)) (Decides-and _ _ (Decides-eqb c1 c2) (Decides-eqb s1 s2))
body_eq-decides (Security c1 s1 d1 u1 p1) (Security c2 s2 d2 u2 p2) =
    Decides-like _ (λ e. λ i. Security (e.0 i) ((e.1).0 i) ((e.1).1.0 i) ((e.1).1.1.0 i) ((e.1).1.1.1 i)) (λ e. (cc, (cc, (cc, (cc, cc)))))
    (Decides-and _ _ (Decides-eqb c1 c2) (Decides-and _ _ (Decides-eqb s1 s2) (Decides-and _ _ (value_eq-decides d1 d2) (Decides-and _ _ (value_eq-decides u1 u2) (value_eq-decides p1 p2)))))
body_eq-decides one other = eq-decides_apart body_number _ one other refl refl

pub notification_eq-decides : (one other : Notification) → Decides ((notification_impl.ghosts).eq one other) (one ≡ other)
notification_eq-decides one other =
    Decides-like _
    (λ e. λ i. record {
      id = e.0 i;
      event_type = (e.1).0 i;
      object = (e.1).1.0 i;
      notifier = (e.1).1.1.0 i;
      class = (e.1).1.1.1.0 i;
      event_time = (e.1).1.1.1.1.0 i;
      correlated = (e.1).1.1.1.1.1.0 i;
      text = (e.1).1.1.1.1.1.1.0 i;
      info = (e.1).1.1.1.1.1.1.1.0 i;
      body = (e.1).1.1.1.1.1.1.1.1 i;
    })
    (λ e. (ap (λ (n : Notification). n.id) e, (ap (λ (n : Notification). n.event_type) e, (ap (λ (n : Notification). n.object) e, (ap (λ (n : Notification). n.notifier) e, (ap (λ (n : Notification). n.class) e, (ap (λ (n : Notification). n.event_time) e, (ap (λ (n : Notification). n.correlated) e, (ap (λ (n : Notification). n.text) e, (ap (λ (n : Notification). n.info) e, ap (λ (n : Notification). n.body) e))))))))))
    (Decides-and _ _ (Decides-eqb one.id other.id) (Decides-and _ _ (Decides-eqb one.event_type other.event_type) (Decides-and _ _ (bytes_eq-Decides one.object other.object) (Decides-and _ _ (bytes_eq-Decides one.notifier other.notifier)
    (Decides-and _ _ (class_eq-decides one.class other.class) (Decides-and _ _ (Decides-int_eq one.event_time other.event_time) (Decides-and _ _ (pointwise_decides Decides-eqb one.correlated other.correlated)
    (Decides-and _ _ (bytes_eq-Decides one.text other.text) (Decides-and _ _ (pointwise_decides pair_eq-decides one.info other.info) (body_eq-decides one.body other.body))))))))))
