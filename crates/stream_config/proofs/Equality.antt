-- `==` of names, attributes, marks, states and events of streams decides whether they are equal.
use Rattle.std.proofs.Common.{◌≡◌, ℕ, refl, ap}
use Rattle.std.specs.Bool.{Decides}
use Rattle.std.specs.Ordering.{int_eq}
use Rattle.std.specs.Cmp.Lexicographic.{pointwise_decides}
use Rattle.std.proofs.lemmas.Bool.Decides.{Decides-eqb, Decides-int_eq, Decides-and, Decides-like}
use Rattle.std.proofs.lemmas.Slice.Eq.{bytes_eq-Decides}
use Rattle.ais_values.proofs.Equality.{option_eq-decides, eq-decides_through, eq-decides_apart}
use Rattle.stream_config.specs.declared.attrs.FullAction.{FullAction}
use Rattle.stream_config.specs.declared.attrs.FullAction.TheVariants.{Wrap, Halt, Rotate}
use Rattle.stream_config.specs.declared.attrs.StreamAttrs.{StreamAttrs}
use Rattle.stream_config.specs.declared.attrs.StreamName.{StreamName}
use Rattle.stream_config.specs.declared.attrs.StreamName.TheVariants.{Alarm, Notification, System, App}
use Rattle.stream_config.specs.declared.mark.Mark.{Mark}
use Rattle.stream_config.specs.declared.state.LogFile.{LogFile}
use Rattle.stream_config.specs.declared.state.StreamState.{StreamState}
use Rattle.stream_config.specs.declared.event.Stamps.{Stamps}
use Rattle.stream_config.specs.declared.event.StreamEvent.{StreamEvent}
use Rattle.stream_config.specs.declared.event.StreamEvent.TheVariants.{Made, Stored, Ended}
use Rattle.stream_config.specs.contracts.attrs.FullActionPartialEq.TheImpl as action_impl
use Rattle.stream_config.specs.contracts.attrs.StreamAttrsPartialEq.TheImpl as attrs_impl
use Rattle.stream_config.specs.contracts.attrs.StreamNamePartialEq.TheImpl as name_impl
use Rattle.stream_config.specs.contracts.mark.MarkPartialEq.TheImpl as mark_impl
use Rattle.stream_config.specs.contracts.state.LogFilePartialEq.TheImpl as file_impl
use Rattle.stream_config.specs.contracts.state.StreamStatePartialEq.TheImpl as state_impl
use Rattle.stream_config.specs.contracts.event.StampsPartialEq.TheImpl as stamps_impl
use Rattle.stream_config.specs.contracts.event.StreamEventPartialEq.TheImpl as event_impl

abbrev action_number : FullAction → ℕ
action_number Wrap = 0
action_number Halt = 1
action_number Rotate = 2

action_eq-decides : (one other : FullAction) → Decides ((action_impl.ghosts).eq one other) (one ≡ other)
action_eq-decides Wrap Wrap = (λ _. refl, λ _. refl)
action_eq-decides Halt Halt = (λ _. refl, λ _. refl)
action_eq-decides Rotate Rotate = (λ _. refl, λ _. refl)
action_eq-decides one other = eq-decides_apart action_number _ one other refl refl

abbrev name_number : StreamName → ℕ
name_number Alarm = 0
name_number Notification = 1
name_number System = 2
name_number (App name) = 3

pub name_eq-decides : (one other : StreamName) → Decides ((name_impl.ghosts).eq one other) (one ≡ other)
name_eq-decides Alarm Alarm = (λ _. refl, λ _. refl)
name_eq-decides Notification Notification = (λ _. refl, λ _. refl)
name_eq-decides System System = (λ _. refl, λ _. refl)
name_eq-decides (App one) (App other) = eq-decides_through App _ one other (λ e. cc) (bytes_eq-Decides one other)
name_eq-decides one other = eq-decides_apart name_number _ one other refl refl

pub attrs_eq-decides : (one other : StreamAttrs) → Decides ((attrs_impl.ghosts).eq one other) (one ≡ other)
attrs_eq-decides one other =
    Decides-like _
    (λ e. λ i. record { file = e.0 i; path = (e.1).0 i; max_file = (e.1).1.0 i; record_size = (e.1).1.1.0 i; ha = (e.1).1.1.1.0 i; action = (e.1).1.1.1.1.0 i; rotated = (e.1).1.1.1.1.1.0 i; expr = (e.1).1.1.1.1.1.1 i })
    (λ e. (ap (λ (a : StreamAttrs). a.file) e, (ap (λ (a : StreamAttrs). a.path) e, (ap (λ (a : StreamAttrs). a.max_file) e, (ap (λ (a : StreamAttrs). a.record_size) e, (ap (λ (a : StreamAttrs). a.ha) e, (ap (λ (a : StreamAttrs). a.action) e, (ap (λ (a : StreamAttrs). a.rotated) e, ap (λ (a : StreamAttrs). a.expr) e))))))))
    (Decides-and _ _ (bytes_eq-Decides one.file other.file) (Decides-and _ _ (bytes_eq-Decides one.path other.path) (Decides-and _ _ (Decides-eqb one.max_file other.max_file) (Decides-and _ _ (Decides-eqb one.record_size other.record_size) (Decides-and _ _ (Decides-eqb one.ha other.ha) (Decides-and _ _ (action_eq-decides one.action other.action) (Decides-and _ _ (Decides-eqb one.rotated other.rotated) (bytes_eq-Decides one.expr other.expr))))))))

pub mark_eq-decides : (one other : Mark) → Decides ((mark_impl.ghosts).eq one other) (one ≡ other)
mark_eq-decides one other =
    Decides-like _
    (λ e. λ i. record { since = e.0 i; mask = (e.1) i })
    (λ e. (ap (λ (m : Mark). m.since) e, ap (λ (m : Mark). m.mask) e))
    (Decides-and _ _ (Decides-eqb one.since other.since) (Decides-eqb one.mask other.mask))

file_eq-decides : (one other : LogFile) → Decides ((file_impl.ghosts).eq one other) (one ≡ other)
file_eq-decides one other =
    Decides-like _
    (λ e. λ i. record { created = e.0 i; closed = (e.1).0 i; first = (e.1).1.0 i; bytes = (e.1).1.1 i })
    (λ e. (ap (λ (f : LogFile). f.created) e, (ap (λ (f : LogFile). f.closed) e, (ap (λ (f : LogFile). f.first) e, ap (λ (f : LogFile). f.bytes) e))))
    (Decides-and _ _ (Decides-int_eq one.created other.created) (Decides-and _ _ (option_eq-decides int_eq Decides-int_eq one.closed other.closed) (Decides-and _ _ (Decides-eqb one.first other.first) (Decides-eqb one.bytes other.bytes))))

pub state_eq-decides : (one other : StreamState) → Decides ((state_impl.ghosts).eq one other) (one ≡ other)
state_eq-decides one other =
    Decides-like _
    (λ e. λ i. record { name = e.0 i; attrs = (e.1).0 i; taken = (e.1).1.0 i; opened = (e.1).1.1.0 i; files = (e.1).1.1.1 i })
    (λ e. (ap (λ (s : StreamState). s.name) e, (ap (λ (s : StreamState). s.attrs) e, (ap (λ (s : StreamState). s.taken) e, (ap (λ (s : StreamState). s.opened) e, ap (λ (s : StreamState). s.files) e)))))
    (Decides-and _ _ (name_eq-decides one.name other.name) (Decides-and _ _ (attrs_eq-decides one.attrs other.attrs) (Decides-and _ _ (Decides-eqb one.taken other.taken) (Decides-and _ _ (Decides-eqb one.opened other.opened) (pointwise_decides file_eq-decides one.files other.files)))))

stamps_eq-decides : (one other : Stamps) → Decides ((stamps_impl.ghosts).eq one other) (one ≡ other)
stamps_eq-decides one other =
    Decides-like _
    (λ e. λ i. record { closed = e.0 i; created = (e.1) i })
    (λ e. (ap (λ (s : Stamps). s.closed) e, ap (λ (s : Stamps). s.created) e))
    (Decides-and _ _ (Decides-int_eq one.closed other.closed) (Decides-int_eq one.created other.created))

abbrev event_number : StreamEvent → ℕ
event_number (Made state) = 0
event_number (Stored state bytes stamps) = 1
event_number (Ended state closed) = 2

pub event_eq-decides : (one other : StreamEvent) → Decides ((event_impl.ghosts).eq one other) (one ≡ other)
event_eq-decides (Made one) (Made other) = eq-decides_through Made _ one other (λ e. cc) (state_eq-decides one other)
event_eq-decides (Stored s1 b1 t1) (Stored s2 b2 t2) =
    Decides-like _ (λ e. λ i. Stored (e.0 i) ((e.1).0 i) ((e.1).1 i)) (λ e. (cc, (cc, cc)))
    (Decides-and _ _ (state_eq-decides s1 s2) (Decides-and _ _ (bytes_eq-Decides b1 b2) (option_eq-decides (stamps_impl.ghosts).eq stamps_eq-decides t1 t2)))
event_eq-decides (Ended s1 c1) (Ended s2 c2) =
    Decides-like _ (λ e. λ i. Ended (e.0 i) (e.1 i)) (λ e. (cc, cc)) (Decides-and _ _ (state_eq-decides s1 s2) (Decides-int_eq c1 c2))
event_eq-decides one other = eq-decides_apart event_number _ one other refl refl
