-- The test of a notification decides whether it may be sent.
use Rattle.std.proofs.Common.{ℕ, Bool, nat_eq, List, length, Contains, Option, Some, None, IfSome, refl}
use Rattle.std.specs.List.{list_all, list_any}
use Rattle.std.specs.Bool.{Decides}
use Rattle.std.proofs.lemmas.Bool.{eqb-true}
use Rattle.std.proofs.lemmas.Bool.Decides.{Decides-and, Decides-like, Decides-by_and}
use Rattle.std.proofs.lemmas.Cmp.{nat_eq_equiv}
use Rattle.std.proofs.lemmas.Map.Views.{Contains-from_any, list_any-from_Contains}
use Rattle.ais_values.proofs.Comparing.{at_most}
use Rattle.ais_values.proofs.TimeLaws.{is_time-decides}
use Rattle.ntf_types.specs.declared.value.Value.{Value}
use Rattle.ntf_types.specs.declared.value.Value.TheVariants.{Int, NameOf, TextOf, Binary}
use Rattle.ntf_types.specs.declared.value.Change.{Change}
use Rattle.ntf_types.specs.declared.notification.Body.{Body}
use Rattle.ntf_types.specs.declared.notification.Body.TheVariants.{Objects, Attributes, States, Alarm, Security}
use Rattle.ntf_types.specs.declared.notification.Notification.{Notification}
use Rattle.ntf_types.specs.Kinds.{event_types_of}
use Rattle.ntf_types.specs.Sound.{IsSource, IsShortValue, HasShortValue, IsShortChange, AreSound, IsSoundBody, IsSound}
use Rattle.ntf_types.specs.SoundTests.{is_source, is_short, has_short, is_short_before, is_short_change, are_sound, is_sound_body, is_sound}

contains-decides : (value : ℕ) (values : List ℕ) → Decides (list_any (nat_eq value) values) (Contains values value)
contains-decides value values =
    (λ e. Contains-from_any eqb-true value values e, λ there. list_any-from_Contains nat_eq_equiv value values there)

source-decides : (source : ℕ) → Decides (is_source source) (IsSource source)
source-decides source = Decides-and _ _ (at_most 1 source) (at_most source 3)

short-decides : (value : Value) → Decides (is_short value) (IsShortValue value)
short-decides (Int value) = (λ _. tt, λ _. refl)
short-decides (NameOf name) = (λ _. tt, λ _. refl)
short-decides (TextOf text) = at_most (length text) 1024
short-decides (Binary bytes) = at_most (length bytes) 1024

before-decides : (before : Option Value) → Decides (is_short_before before) (IfSome before IsShortValue)
before-decides None = (λ _. tt, λ _. refl)
before-decides (Some value) = short-decides value

change-decides : (change : Change) → Decides (is_short_change change) (IsShortChange change)
change-decides change =
    Decides-like _ (λ h. record { after = h.0; before = h.1 }) (λ h. (h.after, h.before))
    (Decides-and _ _ (short-decides change.after) (before-decides change.before))

sound-decides : {T : Type 0} → (test : T → Bool) (P : T → Type 0) → ((element : T) → Decides (test element) (P element)) → (elements : List T) → Decides (are_sound test elements) (AreSound P elements)
sound-decides test P each elements =
    Decides-like _ (λ h. record { few = h.0; each = h.1 }) (λ h. (h.few, h.each))
    (Decides-and _ _ (at_most (length elements) 16) (Decides-by_and test P (list_all test) each refl (λ _ _. refl) elements))

body-decides : (body : Body) → Decides (is_sound_body body) (IsSoundBody body)
body-decides (Objects source attrs) =
    Decides-and _ _ (source-decides source) (sound-decides has_short HasShortValue (λ pair. short-decides pair.value) attrs)
body-decides (Attributes source changes) =
    Decides-and _ _ (source-decides source) (sound-decides is_short_change IsShortChange change-decides changes)
body-decides (States source changes) = Decides-and _ _ (source-decides source) (at_most (length changes) 16)
body-decides (Alarm cause severity) = at_most severity 5
body-decides (Security cause severity detector user provider) =
    Decides-like _ (λ h. (h.0, (h.1).0, (h.1).1.0, (h.1).1.1)) (λ h. (h.0, (h.1, (h.2, h.3))))
    (Decides-and _ _ (at_most severity 5) (Decides-and _ _ (short-decides detector) (Decides-and _ _ (short-decides user) (short-decides provider))))

-- the test decides whether a notification may be sent
pub is_sound-decides : (notification : Notification) → Decides (is_sound notification) (IsSound notification)
unfolding is_sound
is_sound-decides n =
    Decides-like _
    (λ h. record { event_type = h.0; event_time = (h.1).0; text = (h.1).1.0; correlated = (h.1).1.1.0; info = (h.1).1.1.1.0; body = (h.1).1.1.1.1 })
    (λ h. (h.event_type, (h.event_time, (h.text, (h.correlated, (h.info, h.body))))))
    (Decides-and _ _ (contains-decides n.event_type (event_types_of n.body)) (Decides-and _ _ (is_time-decides n.event_time) (Decides-and _ _ (at_most (length n.text) 1024) (Decides-and _ _ (at_most (length n.correlated) 16) (Decides-and _ _ (sound-decides has_short HasShortValue (λ pair. short-decides pair.value) n.info) (body-decides n.body))))))
