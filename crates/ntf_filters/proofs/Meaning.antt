-- The tests of filters and of sets of filters decide what they stand for.
use Rattle.std.proofs.Common.{◌≡◌, ◌↔◌, IsTrue, ℕ, Bool, ◌==◌, nat_eq, List, [], ◌∷◌, length, get_or, Contains, Option, Some, None, IsSome, IfSome, IsSomeAnd, is_some, refl, sym, arith}
use Rattle.std.specs.List.{list_any}
use Rattle.std.specs.Bool.{Decides, one_answer}
use Rattle.std.specs.Str.{bytes_eq}
use Rattle.std.proofs.lemmas.Bool.Decides.{Decides-eqb, Decides-and, Decides-or, Decides-like}
use Rattle.std.proofs.lemmas.Bool.{eqb-true}
use Rattle.std.proofs.lemmas.Slice.Eq.{bytes_eq-Decides}
use Rattle.std.proofs.lemmas.List.Folds.{list_any_at}
use Rattle.std.proofs.lemmas.Map.Views.{Contains-from_any}
use Rattle.ais_values.proofs.Equality.{class_eq-decides}
use Rattle.ntf_types.specs.declared.notification.Body.{Body}
use Rattle.ntf_types.specs.declared.notification.Notification.{Notification}
use Rattle.ntf_filters.specs.declared.filter.Filter.{Filter}
use Rattle.ntf_filters.specs.declared.filter.FilterSet.{FilterSet}
use Rattle.ntf_filters.specs.Meaning.{source_of, cause_of, severity_of, filter_for, Admits, AdmitsOption, IsAdmitted, IsMatch}
use Rattle.ntf_filters.specs.Matching.{admits, admits_option, same_class, admits_common, admits_body, is_admitted, admitted_by, matches}
use Rattle.ntf_filters.specs.Fit.{HasNoAlarmLists, HasNoSources, HasFilter, IsFit}
use Rattle.ntf_filters.specs.FitTests.{lists_no_alarms, lists_no_sources, has_filter, is_fit}

-- a list without elements is the empty one
no_length : {T : Type 0} → (values : List T) → Decides (length values == 0) (values ≡ [])
no_length [] = (λ e. refl, λ e. refl)
no_length (value ∷ values) = (λ e. absurd (omega (arith, eqb-true _ _ e)), λ e. cc)

-- some element passes exactly where the list holds the value
decides_any : {T : Type 0} → (eq : T → T → Bool) → ((one other : T) → Decides (eq one other) (one ≡ other)) → (values : List T) (value : T) → Decides (list_any (λ other. eq other value) values) (Contains values value)
decides_any eq decides values value =
    (λ e. Contains-from_any {eq = λ one other. eq other one} (λ one other h. sym ((decides other one).0 h)) value values e, λ there. list_any_at (λ other. eq other value) values there.0 value there.1 ((decides (get_or values there.0 value) value).1 there.2))

pub admits-decides : {T : Type 0} → (eq : T → T → Bool) → ((one other : T) → Decides (eq one other) (one ≡ other)) → (values : List T) (value : T) → Decides (admits eq values value) (Admits values value)
unfolding admits
admits-decides eq decides values value =
    Decides-or (length values == 0) (list_any (λ other. eq other value) values) (no_length values) (decides_any eq decides values value)

pub admits_option-decides : (values : List ℕ) (value : Option ℕ) → Decides (admits_option values value) (AdmitsOption values value)
unfolding admits_option
admits_option-decides values None = no_length values
admits_option-decides values (Some value) = admits-decides nat_eq Decides-eqb values value

-- the lists of what every notification has
abbrev AdmitsCommon : Notification → Filter → Type 0
AdmitsCommon notification filter =
    ((Admits filter.types notification.event_type × Admits filter.objects notification.object) × Admits filter.notifiers notification.notifier) × Admits filter.classes notification.class

common-decides : (notification : Notification) (filter : Filter) → Decides (admits_common notification filter) (AdmitsCommon notification filter)
unfolding admits_common
common-decides notification filter =
    Decides-and _ _ (Decides-and _ _ (Decides-and _ _ (admits-decides nat_eq Decides-eqb filter.types notification.event_type) (admits-decides bytes_eq bytes_eq-Decides filter.objects notification.object)) (admits-decides bytes_eq bytes_eq-Decides filter.notifiers notification.notifier)) (admits-decides same_class class_eq-decides filter.classes notification.class)

-- the lists of what only some notifications have
abbrev AdmitsBody : Body → Filter → Type 0
AdmitsBody body filter =
    (AdmitsOption filter.sources (source_of body) × AdmitsOption filter.causes (cause_of body)) × AdmitsOption filter.severities (severity_of body)

body-decides : (body : Body) (filter : Filter) → Decides (admits_body body filter) (AdmitsBody body filter)
unfolding admits_body
body-decides body filter =
    Decides-and _ _ (Decides-and _ _ (admits_option-decides filter.sources (source_of body)) (admits_option-decides filter.causes (cause_of body))) (admits_option-decides filter.severities (severity_of body))

admitted-decides : (notification : Notification) (filter : Filter) → Decides (is_admitted notification filter) (IsAdmitted notification filter)
admitted-decides notification filter =
    Decides-like (is_admitted notification filter)
    (λ h. record { types = h.0.0.0.0; objects = h.0.0.0.1; notifiers = h.0.0.1; classes = h.0.1; sources = h.1.0.0; causes = h.1.0.1; severities = h.1.1 })
    (λ h. ((((h.types, h.objects), h.notifiers), h.classes), ((h.sources, h.causes), h.severities)))
    (Decides-and _ _ (common-decides notification filter) (body-decides notification.body filter))

admitted_by-decides : (notification : Notification) (filter : Option Filter) → Decides (admitted_by notification filter) (IsSomeAnd filter (IsAdmitted notification))
admitted_by-decides notification None = (λ e. absurd (cc), λ h. absurd h)
admitted_by-decides notification (Some filter) = admitted-decides notification filter

-- the test over a set of filters decides whether it asks for a notification
pub matches-decides : (filters : FilterSet) (notification : Notification) → Decides (matches filters notification) (IsMatch filters notification)
matches-decides filters notification = admitted_by-decides notification (filter_for filters notification.body)

-- so what tells whether it asks for it is that test's answer
pub matches-value : (filters : FilterSet) (notification : Notification) (result : Bool) → IsTrue result ↔ IsMatch filters notification → result ≡ matches filters notification
matches-value filters notification result tells =
    one_answer result (matches filters notification) tells (matches-decides filters notification)

no_alarms-decides : (filter : Option Filter) → Decides (lists_no_alarms filter) (IfSome filter HasNoAlarmLists)
no_alarms-decides None = (λ _. tt, λ _. refl)
no_alarms-decides (Some filter) =
    Decides-like (lists_no_alarms (Some filter)) (λ h. record { causes = h.0; severities = h.1 }) (λ h. (h.causes, h.severities))
    (Decides-and _ _ (no_length filter.causes) (no_length filter.severities))

no_sources-decides : (filter : Option Filter) → Decides (lists_no_sources filter) (IfSome filter HasNoSources)
no_sources-decides None = (λ _. tt, λ _. refl)
no_sources-decides (Some filter) = no_length filter.sources

some-decides : (filter : Option Filter) → Decides (is_some filter) (IsSome filter)
some-decides filter = (λ e. e, λ e. e)

has_filter-decides : (filters : FilterSet) → Decides (has_filter filters) (HasFilter filters)
has_filter-decides filters =
    Decides-or _ _ (some-decides filters.objects) (Decides-or _ _ (some-decides filters.attributes) (Decides-or _ _ (some-decides filters.states) (Decides-or _ _ (some-decides filters.alarms) (some-decides filters.security))))

-- the test of a set of filters decides whether it may be used
pub is_fit-decides : (filters : FilterSet) → Decides (is_fit filters) (IsFit filters)
unfolding is_fit
is_fit-decides filters =
    Decides-like _
    (λ h. record { some = h.0; objects = (h.1).0; attributes = (h.1).1.0; states = (h.1).1.1.0; alarms = (h.1).1.1.1.0; security = (h.1).1.1.1.1 })
    (λ h. (h.some, (h.objects, (h.attributes, (h.states, (h.alarms, h.security))))))
    (Decides-and _ _ (has_filter-decides filters) (Decides-and _ _ (no_alarms-decides filters.objects) (Decides-and _ _ (no_alarms-decides filters.attributes) (Decides-and _ _ (no_alarms-decides filters.states) (Decides-and _ _ (no_sources-decides filters.alarms) (no_sources-decides filters.security))))))
