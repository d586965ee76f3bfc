-- Words of bodies alone: the places of subscriptions by the types of notifications that they have filters of.
use Rattle.std.specs.Prelude.{◌≡◌, ℕ, zero, suc, Bool, if◌then◌else◌, List, [], ◌∷◌, map, Option, is_some}
use Rattle.ntf_types.specs.declared.notification.Body.{Body}
use Rattle.ntf_types.specs.declared.notification.Body.TheVariants as body
use Rattle.ntf_filters.specs.declared.filter.Filter.{Filter}
use Rattle.ntf_filters.specs.declared.filter.FilterSet.{FilterSet}
use Rattle.ntf_service.specs.declared.subscription.Subscription.{Subscription}
use Rattle.ntf_service.specs.declared.by_kind.Kind.{Kind}
use Rattle.ntf_service.specs.declared.by_kind.Kind.TheVariants.{Objects, Attributes, States, Alarms, Security}
use Rattle.ntf_service.specs.declared.by_kind.ByKind.{ByKind}

-- the type that a body is of
abbrev pub kind_for : Body → Kind
kind_for (body.Objects source attrs) = Objects
kind_for (body.Attributes source changes) = Attributes
kind_for (body.States source changes) = States
kind_for (body.Alarm cause severity) = Alarms
kind_for (body.Security cause severity detector user provider) = Security

-- the filter of a type
abbrev pub filter_of : Kind → FilterSet → Option Filter
filter_of Objects set = set.objects
filter_of Attributes set = set.attributes
filter_of States set = set.states
filter_of Alarms set = set.alarms
filter_of Security set = set.security

abbrev pub has_filter : Kind → FilterSet → Bool
has_filter kind set = is_some (filter_of kind set)

-- the places, from 0, of the elements that pass the test
abbrev pub positions : {X : Type 0} → (X → Bool) → List X → List ℕ
positions test [] = []
positions test (x ∷ xs) = if test x then zero ∷ map suc (positions test xs) else map suc (positions test xs)

-- what subscriptions ask for
abbrev pub filters_of : List Subscription → List FilterSet
filters_of subs = map (λ (kept : Subscription). kept.filters) subs

-- the places that are kept for a type
abbrev pub places_in : Kind → ByKind → List ℕ
places_in Objects by_kind = by_kind.objects.items
places_in Attributes by_kind = by_kind.attributes.items
places_in States by_kind = by_kind.states.items
places_in Alarms by_kind = by_kind.alarms.items
places_in Security by_kind = by_kind.security.items

-- for each type they are those of the sets that have a filter of it
abbrev pub IsByKind : ByKind → List FilterSet → Type 0
IsByKind by_kind sets = (kind : Kind) → places_in kind by_kind ≡ positions (has_filter kind) sets
