-- Words of public clauses: how sets of filters are spelled.
use Rattle.std.specs.Prelude.{ℕ, Option, List, codes}
use Rattle.ais_values.specs.declared.kind.ClassId.{ClassId}
use Rattle.ntf_filters.specs.declared.filter.Filter.{Filter}
use Rattle.ntf_filters.specs.declared.filter.FilterSet.{FilterSet}
use Rattle.script_grammar.specs.Grammar.{Known, Part, Maybe, MaybeList}
use Rattle.script_grammar.specs.Values.{IsHexWord}
use Rattle.script_language.specs.Values.{IsNumber16, IsQuotedName, IsClass}

abbrev pub filter_of : List ℕ → List (List ℕ) → List (List ℕ) → List ClassId → List ℕ → List ℕ → List ℕ → Filter
filter_of types objects notifiers classes sources causes severities = record {
  types = types;
  objects = objects;
  notifiers = notifiers;
  classes = classes;
  sources = sources;
  causes = causes;
  severities = severities;
}

-- [types=TYPES] [objs=NAMES] [bys=NAMES] [classes=CLASSES] [sources=NS] [causes=NS] [sevs=NS], with a blank before each
unfoldable pub IsFilter : Filter → List ℕ → Type 0
IsFilter =
    Part (MaybeList (codes " types=") IsHexWord) (λ types.
    Part (MaybeList (codes " objs=") IsQuotedName) (λ objects.
    Part (MaybeList (codes " bys=") IsQuotedName) (λ notifiers.
    Part (MaybeList (codes " classes=") IsClass) (λ classes.
    Part (MaybeList (codes " sources=") IsNumber16) (λ sources.
    Part (MaybeList (codes " causes=") IsNumber16) (λ causes.
    Part (MaybeList (codes " sevs=") IsNumber16) (λ severities.
    Known (filter_of types objects notifiers classes sources causes severities))))))))

abbrev pub filters_of : Option Filter → Option Filter → Option Filter → Option Filter → Option Filter → FilterSet
filters_of objects attributes states alarms security =
    record { objects = objects; attributes = attributes; states = states; alarms = alarms; security = security }

-- a group for each type at most, in this order: filter KIND and its filter, with a blank before each
unfoldable pub IsFilters : FilterSet → List ℕ → Type 0
IsFilters =
    Part (Maybe (codes " filter objects") IsFilter) (λ objects.
    Part (Maybe (codes " filter attributes") IsFilter) (λ attributes.
    Part (Maybe (codes " filter states") IsFilter) (λ states.
    Part (Maybe (codes " filter alarm") IsFilter) (λ alarms.
    Part (Maybe (codes " filter security") IsFilter) (λ security.
    Known (filters_of objects attributes states alarms security))))))
