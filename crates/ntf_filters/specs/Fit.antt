-- Words of public clauses: what a set of filters must be to be used.
use Rattle.std.specs.Prelude.{◌≡◌, ◌⊎◌, [], IsSome, IfSome}
use Rattle.ntf_filters.specs.declared.filter.Filter.{Filter}
use Rattle.ntf_filters.specs.declared.filter.FilterSet.{FilterSet}

-- a filter lists nothing that only alarms have
pub record HasNoAlarmLists (filter : Filter) : Type 0 where
  pub causes : filter.causes ≡ []
  pub severities : filter.severities ≡ []

-- a filter lists no source indicators, which alarms do not have
abbrev pub HasNoSources : Filter → Type 0
HasNoSources filter = filter.sources ≡ []

-- a set of filters is not empty
abbrev pub HasFilter : FilterSet → Type 0
HasFilter filters =
    IsSome filters.objects ⊎ IsSome filters.attributes ⊎ IsSome filters.states ⊎ IsSome filters.alarms ⊎ IsSome filters.security

-- a set of filters that may be used
pub record IsFit (filters : FilterSet) : Type 0 where
  pub some : HasFilter filters
  pub objects : IfSome filters.objects HasNoAlarmLists
  pub attributes : IfSome filters.attributes HasNoAlarmLists
  pub states : IfSome filters.states HasNoAlarmLists
  pub alarms : IfSome filters.alarms HasNoSources
  pub security : IfSome filters.security HasNoSources
