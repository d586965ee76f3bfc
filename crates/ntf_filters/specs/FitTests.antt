-- Words of definitions above this crate, and of `law_of_tests`, which ties them to `IsFit`: what may be used, as a test that computes.
use Rattle.std.specs.Prelude.{Bool, true, ◌&&◌, ◌||◌, ◌==◌, length, Option, Some, None, is_some}
use Rattle.ntf_filters.specs.declared.filter.Filter.{Filter}
use Rattle.ntf_filters.specs.declared.filter.FilterSet.{FilterSet}

-- a filter, where there is one, lists neither causes nor severities
abbrev pub lists_no_alarms : Option Filter → Bool
lists_no_alarms None = true
lists_no_alarms (Some filter) = length filter.causes == 0 && length filter.severities == 0

-- a filter, where there is one, lists no sources
abbrev pub lists_no_sources : Option Filter → Bool
lists_no_sources None = true
lists_no_sources (Some filter) = length filter.sources == 0

abbrev pub has_filter : FilterSet → Bool
has_filter filters =
    is_some filters.objects || (is_some filters.attributes || (is_some filters.states || (is_some filters.alarms || is_some filters.security)))

-- a set of filters that may be used
unfoldable pub is_fit : FilterSet → Bool
is_fit filters =
    has_filter filters
    && (lists_no_alarms filters.objects
    && (lists_no_alarms filters.attributes
    && (lists_no_alarms filters.states && (lists_no_sources filters.alarms && lists_no_sources filters.security))))
