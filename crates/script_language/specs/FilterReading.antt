-- Words of bodies alone: reading of sets of filters on lists of bytes.
use Rattle.std.specs.Prelude.{ℕ, Option, List, codes}
use Rattle.ntf_filters.specs.declared.filter.Filter.{Filter}
use Rattle.ntf_filters.specs.declared.filter.FilterSet.{FilterSet}
use Rattle.script_grammar.specs.Reading.{known, part, maybe, maybe_list}
use Rattle.script_grammar.specs.ValueReading.{hex_word_at}
use Rattle.script_language.specs.ValueReading.{number16_at, quoted_name_at, class_at}
use Rattle.script_language.specs.Filters.{filter_of, filters_of}

unfoldable pub filter_at : List ℕ → Option (Filter × List ℕ)
filter_at =
    part (maybe_list (codes " types=") hex_word_at) (λ types.
    part (maybe_list (codes " objs=") quoted_name_at) (λ objects.
    part (maybe_list (codes " bys=") quoted_name_at) (λ notifiers.
    part (maybe_list (codes " classes=") class_at) (λ classes.
    part (maybe_list (codes " sources=") number16_at) (λ sources.
    part (maybe_list (codes " causes=") number16_at) (λ causes.
    part (maybe_list (codes " sevs=") number16_at) (λ severities.
    known (filter_of types objects notifiers classes sources causes severities))))))))

unfoldable pub filters_at : List ℕ → Option (FilterSet × List ℕ)
filters_at =
    part (maybe (codes " filter objects") filter_at) (λ objects.
    part (maybe (codes " filter attributes") filter_at) (λ attributes.
    part (maybe (codes " filter states") filter_at) (λ states.
    part (maybe (codes " filter alarm") filter_at) (λ alarms.
    part (maybe (codes " filter security") filter_at) (λ security.
    known (filters_of objects attributes states alarms security))))))
