-- That reading is exact: sets of filters.
use Rattle.std.proofs.Common.{List, [], ◌∷◌, refl}
use Rattle.std.specs.Prelude.{codes}
use Rattle.script_language.specs.Filters.{IsFilter, IsFilters, filter_of, filters_of}
use Rattle.script_language.specs.FilterReading.{filter_at, filters_at}
use Rattle.script_grammar.proofs.Rules.Beginning.{Ends, Begins}
use Rattle.script_grammar.proofs.Rules.{Beginning, Rule, known_rule, maybe_part_rule, list_part_rule}
use Rattle.script_language.proofs.ValueRules.{number16_rule, class_rule, quoted_name_rule, hex_word_rule}

-- what may follow the filter of a type
abbrev pub filter_ends : List Beginning
filter_ends =
    Ends ∷ Begins (codes " filter attributes") ∷ Begins (codes " filter states") ∷ Begins (codes " filter alarm") ∷ Begins (codes " filter security") ∷ []

pub filter_rule : Rule filter_at IsFilter filter_ends (Begins (codes " types=") ∷ Begins (codes " objs=") ∷ Begins (codes " bys=") ∷ Begins (codes " classes=") ∷ Begins (codes " sources=") ∷ Begins (codes " causes=") ∷ Begins (codes " sevs=") ∷ filter_ends)
unfolding filter_at IsFilter
filter_rule =
    list_part_rule (codes " types=") hex_word_rule (λ types.
    list_part_rule (codes " objs=") quoted_name_rule (λ objects.
    list_part_rule (codes " bys=") quoted_name_rule (λ notifiers.
    list_part_rule (codes " classes=") class_rule (λ classes.
    list_part_rule (codes " sources=") number16_rule (λ sources.
    list_part_rule (codes " causes=") number16_rule (λ causes.
    list_part_rule (codes " sevs=") number16_rule (λ severities.
    known_rule (filter_of types objects notifiers classes sources causes severities)) refl) refl) refl) refl) refl) refl) refl

pub filters_rule : Rule filters_at IsFilters (Ends ∷ []) (Begins (codes " filter objects") ∷ Begins (codes " filter attributes") ∷ Begins (codes " filter states") ∷ Begins (codes " filter alarm") ∷ Begins (codes " filter security") ∷ Ends ∷ [])
unfolding filters_at IsFilters
filters_rule =
    maybe_part_rule (codes " filter objects") filter_rule (λ objects.
    maybe_part_rule (codes " filter attributes") filter_rule (λ attributes.
    maybe_part_rule (codes " filter states") filter_rule (λ states.
    maybe_part_rule (codes " filter alarm") filter_rule (λ alarms.
    maybe_part_rule (codes " filter security") filter_rule (λ security.
    known_rule (filters_of objects attributes states alarms security)) refl) refl) refl) refl) refl
