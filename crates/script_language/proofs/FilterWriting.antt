-- That lines are written as they are spelled: sets of filters.
use Rattle.std.proofs.Common.{refl}
use Rattle.std.specs.Prelude.{codes}
use Rattle.script_language.specs.Filters.{IsFilter, IsFilters, filter_of, filters_of}
use Rattle.script_grammar.proofs.Writing.{Writes, written, written_known, written_part, number_written, hex_word_written, maybe_written, listed_written}
use Rattle.script_language.specs.Printing.{filter_text, filters_text}
use Rattle.script_language.proofs.ValueWriting.{class_written, quoted_name_written}

pub filter_written : Writes IsFilter filter_text
unfolding IsFilter filter_text
filter_written =
    written (written_part (listed_written (codes " types=") hex_word_written) (λ types.
    written_part (listed_written (codes " objs=") quoted_name_written) (λ objects.
    written_part (listed_written (codes " bys=") quoted_name_written) (λ notifiers.
    written_part (listed_written (codes " classes=") class_written) (λ classes.
    written_part (listed_written (codes " sources=") number_written) (λ sources.
    written_part (listed_written (codes " causes=") number_written) (λ causes.
    written_part (listed_written (codes " sevs=") number_written) (λ severities.
    written_known (filter_of types objects notifiers classes sources causes severities) refl))))))))

pub filters_written : Writes IsFilters filters_text
unfolding IsFilters filters_text
filters_written =
    written (written_part (maybe_written (codes " filter objects") filter_written) (λ objects.
    written_part (maybe_written (codes " filter attributes") filter_written) (λ attributes.
    written_part (maybe_written (codes " filter states") filter_written) (λ states.
    written_part (maybe_written (codes " filter alarm") filter_written) (λ alarms.
    written_part (maybe_written (codes " filter security") filter_written) (λ security.
    written_known (filters_of objects attributes states alarms security) refl))))))
