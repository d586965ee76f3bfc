-- Words of bodies alone: reading of what several lines have, or what a line has in its midst.
use Rattle.std.specs.Prelude.{ℕ, ℤ, List, Option, codes}
use Rattle.ais_values.specs.Times.{unknown_time}
use Rattle.ais_values.specs.declared.kind.ClassId.{ClassId}
use Rattle.stream_config.specs.declared.attrs.FullAction.{FullAction}
use Rattle.script_grammar.specs.Reading.{known, word, part, unless, maybe_list}
use Rattle.script_grammar.specs.ValueReading.{hex_word_at}
use Rattle.script_language.specs.ValueReading.{number8_at, number16_at, number32_at, number64_at, signed64_at, quoted_name_at, class_at}
use Rattle.script_language.specs.StreamReading.{full_action_at}
use Rattle.script.specs.declared.streams.Bounds.{Bounds}
use Rattle.script.specs.declared.asks.WriteOptions.{WriteOptions}
use Rattle.script.specs.declared.values.Origin.{Origin}
use Rattle.script.specs.declared.filters.Subjects.{Subjects}
use Rattle.script.specs.declared.filters.Reasons.{Reasons}

abbrev pub bounds_of : ℕ → ℕ → ℕ → FullAction → ℕ → Bounds
bounds_of max_file record_size ha action rotated = record { max_file = max_file; record_size = record_size; ha = ha; action = action; rotated = rotated }

-- max=N rec=N ha=N full=F rot=N, with a blank before each
unfoldable pub bounds_at : List ℕ → Option (Bounds × List ℕ)
bounds_at =
    part (word (codes " max=") number64_at) (λ max_file.
    part (word (codes " rec=") number32_at) (λ record_size.
    part (word (codes " ha=") number8_at) (λ ha.
    part (word (codes " full=") full_action_at) (λ action.
    part (word (codes " rot=") number32_at) (λ rotated.
    known (bounds_of max_file record_size ha action rotated))))))

abbrev pub write_options_of : ℕ → ℕ → ℤ → WriteOptions
write_options_of invocation flags time = record { invocation = invocation; flags = flags; time = time }

-- inv=N flags=N [time=NS], with a blank before each
unfoldable pub write_options_at : List ℕ → Option (WriteOptions × List ℕ)
write_options_at =
    part (word (codes " inv=") number64_at) (λ invocation.
    part (word (codes " flags=") number32_at) (λ flags.
    part (unless unknown_time (codes " time=") signed64_at) (λ time.
    known (write_options_of invocation flags time))))

abbrev pub origin_of : ℕ → List ℕ → List ℕ → ClassId → ℤ → Origin
origin_of event_type object notifier class event_time =
    record { event_type = event_type; object = object; notifier = notifier; class = class; event_time = event_time }

-- class=V.M.N, with a blank before it, and the time behind its word, where it stands
unfoldable pub class_time_at : List ℕ → List ℕ → Option ((ClassId × ℤ) × List ℕ)
class_time_at time_word =
    part (word (codes " class=") class_at) (λ class. part (unless unknown_time time_word signed64_at) (λ time. known (class, time)))

-- type=TYPE obj="O" by="O" class=V.M.N, with a blank before each, and the time behind its word, where it stands
unfoldable pub origin_at : List ℕ → List ℕ → Option (Origin × List ℕ)
origin_at time_word =
    part (word (codes " type=") hex_word_at) (λ event_type.
    part (word (codes " obj=") quoted_name_at) (λ object.
    part (word (codes " by=") quoted_name_at) (λ notifier.
    part (class_time_at time_word) (λ class_time.
    known (origin_of event_type object notifier class_time.0 class_time.1)))))

-- cause=N sev=N, with a blank before each
unfoldable pub cause_and_severity_at : List ℕ → Option ((ℕ × ℕ) × List ℕ)
cause_and_severity_at =
    part (word (codes " cause=") number16_at) (λ cause. part (word (codes " sev=") number16_at) (λ severity. known (cause, severity)))

abbrev pub subjects_of : List ℕ → List (List ℕ) → List (List ℕ) → List ClassId → Subjects
subjects_of types objects notifiers classes = record { types = types; objects = objects; notifiers = notifiers; classes = classes }

-- [types=TYPES] [objs=NAMES] [bys=NAMES] [classes=CLASSES], with a blank before each
unfoldable pub subjects_at : List ℕ → Option (Subjects × List ℕ)
subjects_at =
    part (maybe_list (codes " types=") hex_word_at) (λ types.
    part (maybe_list (codes " objs=") quoted_name_at) (λ objects.
    part (maybe_list (codes " bys=") quoted_name_at) (λ notifiers.
    part (maybe_list (codes " classes=") class_at) (λ classes.
    known (subjects_of types objects notifiers classes)))))

abbrev pub reasons_of : List ℕ → List ℕ → List ℕ → Reasons
reasons_of sources causes severities = record { sources = sources; causes = causes; severities = severities }

-- [sources=NS] [causes=NS] [sevs=NS], with a blank before each
unfoldable pub reasons_at : List ℕ → Option (Reasons × List ℕ)
reasons_at =
    part (maybe_list (codes " sources=") number16_at) (λ sources.
    part (maybe_list (codes " causes=") number16_at) (λ causes.
    part (maybe_list (codes " sevs=") number16_at) (λ severities.
    known (reasons_of sources causes severities))))
