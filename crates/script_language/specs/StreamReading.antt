-- Words of bodies alone: reading of streams, their attributes and headers on lists of bytes.
use Rattle.std.specs.Prelude.{ℕ, Option, List, [], ◌∷◌, ◌++◌, codes}
use Rattle.ais_values.specs.Times.{unknown_time}
use Rattle.stream_config.specs.declared.attrs.FullAction.{FullAction}
use Rattle.stream_config.specs.declared.attrs.FullAction.TheVariants.{Wrap, Halt, Rotate}
use Rattle.stream_config.specs.declared.attrs.StreamAttrs.{StreamAttrs}
use Rattle.stream_config.specs.declared.attrs.StreamName.{StreamName}
use Rattle.stream_config.specs.declared.attrs.StreamName.TheVariants.{Alarm, Notification, System, App}
use Rattle.stream_config.specs.WellKnown.{default_format}
use Rattle.record_print.specs.declared.record.Header.{Header}
use Rattle.record_print.specs.declared.record.Header.TheVariants.{Ntf, Generic}
use Rattle.script_lines.specs.declared.line.WellOptions.{WellOptions}
use Rattle.script_grammar.specs.Reading.{known, word, part, one_of, maybe, unless}
use Rattle.script_grammar.specs.ValueReading.{hex_word_at, quoted_at}
use Rattle.script_language.specs.ValueReading.{number8_at, number16_at, number32_at, number64_at, signed64_at, quoted_name_at, class_at}
use Rattle.script_language.specs.Streams.{attrs_of, options_of}
use Rattle.ais_values.specs.declared.kind.StreamKind.TheVariants as kinds

abbrev pub full_readers : List (List ℕ × (List ℕ → Option (FullAction × List ℕ)))
full_readers = (codes "wrap", known Wrap) ∷ (codes "halt", known Halt) ∷ (codes "rotate", known Rotate) ∷ []

unfoldable pub full_action_at : List ℕ → Option (FullAction × List ℕ)
full_action_at = one_of full_readers

abbrev pub stream_readers : List (List ℕ × (List ℕ → Option (StreamName × List ℕ)))
stream_readers =
    (codes "alarm", known Alarm)
    ∷ (codes "notification", known Notification)
    ∷ (codes "system", known System)
    ∷ (codes "app:", part quoted_name_at (λ name. known (App name)))
    ∷ []

unfoldable pub stream_at : List ℕ → Option (StreamName × List ℕ)
stream_at = one_of stream_readers

unfoldable pub attrs_at : List ℕ → Option (StreamAttrs × List ℕ)
attrs_at =
    part quoted_at (λ file.
    word (codes " path=") (part quoted_at (λ path.
    word (codes " max=") (part number64_at (λ max_file.
    word (codes " rec=") (part number32_at (λ record_size.
    word (codes " ha=") (part number8_at (λ ha.
    word (codes " full=") (part full_action_at (λ action.
    word (codes " rot=") (part number32_at (λ rotated.
    part (unless (default_format kinds.Application) (codes " fmt=") quoted_at) (λ expr.
    known (attrs_of file path max_file record_size ha action rotated expr)))))))))))))))

unfoldable pub generic_at : List ℕ → Option (Header × List ℕ)
generic_at =
    part number16_at (λ severity. word (codes " class=") (part class_at (λ class. word (codes " user=")
    (part quoted_name_at (λ user. known (Generic class user severity))))))

unfoldable pub notified_at : List ℕ → Option (Header × List ℕ)
notified_at =
    part number64_at (λ id.
    word (codes " type=") (part hex_word_at (λ event_type.
    word (codes " obj=") (part quoted_name_at (λ object.
    word (codes " by=") (part quoted_name_at (λ notifier.
    word (codes " class=") (part class_at (λ class.
    part (unless unknown_time (codes " evtime=") signed64_at) (λ event_time.
    known (Ntf id event_type object notifier class event_time)))))))))))

abbrev pub header_readers : List (List ℕ × (List ℕ → Option (Header × List ℕ)))
header_readers = (codes " gen sev=", generic_at) ∷ (codes " ntfh id=", notified_at) ∷ []

unfoldable pub header_at : List ℕ → Option (Header × List ℕ)
header_at = one_of header_readers

unfoldable pub options_at : List ℕ → List ℕ → Option (WellOptions × List ℕ)
options_at stream =
    part (maybe (stream ++ codes "fmt=") quoted_at) (λ fmt.
    part (maybe (stream ++ codes "rec=") number32_at) (λ rec.
    part (maybe (stream ++ codes "max=") number64_at) (λ max.
    part (maybe (stream ++ codes "full=") full_action_at) (λ full.
    part (maybe (stream ++ codes "rot=") number32_at) (λ rot.
    known (options_of fmt rec max full rot))))))
