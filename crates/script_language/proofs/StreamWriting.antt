-- That lines are written as they are spelled: streams, their attributes and headers.
use Rattle.std.proofs.Common.{ℕ, List, ◌++◌, refl}
use Rattle.std.specs.Prelude.{codes}
use Rattle.stream_config.specs.declared.attrs.FullAction.TheVariants.{Wrap, Halt, Rotate}
use Rattle.stream_config.specs.declared.attrs.StreamName.TheVariants.{Alarm, Notification, System, App}
use Rattle.stream_config.specs.WellKnown.{default_format}
use Rattle.record_print.specs.declared.record.Header.TheVariants.{Ntf, Generic}
use Rattle.script_language.specs.Streams.{full_forms, IsFullAction, stream_forms, IsStream, IsAttrs, IsGeneric, IsNotified, header_forms, IsHeader, IsOptions, attrs_of, options_of}
use Rattle.script_grammar.specs.Values.{IsQuoted}
use Rattle.script_grammar.specs.Writing.{quoted_text, unless_text}
use Rattle.script_grammar.specs.Grammar.{Unless}
use Rattle.script_grammar.proofs.Writing.{Writes, WritesBehind, WritesForms, written, written_known, written_word, written_part, written_no_form, written_form, number_written, hex_word_written, quoted_written, maybe_written, unless_written}
use Rattle.script_language.specs.Printing.{full_action_text, stream_text, attrs_text, header_text, options_text}
use Rattle.script_language.proofs.ValueWriting.{class_written, quoted_name_written, known_time_written}
use Rattle.std.specs.Str.{bytes_eq}
use Rattle.std.proofs.lemmas.Slice.Eq.{bytes_eq-Decides}
use Rattle.ais_values.specs.declared.kind.StreamKind.TheVariants as kinds

-- an expression that is left out where it is the one that is meant then
format_written : (word : List ℕ) → Writes (Unless (default_format kinds.Application) word IsQuoted) (unless_text (λ text. bytes_eq text (default_format kinds.Application)) word quoted_text)
format_written word = unless_written (default_format kinds.Application) (λ text. bytes_eq text (default_format kinds.Application)) word (λ text. bytes_eq-Decides text (default_format kinds.Application)) quoted_written

full_writing : WritesForms (λ rest. rest) full_forms full_action_text
full_writing =
    written_form (codes "wrap") (written_known Wrap refl) (
    written_form (codes "halt") (written_known Halt refl) (
    written_form (codes "rotate") (written_known Rotate refl) written_no_form))

pub full_action_written : Writes IsFullAction full_action_text
unfolding IsFullAction
full_action_written = written full_writing.behind

stream_writing : WritesForms (λ rest. rest) stream_forms stream_text
stream_writing =
    written_form (codes "alarm") (written_known Alarm refl) (
    written_form (codes "notification") (written_known Notification refl) (
    written_form (codes "system") (written_known System refl) (
    written_form (codes "app:") (written_part quoted_name_written (λ name.
    written_known (App name) refl)) written_no_form)))

pub stream_written : Writes IsStream stream_text
unfolding IsStream
stream_written = written stream_writing.behind

pub attrs_written : Writes IsAttrs attrs_text
unfolding IsAttrs attrs_text
attrs_written =
    written (written_part quoted_written (λ file.
    written_word (codes " path=") (written_part quoted_written (λ path.
    written_word (codes " max=") (written_part number_written (λ max_file.
    written_word (codes " rec=") (written_part number_written (λ record_size.
    written_word (codes " ha=") (written_part number_written (λ ha.
    written_word (codes " full=") (written_part full_action_written (λ action.
    written_word (codes " rot=") (written_part number_written (λ rotated.
    written_part (format_written (codes " fmt=")) (λ expr.
    written_known (attrs_of file path max_file record_size ha action rotated expr) refl)))))))))))))))

generic_written : WritesBehind (λ rest. codes " gen sev=" ++ rest) IsGeneric header_text
unfolding IsGeneric header_text
generic_written =
    written_part number_written (λ severity.
    written_word (codes " class=") (written_part class_written (λ class.
    written_word (codes " user=") (written_part quoted_name_written (λ user.
    written_known (Generic class user severity) refl)))))

notified_written : WritesBehind (λ rest. codes " ntfh id=" ++ rest) IsNotified header_text
unfolding IsNotified header_text
notified_written =
    written_part number_written (λ id.
    written_word (codes " type=") (written_part hex_word_written (λ event_type.
    written_word (codes " obj=") (written_part quoted_name_written (λ object.
    written_word (codes " by=") (written_part quoted_name_written (λ notifier.
    written_word (codes " class=") (written_part class_written (λ class.
    written_part (known_time_written (codes " evtime=")) (λ event_time.
    written_known (Ntf id event_type object notifier class event_time) refl))))))))))

header_writing : WritesForms (λ rest. rest) header_forms header_text
unfolding header_text
header_writing =
    written_form (codes " gen sev=") generic_written (
    written_form (codes " ntfh id=") notified_written written_no_form)

pub header_written : Writes IsHeader header_text
unfolding IsHeader
header_written = written header_writing.behind

pub options_written : (stream : List ℕ) → Writes (IsOptions stream) (options_text stream)
unfolding IsOptions options_text
options_written stream =
    written (written_part (maybe_written (stream ++ codes "fmt=") quoted_written) (λ fmt.
    written_part (maybe_written (stream ++ codes "rec=") number_written) (λ rec.
    written_part (maybe_written (stream ++ codes "max=") number_written) (λ max.
    written_part (maybe_written (stream ++ codes "full=") full_action_written) (λ full.
    written_part (maybe_written (stream ++ codes "rot=") number_written) (λ rot.
    written_known (options_of fmt rec max full rot) refl))))))
