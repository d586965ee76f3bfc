-- The readings of streams and log records are exact.
use Rattle.std.proofs.Common.{ℕ, ℤ, List, refl, inl, inr, arith}
use Rattle.ais_values.specs.declared.kind.ClassId.{ClassId}
use Rattle.stream_config.specs.declared.attrs.FullAction.TheVariants as action
use Rattle.stream_config.specs.declared.attrs.StreamName.TheVariants as stream_name
use Rattle.record_print.specs.declared.record.Header.TheVariants as header
use Rattle.wire_code.specs.Spelling.{signed_text, IsSigned}
use Rattle.wire_code.specs.Reading.{signed_at}
use Rattle.wire.proofs.NtfCodes.{class_code}
use Rattle.wire.specs.LogSpelling.{action_text, ActionFits, stream_name_text, StreamNameFits, attrs_text, AttrsFits, log_file_text, LogFileFits, stream_text, StreamFits, mark_text, MarkFits, header_text, HeaderFits}
use Rattle.wire.specs.LogReading.{action_at, stream_name_at, attrs_at, attrs_of, log_file_at, log_file_of, stream_at, stream_of, mark_at, mark_of, header_at}
use Rattle.wire_code.proofs.Codes.{Code, made_code, both_code, nothing_code}
use Rattle.wire_code.proofs.NumberCodes.{number_code, signed_code}
use Rattle.wire_code.proofs.ListCodes.{list_code, text_code, name_code}
use Rattle.wire_code.proofs.ChoiceCodes.{option_code, no_choice, variant_choice, choice_code}

-- what a stream does with a record that does not fit its file
pub action_code : Code action_at action_text ActionFits
unfolding action_at action_text
action_code =
    choice_code
    (variant_choice 1 (λ (_ : Unit {0}). action.Wrap) action_text ActionFits nothing_code (λ p fits. refl) (λ p fits. tt) (omega arith)
    (variant_choice 2 (λ (_ : Unit {0}). action.Halt) action_text ActionFits nothing_code (λ p fits. refl) (λ p fits. tt) (omega arith)
    (variant_choice 3 (λ (_ : Unit {0}). action.Rotate) action_text ActionFits nothing_code (λ p fits. refl) (λ p fits. tt) (omega arith)
    (no_choice 4 action_text ActionFits))))
    (elim [
      | action.Wrap ↦ λ fits. inl (tt, refl, tt)
      | action.Halt ↦ λ fits. inr (inl (tt, refl, tt))
      | action.Rotate ↦ λ fits. inr (inr (inl (tt, refl, tt)))
    ])
    (action.Wrap, tt)

-- the name of a stream
pub stream_name_code : Code stream_name_at stream_name_text StreamNameFits
unfolding stream_name_at stream_name_text
stream_name_code =
    choice_code
    (variant_choice 1 (λ (_ : Unit {0}). stream_name.Alarm) stream_name_text StreamNameFits nothing_code (λ p fits. refl) (λ p fits. tt) (omega arith)
    (variant_choice 2 (λ (_ : Unit {0}). stream_name.Notification) stream_name_text StreamNameFits nothing_code (λ p fits. refl) (λ p fits. tt) (omega arith)
    (variant_choice 3 (λ (_ : Unit {0}). stream_name.System) stream_name_text StreamNameFits nothing_code (λ p fits. refl) (λ p fits. tt) (omega arith)
    (variant_choice 4 (λ (x : List ℕ). stream_name.App x) stream_name_text StreamNameFits name_code (λ p fits. refl) (λ p fits. fits) (omega arith)
    (no_choice 5 stream_name_text StreamNameFits)))))
    (elim [
      | stream_name.Alarm ↦ λ fits. inl (tt, refl, tt)
      | stream_name.Notification ↦ λ fits. inr (inl (tt, refl, tt))
      | stream_name.System ↦ λ fits. inr (inr (inl (tt, refl, tt)))
      | stream_name.App name ↦ λ fits. inr (inr (inr (inl (name, refl, fits))))
    ])
    (stream_name.Alarm, tt)

-- the attributes of a stream
pub attrs_code : Code attrs_at attrs_text AttrsFits
unfolding attrs_at attrs_text
attrs_code =
    made_code attrs_of attrs_text AttrsFits (both_code text_code (both_code text_code (both_code (number_code 8) (both_code (number_code 4) (both_code (number_code 1) (both_code action_code (both_code (number_code 4) text_code)))))))
    (λ p fits. refl)
    (λ p fits. record { file = fits.0; path = fits.1.0; max_file = fits.1.1.0; record_size = fits.1.1.1.0; ha = fits.1.1.1.1.0; action = fits.1.1.1.1.1.0; rotated = fits.1.1.1.1.1.1.0; expr = fits.1.1.1.1.1.1.1 })
    (λ x fits. ((x.file, (x.path, (x.max_file, (x.record_size, (x.ha, (x.action, (x.rotated, x.expr))))))), refl, (fits.file, (fits.path, (fits.max_file, (fits.record_size, (fits.ha, (fits.action, (fits.rotated, fits.expr)))))))))

-- a file of a stream
pub log_file_code : Code log_file_at log_file_text LogFileFits
unfolding log_file_at log_file_text
log_file_code =
    made_code log_file_of log_file_text LogFileFits (both_code signed_code (both_code (option_code signed_at signed_text IsSigned signed_code) (both_code (number_code 4) (number_code 8))))
    (λ p fits. refl)
    (λ p fits. record { created = fits.0; closed = fits.1.0; first = fits.1.1.0; bytes = fits.1.1.1 })
    (λ x fits. ((x.created, (x.closed, (x.first, x.bytes))), refl, (fits.created, (fits.closed, (fits.first, fits.bytes)))))

-- a stream as it stands
pub stream_code : Code stream_at stream_text StreamFits
unfolding stream_at stream_text
stream_code =
    made_code stream_of stream_text StreamFits (both_code stream_name_code (both_code attrs_code (both_code (number_code 4) (both_code (number_code 4) (list_code log_file_at log_file_text LogFileFits log_file_code)))))
    (λ p fits. refl)
    (λ p fits. record { name = fits.0; attrs = fits.1.0; taken = fits.1.1.0; opened = fits.1.1.1.0; files = fits.1.1.1.1 })
    (λ x fits. ((x.name, (x.attrs, (x.taken, (x.opened, x.files)))), refl, (fits.name, (fits.attrs, (fits.taken, (fits.opened, fits.files))))))

-- the mark of a stream
pub mark_code : Code mark_at mark_text MarkFits
unfolding mark_at mark_text
mark_code =
    made_code mark_of mark_text MarkFits (both_code (number_code 8) (number_code 4))
    (λ p fits. refl)
    (λ p fits. record { since = fits.0; mask = fits.1 })
    (λ x fits. ((x.since, x.mask), refl, (fits.since, fits.mask)))

-- the header of a log record
pub header_code : Code header_at header_text HeaderFits
unfolding header_at header_text
header_code =
    choice_code
    (variant_choice 1 (λ (p : ℕ × (ℕ × (List ℕ × (List ℕ × (ClassId × ℤ))))). header.Ntf p.0 p.1.0 p.1.1.0 p.1.1.1.0 p.1.1.1.1.0 p.1.1.1.1.1) header_text HeaderFits (both_code (number_code 8) (both_code (number_code 2) (both_code name_code (both_code name_code (both_code class_code signed_code))))) (λ p fits. refl) (λ p fits. (fits.0, fits.1.0, fits.1.1.0, fits.1.1.1.0, fits.1.1.1.1.0, fits.1.1.1.1.1)) (omega arith)
    (variant_choice 2 (λ (p : ClassId × (List ℕ × ℕ)). header.Generic p.0 p.1.0 p.1.1) header_text HeaderFits (both_code class_code (both_code name_code (number_code 2))) (λ p fits. refl) (λ p fits. (fits.0, fits.1.0, fits.1.1)) (omega arith)
    (no_choice 3 header_text HeaderFits)))
    (elim [
      | header.Ntf id event_type object notifier class event_time ↦ λ fits. inl ((id, (event_type, (object, (notifier, (class, event_time))))), refl, (fits.0, (fits.1, (fits.2, (fits.3, (fits.4, fits.5))))))
      | header.Generic class user severity ↦ λ fits. inr (inl ((class, (user, severity)), refl, (fits.0, (fits.1, fits.2))))
    ])
    (header.Ntf (number_code 8).some.0 (number_code 2).some.0 name_code.some.0 name_code.some.0 class_code.some.0 signed_code.some.0, ((number_code 8).some.1, (number_code 2).some.1, name_code.some.1, name_code.some.1, class_code.some.1, signed_code.some.1))
