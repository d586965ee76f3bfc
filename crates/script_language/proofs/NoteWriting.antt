-- That lines are written as they are spelled: notifications.
use Rattle.std.proofs.Common.{◌≡◌, ℕ, List, [], ◌++◌, refl, sym, ap, subst}
use Rattle.std.specs.Prelude.{codes}
use Rattle.ntf_types.specs.declared.notification.Body.{Body}
use Rattle.ntf_types.specs.declared.notification.Notification.{Notification}
use Rattle.script_lines.specs.declared.note.NoteKind.{NoteKind}
use Rattle.script_lines.specs.declared.note.NoteKind.TheVariants.{Objects, Attributes, States, Alarm, Security}
use Rattle.script_language.specs.Notes.{kind_forms, IsNoteKind, IsHeading, IsObjects, IsAttributes, IsStates, IsAlarm, IsSecurity, IsNote, heading_of, note_of, IsBodyOf}
use Rattle.script_grammar.proofs.Writing.{Writes, WritesForms, written, written_known, written_word, written_part, written_no_form, written_form, number_written, hex_word_written, quoted_written, listed_written}
use Rattle.script_language.specs.Printing.{note_kind_text, note_kind_of, heading_text_by, heading_text, body_text, note_text}
use Rattle.script_language.proofs.ValueWriting.{class_written, value_written, pair_written, change_written, state_change_written, quoted_name_written, known_time_written}
use Rattle.ntf_types.specs.declared.notification.Body.TheVariants as body

kind_writing : WritesForms (λ rest. rest) kind_forms note_kind_text
kind_writing =
    written_form (codes "objects") (written_known Objects refl) (
    written_form (codes "attributes") (written_known Attributes refl) (
    written_form (codes "states") (written_known States refl) (
    written_form (codes "alarm") (written_known Alarm refl) (
    written_form (codes "security") (written_known Security refl) written_no_form))))

pub note_kind_written : Writes IsNoteKind note_kind_text
unfolding IsNoteKind
note_kind_written = written kind_writing.behind

pub heading_written : Writes IsHeading heading_text
unfolding IsHeading heading_text_by
heading_written =
    written (written_word (codes " type=") (written_part hex_word_written (λ event_type.
    written_word (codes " obj=") (written_part quoted_name_written (λ object.
    written_word (codes " by=") (written_part quoted_name_written (λ notifier.
    written_word (codes " class=") (written_part class_written (λ class.
    written_part (known_time_written (codes " time=")) (λ time.
    written_part (listed_written (codes " corr=") number_written) (λ correlated.
    written_word (codes " text=") (written_part quoted_written (λ text.
    written_part (listed_written (codes " info=") pair_written) (λ info.
    written_known (heading_of event_type object notifier class time correlated text info) refl))))))))))))))

pub objects_written : Writes IsObjects body_text
unfolding IsObjects body_text
objects_written =
    written (written_word (codes " source=") (written_part number_written (λ source.
    written_part (listed_written (codes " attrs=") pair_written) (λ attrs.
    written_known (body.Objects source attrs) refl))))

pub attributes_written : Writes IsAttributes body_text
unfolding IsAttributes body_text
attributes_written =
    written (written_word (codes " source=") (written_part number_written (λ source.
    written_part (listed_written (codes " changes=") change_written) (λ changes.
    written_known (body.Attributes source changes) refl))))

pub states_written : Writes IsStates body_text
unfolding IsStates body_text
states_written =
    written (written_word (codes " source=") (written_part number_written (λ source.
    written_part (listed_written (codes " changes=") state_change_written) (λ changes.
    written_known (body.States source changes) refl))))

pub alarm_written : Writes IsAlarm body_text
unfolding IsAlarm body_text
alarm_written =
    written (written_word (codes " cause=") (written_part number_written (λ cause.
    written_word (codes " sev=") (written_part number_written (λ severity.
    written_known (body.Alarm cause severity) refl)))))

pub security_written : Writes IsSecurity body_text
unfolding IsSecurity body_text
security_written =
    written (written_word (codes " cause=") (written_part number_written (λ cause.
    written_word (codes " sev=") (written_part number_written (λ severity.
    written_word (codes " detector=") (written_part value_written (λ detector.
    written_word (codes " user=") (written_part value_written (λ user.
    written_word (codes " provider=") (written_part value_written (λ provider.
    written_known (body.Security cause severity detector user provider) refl)))))))))))

body_of_written : (kind : NoteKind) → Writes (IsBodyOf kind) body_text
body_of_written Objects = objects_written
body_of_written Attributes = attributes_written
body_of_written States = states_written
body_of_written Alarm = alarm_written
body_of_written Security = security_written

-- what is told is of the type that is written
kind_of_told : (kind : NoteKind) (told : Body) (text : List ℕ) → IsBodyOf kind told text → kind ≡ note_kind_of told
unfolding IsObjects IsAttributes IsStates IsAlarm IsSecurity
kind_of_told Objects told text (r1, e1, (source, f1, r2, e2, s1, (attrs, f2, r3, e3, s2, (same, end)))) = sym (ap note_kind_of same)
kind_of_told Attributes told text (r1, e1, (source, f1, r2, e2, s1, (changes, f2, r3, e3, s2, (same, end)))) = sym (ap note_kind_of same)
kind_of_told States told text (r1, e1, (source, f1, r2, e2, s1, (changes, f2, r3, e3, s2, (same, end)))) = sym (ap note_kind_of same)
kind_of_told Alarm told text (r1, e1, (cause, f1, r2, e2, s1, (r3, e3, (severity, f2, r4, e4, s2, (same, end))))) = sym (ap note_kind_of same)
kind_of_told Security told text (r1, e1, (cause, f1, r2, e2, s1, (r3, e3, (severity, f2, r4, e4, s2, (r5, e5, (detector, f3, r6, e6, s3, (r7, e7, (user, f4, r8, e8, s4, (r9, e9, (provider, f5, r10, e10, s5, (same, end))))))))))) =
    sym (ap note_kind_of same)

note_again : (note : Notification) (text : List ℕ) → IsNote note text → IsNote note (note_text note)
unfolding IsNote note_text
note_again note text (kind, kind_front, r1, e1, k, (heading, heading_front, r2, e2, h, (told, told_front, r3, e3, t, (same, end)))) =
    let of_it = subst (λ other. IsBodyOf other told told_front) (kind_of_told kind told told_front t) t in
    let shown : IsNote (note_of heading told) (note_text (note_of heading told)) = (
      note_kind_of told,
      note_kind_text (note_kind_of told),
      heading_text heading ++ (body_text told ++ []),
      refl,
      note_kind_written.again (note_kind_of told) kind_front (subst (λ other. IsNoteKind other kind_front) (kind_of_told kind told told_front t) k),
      (
        heading,
        heading_text heading,
        body_text told ++ [],
        refl,
        heading_written.again heading heading_front h,
        (told, body_text told, [], refl, (body_of_written (note_kind_of told)).again told told_front of_it, (refl, refl)),
      ),
    ) in
    subst (λ other. IsNote other (note_text other)) (sym same) shown

pub note_written : Writes IsNote note_text
note_written = record { again = note_again }
