-- Words of bodies alone: reading of notifications on lists of bytes.
use Rattle.std.specs.Prelude.{ℕ, List, [], ◌∷◌, codes, Option}
use Rattle.ais_values.specs.Times.{unknown_time}
use Rattle.ntf_types.specs.declared.notification.Body.{Body}
use Rattle.ntf_types.specs.declared.notification.Notification.{Notification}
use Rattle.script_lines.specs.declared.note.NoteKind.{NoteKind}
use Rattle.script_lines.specs.declared.note.NoteKind.TheVariants.{Objects, Attributes, States, Alarm, Security}
use Rattle.script_lines.specs.declared.note.Heading.{Heading}
use Rattle.script_grammar.specs.Reading.{known, word, part, one_of, unless, maybe_list}
use Rattle.script_grammar.specs.ValueReading.{hex_word_at, quoted_at}
use Rattle.script_language.specs.ValueReading.{number16_at, number64_at, signed64_at, quoted_name_at, class_at, value_at, pair_at, change_at, state_change_at}
use Rattle.script_language.specs.Notes.{heading_of, note_of}
use Rattle.ntf_types.specs.declared.notification.Body.TheVariants as body

abbrev pub kind_readers : List (List ℕ × (List ℕ → Option (NoteKind × List ℕ)))
kind_readers =
    (codes "objects", known Objects)
    ∷ (codes "attributes", known Attributes)
    ∷ (codes "states", known States)
    ∷ (codes "alarm", known Alarm)
    ∷ (codes "security", known Security)
    ∷ []

unfoldable pub note_kind_at : List ℕ → Option (NoteKind × List ℕ)
note_kind_at = one_of kind_readers

unfoldable pub heading_at : List ℕ → Option (Heading × List ℕ)
heading_at =
    word (codes " type=") (part hex_word_at (λ event_type.
    word (codes " obj=") (part quoted_name_at (λ object.
    word (codes " by=") (part quoted_name_at (λ notifier.
    word (codes " class=") (part class_at (λ class.
    part (unless unknown_time (codes " time=") signed64_at) (λ time.
    part (maybe_list (codes " corr=") number64_at) (λ correlated.
    word (codes " text=") (part quoted_at (λ text.
    part (maybe_list (codes " info=") pair_at) (λ info.
    known (heading_of event_type object notifier class time correlated text info))))))))))))))

unfoldable pub objects_at : List ℕ → Option (Body × List ℕ)
objects_at = word (codes " source=") (part number16_at (λ source. part (maybe_list (codes " attrs=") pair_at) (λ attrs. known (body.Objects source attrs))))

unfoldable pub attributes_at : List ℕ → Option (Body × List ℕ)
attributes_at =
    word (codes " source=") (part number16_at (λ source. part (maybe_list (codes " changes=") change_at)
    (λ changes. known (body.Attributes source changes))))

unfoldable pub states_at : List ℕ → Option (Body × List ℕ)
states_at =
    word (codes " source=") (part number16_at (λ source. part (maybe_list (codes " changes=") state_change_at)
    (λ changes. known (body.States source changes))))

unfoldable pub alarm_at : List ℕ → Option (Body × List ℕ)
alarm_at = word (codes " cause=") (part number16_at (λ cause. word (codes " sev=") (part number16_at (λ severity. known (body.Alarm cause severity)))))

unfoldable pub security_at : List ℕ → Option (Body × List ℕ)
security_at =
    word (codes " cause=") (part number16_at (λ cause.
    word (codes " sev=") (part number16_at (λ severity.
    word (codes " detector=") (part value_at (λ detector.
    word (codes " user=") (part value_at (λ user.
    word (codes " provider=") (part value_at (λ provider.
    known (body.Security cause severity detector user provider)))))))))))

abbrev pub body_of_at : NoteKind → List ℕ → Option (Body × List ℕ)
body_of_at Objects = objects_at
body_of_at Attributes = attributes_at
body_of_at States = states_at
body_of_at Alarm = alarm_at
body_of_at Security = security_at

unfoldable pub note_at : List ℕ → Option (Notification × List ℕ)
note_at = part note_kind_at (λ kind. part heading_at (λ heading. part (body_of_at kind) (λ told. known (note_of heading told))))
