-- That reading is exact: notifications.
use Rattle.std.proofs.Common.{List, [], ◌∷◌, refl}
use Rattle.std.specs.Prelude.{codes}
use Rattle.ais_values.specs.Times.{unknown_time}
use Rattle.script_lines.specs.declared.note.NoteKind.{NoteKind}
use Rattle.script_lines.specs.declared.note.NoteKind.TheVariants.{Objects, Attributes, States, Alarm, Security}
use Rattle.script_language.specs.Notes.{kind_forms, IsNoteKind, IsHeading, IsObjects, IsAttributes, IsStates, IsAlarm, IsSecurity, IsNote, heading_of, note_of, IsBodyOf}
use Rattle.script_language.specs.NoteReading.{kind_readers, note_kind_at, heading_at, objects_at, attributes_at, states_at, alarm_at, security_at, note_at, body_of_at}
use Rattle.script_grammar.proofs.Rules.Beginning.{Ends, Begins}
use Rattle.script_grammar.proofs.Rules.{Beginning, Rule, TableRule, known_rule, word_rule, part_rule, no_form_rule, form_rule, unless_part_rule, list_part_rule, starting, separators}
use Rattle.script_language.proofs.ValueRules.{number16_rule, number64_rule, signed64_rule, class_rule, value_rule, pair_rule, change_rule, state_change_rule, quoted_name_rule, quoted_rule, hex_word_rule}
use Rattle.ntf_types.specs.declared.notification.Body.TheVariants as body

-- how what a notification tells begins
abbrev pub body_starts : List Beginning
body_starts = Begins (codes " source=") ∷ Begins (codes " cause=") ∷ []

abbrev pub kind_starts : List Beginning
kind_starts = Begins (codes "objects") ∷ Begins (codes "attributes") ∷ Begins (codes "states") ∷ Begins (codes "alarm") ∷ Begins (codes "security") ∷ []

kind_table : TableRule kind_readers kind_forms separators kind_starts
kind_table =
    form_rule (codes "objects") (known_rule Objects) (
    form_rule (codes "attributes") (known_rule Attributes) (
    form_rule (codes "states") (known_rule States) (
    form_rule (codes "alarm") (known_rule Alarm) (
    form_rule (codes "security") (known_rule Security) no_form_rule refl) refl) refl) refl) refl

pub note_kind_rule : Rule note_kind_at IsNoteKind separators kind_starts
unfolding note_kind_at IsNoteKind
note_kind_rule =
    kind_table.rule

pub heading_rule : Rule heading_at IsHeading body_starts (Begins (codes " type=") ∷ [])
unfolding heading_at IsHeading
heading_rule =
    word_rule (codes " type=") refl (part_rule hex_word_rule (λ event_type.
    word_rule (codes " obj=") refl (part_rule quoted_name_rule (λ object.
    word_rule (codes " by=") refl (part_rule quoted_name_rule (λ notifier.
    word_rule (codes " class=") refl (part_rule class_rule (λ class.
    unless_part_rule unknown_time (codes " time=") signed64_rule (λ time.
    list_part_rule (codes " corr=") number64_rule (λ correlated.
    word_rule (codes " text=") refl (part_rule quoted_rule (λ text.
    list_part_rule (codes " info=") pair_rule (λ info.
    known_rule (heading_of event_type object notifier class time correlated text info)) refl) refl)) refl) refl) refl)) refl)) refl)) refl)

pub objects_rule : Rule objects_at IsObjects (Ends ∷ []) (Begins (codes " source=") ∷ [])
unfolding objects_at IsObjects
objects_rule =
    word_rule (codes " source=") refl (part_rule number16_rule (λ source.
    list_part_rule (codes " attrs=") pair_rule (λ attrs.
    known_rule (body.Objects source attrs)) refl) refl)

pub attributes_rule : Rule attributes_at IsAttributes (Ends ∷ []) (Begins (codes " source=") ∷ [])
unfolding attributes_at IsAttributes
attributes_rule =
    word_rule (codes " source=") refl (part_rule number16_rule (λ source.
    list_part_rule (codes " changes=") change_rule (λ changes.
    known_rule (body.Attributes source changes)) refl) refl)

pub states_rule : Rule states_at IsStates (Ends ∷ []) (Begins (codes " source=") ∷ [])
unfolding states_at IsStates
states_rule =
    word_rule (codes " source=") refl (part_rule number16_rule (λ source.
    list_part_rule (codes " changes=") state_change_rule (λ changes.
    known_rule (body.States source changes)) refl) refl)

pub alarm_rule : Rule alarm_at IsAlarm (Ends ∷ []) (Begins (codes " cause=") ∷ [])
unfolding alarm_at IsAlarm
alarm_rule =
    word_rule (codes " cause=") refl (part_rule number16_rule (λ cause.
    word_rule (codes " sev=") refl (part_rule number16_rule (λ severity.
    known_rule (body.Alarm cause severity)) refl)) refl)

pub security_rule : Rule security_at IsSecurity (Ends ∷ []) (Begins (codes " cause=") ∷ [])
unfolding security_at IsSecurity
security_rule =
    word_rule (codes " cause=") refl (part_rule number16_rule (λ cause.
    word_rule (codes " sev=") refl (part_rule number16_rule (λ severity.
    word_rule (codes " detector=") refl (part_rule value_rule (λ detector.
    word_rule (codes " user=") refl (part_rule value_rule (λ user.
    word_rule (codes " provider=") refl (part_rule value_rule (λ provider.
    known_rule (body.Security cause severity detector user provider)) refl)) refl)) refl)) refl)) refl)

pub body_of_rule : (kind : NoteKind) → Rule (body_of_at kind) (IsBodyOf kind) (Ends ∷ []) body_starts
body_of_rule Objects = starting objects_rule refl
body_of_rule Attributes = starting attributes_rule refl
body_of_rule States = starting states_rule refl
body_of_rule Alarm = starting alarm_rule refl
body_of_rule Security = starting security_rule refl

pub note_rule : Rule note_at IsNote (Ends ∷ []) kind_starts
unfolding note_at IsNote
note_rule =
    part_rule note_kind_rule (λ kind.
    part_rule heading_rule (λ heading.
    part_rule (body_of_rule kind) (λ told.
    known_rule (note_of heading told)) refl) refl) refl
