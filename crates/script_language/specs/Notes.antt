-- Words of public clauses: how notifications are spelled.
use Rattle.std.specs.Prelude.{ℕ, ℤ, List, [], ◌∷◌, codes}
use Rattle.ais_values.specs.Times.{unknown_time}
use Rattle.ais_values.specs.declared.kind.ClassId.{ClassId}
use Rattle.ntf_types.specs.declared.value.Pair.{Pair}
use Rattle.ntf_types.specs.declared.notification.Body.{Body}
use Rattle.ntf_types.specs.declared.notification.Body.TheVariants as body
use Rattle.ntf_types.specs.declared.notification.Notification.{Notification}
use Rattle.script_lines.specs.declared.note.NoteKind.{NoteKind}
use Rattle.script_lines.specs.declared.note.NoteKind.TheVariants.{Objects, Attributes, States, Alarm, Security}
use Rattle.script_lines.specs.declared.note.Heading.{Heading}
use Rattle.script_grammar.specs.Grammar.{Known, Word, Part, OneOf, Unless, MaybeList}
use Rattle.script_grammar.specs.Values.{IsHexWord, IsQuoted}
use Rattle.script_language.specs.Values.{IsNumber16, IsNumber64, IsSigned64, IsQuotedName, IsClass, IsValue, IsPair, IsChange, IsStateChange}

-- the types of notifications
abbrev pub kind_forms : List (List ℕ × (NoteKind → List ℕ → Type 0))
kind_forms =
    (codes "objects", Known Objects)
    ∷ (codes "attributes", Known Attributes)
    ∷ (codes "states", Known States)
    ∷ (codes "alarm", Known Alarm)
    ∷ (codes "security", Known Security)
    ∷ []

unfoldable pub IsNoteKind : NoteKind → List ℕ → Type 0
IsNoteKind = OneOf kind_forms

abbrev pub heading_of : ℕ → List ℕ → List ℕ → ClassId → ℤ → List ℕ → List ℕ → List Pair → Heading
heading_of event_type object notifier class time correlated text info = record {
  event_type = event_type;
  object = object;
  notifier = notifier;
  class = class;
  event_time = time;
  correlated = correlated;
  text = text;
  info = info;
}

-- type=TYPE obj="O" by="O" class=V.M.N [time=NS] [corr=IDS] text="X" [info=PAIRS], with a blank before each
unfoldable pub IsHeading : Heading → List ℕ → Type 0
IsHeading =
    Word (codes " type=") (Part IsHexWord (λ event_type.
    Word (codes " obj=") (Part IsQuotedName (λ object.
    Word (codes " by=") (Part IsQuotedName (λ notifier.
    Word (codes " class=") (Part IsClass (λ class.
    Part (Unless unknown_time (codes " time=") IsSigned64) (λ time.
    Part (MaybeList (codes " corr=") IsNumber64) (λ correlated.
    Word (codes " text=") (Part IsQuoted (λ text.
    Part (MaybeList (codes " info=") IsPair) (λ info.
    Known (heading_of event_type object notifier class time correlated text info))))))))))))))

-- what each type of notifications tells
unfoldable pub IsObjects : Body → List ℕ → Type 0
IsObjects = Word (codes " source=") (Part IsNumber16 (λ source. Part (MaybeList (codes " attrs=") IsPair) (λ attrs. Known (body.Objects source attrs))))

unfoldable pub IsAttributes : Body → List ℕ → Type 0
IsAttributes =
    Word (codes " source=") (Part IsNumber16 (λ source. Part (MaybeList (codes " changes=") IsChange)
    (λ changes. Known (body.Attributes source changes))))

unfoldable pub IsStates : Body → List ℕ → Type 0
IsStates =
    Word (codes " source=") (Part IsNumber16 (λ source. Part (MaybeList (codes " changes=") IsStateChange)
    (λ changes. Known (body.States source changes))))

unfoldable pub IsAlarm : Body → List ℕ → Type 0
IsAlarm = Word (codes " cause=") (Part IsNumber16 (λ cause. Word (codes " sev=") (Part IsNumber16 (λ severity. Known (body.Alarm cause severity)))))

unfoldable pub IsSecurity : Body → List ℕ → Type 0
IsSecurity =
    Word (codes " cause=") (Part IsNumber16 (λ cause.
    Word (codes " sev=") (Part IsNumber16 (λ severity.
    Word (codes " detector=") (Part IsValue (λ detector.
    Word (codes " user=") (Part IsValue (λ user.
    Word (codes " provider=") (Part IsValue (λ provider.
    Known (body.Security cause severity detector user provider)))))))))))

abbrev pub IsBodyOf : NoteKind → Body → List ℕ → Type 0
IsBodyOf Objects = IsObjects
IsBodyOf Attributes = IsAttributes
IsBodyOf States = IsStates
IsBodyOf Alarm = IsAlarm
IsBodyOf Security = IsSecurity

-- a notification that has no id yet
abbrev pub note_of : Heading → Body → Notification
note_of heading told = record {
  id = 0;
  event_type = heading.event_type;
  object = heading.object;
  notifier = heading.notifier;
  class = heading.class;
  event_time = heading.event_time;
  correlated = heading.correlated;
  text = heading.text;
  info = heading.info;
  body = told;
}

-- KIND, what each notification has, and what those of its type tell
unfoldable pub IsNote : Notification → List ℕ → Type 0
IsNote = Part IsNoteKind (λ kind. Part IsHeading (λ heading. Part (IsBodyOf kind) (λ told. Known (note_of heading told))))
