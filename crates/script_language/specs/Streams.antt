-- Words of public clauses: how streams, their attributes and the headers of their records are spelled.
use Rattle.std.specs.Prelude.{ℕ, Option, List, [], ◌∷◌, ◌++◌, codes}
use Rattle.std.specs.Option.{option_map_or}
use Rattle.ais_values.specs.Times.{unknown_time}
use Rattle.ais_values.specs.declared.kind.StreamKind.{StreamKind}
use Rattle.ais_values.specs.declared.kind.StreamKind.TheVariants as kinds
use Rattle.stream_config.specs.declared.attrs.FullAction.{FullAction}
use Rattle.stream_config.specs.declared.attrs.FullAction.TheVariants.{Wrap, Halt, Rotate}
use Rattle.stream_config.specs.declared.attrs.StreamAttrs.{StreamAttrs}
use Rattle.stream_config.specs.declared.attrs.StreamName.{StreamName}
use Rattle.stream_config.specs.declared.attrs.StreamName.TheVariants.{Alarm, Notification, System, App}
use Rattle.stream_config.specs.WellKnown.{default_format, default_attrs}
use Rattle.record_print.specs.declared.record.Header.{Header}
use Rattle.record_print.specs.declared.record.Header.TheVariants.{Ntf, Generic}
use Rattle.script_lines.specs.declared.line.WellOptions.{WellOptions}
use Rattle.script_grammar.specs.Grammar.{Known, Word, Part, OneOf, Maybe, Unless}
use Rattle.script_grammar.specs.Values.{IsHexWord, IsQuoted}
use Rattle.script_language.specs.Values.{IsNumber8, IsNumber16, IsNumber32, IsNumber64, IsSigned64, IsQuotedName, IsClass}

-- what a stream does with a record that does not fit its file
abbrev pub full_forms : List (List ℕ × (FullAction → List ℕ → Type 0))
full_forms = (codes "wrap", Known Wrap) ∷ (codes "halt", Known Halt) ∷ (codes "rotate", Known Rotate) ∷ []

unfoldable pub IsFullAction : FullAction → List ℕ → Type 0
IsFullAction = OneOf full_forms

-- alarm, notification, system or app:"NAME"
abbrev pub stream_forms : List (List ℕ × (StreamName → List ℕ → Type 0))
stream_forms =
    (codes "alarm", Known Alarm)
    ∷ (codes "notification", Known Notification)
    ∷ (codes "system", Known System)
    ∷ (codes "app:", Part IsQuotedName (λ name. Known (App name)))
    ∷ []

unfoldable pub IsStream : StreamName → List ℕ → Type 0
IsStream = OneOf stream_forms

abbrev pub attrs_of : List ℕ → List ℕ → ℕ → ℕ → ℕ → FullAction → ℕ → List ℕ → StreamAttrs
attrs_of file path max_file record_size ha action rotated expr =
    record { file = file; path = path; max_file = max_file; record_size = record_size; ha = ha; action = action; rotated = rotated; expr = expr }

-- "D" path="P" max=N rec=N ha=N full=F rot=N [fmt="E"], where an absent expression is that of application streams
unfoldable pub IsAttrs : StreamAttrs → List ℕ → Type 0
IsAttrs =
    Part IsQuoted (λ file.
    Word (codes " path=") (Part IsQuoted (λ path.
    Word (codes " max=") (Part IsNumber64 (λ max_file.
    Word (codes " rec=") (Part IsNumber32 (λ record_size.
    Word (codes " ha=") (Part IsNumber8 (λ ha.
    Word (codes " full=") (Part IsFullAction (λ action.
    Word (codes " rot=") (Part IsNumber32 (λ rotated.
    Part (Unless (default_format kinds.Application) (codes " fmt=") IsQuoted) (λ expr.
    Known (attrs_of file path max_file record_size ha action rotated expr)))))))))))))))

-- sev=N class=V.M.N user="U", without its first word
unfoldable pub IsGeneric : Header → List ℕ → Type 0
IsGeneric =
    Part IsNumber16 (λ severity. Word (codes " class=") (Part IsClass (λ class. Word (codes " user=") (Part IsQuotedName
    (λ user. Known (Generic class user severity))))))

-- id=N type=TYPE obj="O" by="O" class=V.M.N [evtime=NS], without its first word
unfoldable pub IsNotified : Header → List ℕ → Type 0
IsNotified =
    Part IsNumber64 (λ id.
    Word (codes " type=") (Part IsHexWord (λ event_type.
    Word (codes " obj=") (Part IsQuotedName (λ object.
    Word (codes " by=") (Part IsQuotedName (λ notifier.
    Word (codes " class=") (Part IsClass (λ class.
    Part (Unless unknown_time (codes " evtime=") IsSigned64) (λ event_time.
    Known (Ntf id event_type object notifier class event_time)))))))))))

abbrev pub header_forms : List (List ℕ × (Header → List ℕ → Type 0))
header_forms = (codes " gen sev=", IsGeneric) ∷ (codes " ntfh id=", IsNotified) ∷ []

-- the header of a record, with a blank before it
unfoldable pub IsHeader : Header → List ℕ → Type 0
IsHeader = OneOf header_forms

abbrev pub options_of : Option (List ℕ) → Option ℕ → Option ℕ → Option FullAction → Option ℕ → WellOptions
options_of fmt rec max full rot = record { fmt = fmt; rec = rec; max = max; full = full; rot = rot }

-- [fmt="E"] [rec=N] [max=N] [full=F] [rot=N], with a blank and the stream's word before each
unfoldable pub IsOptions : List ℕ → WellOptions → List ℕ → Type 0
IsOptions stream =
    Part (Maybe (stream ++ codes "fmt=") IsQuoted) (λ fmt.
    Part (Maybe (stream ++ codes "rec=") IsNumber32) (λ rec.
    Part (Maybe (stream ++ codes "max=") IsNumber64) (λ max.
    Part (Maybe (stream ++ codes "full=") IsFullAction) (λ full.
    Part (Maybe (stream ++ codes "rot=") IsNumber32) (λ rot.
    Known (options_of fmt rec max full rot))))))

-- the value, or the default
abbrev pub given_or : {X : Type 0} → X → Option X → X
given_or default given = option_map_or (λ x. x) given default

-- the attributes of a well-known stream: what the options say, and else the defaults
abbrev pub optioned : StreamAttrs → WellOptions → StreamAttrs
optioned defaults options = record {
  file = defaults.file;
  path = defaults.path;
  max_file = given_or defaults.max_file options.max;
  record_size = given_or defaults.record_size options.rec;
  ha = defaults.ha;
  action = given_or defaults.action options.full;
  rotated = given_or defaults.rotated options.rot;
  expr = given_or defaults.expr options.fmt;
}

abbrev pub well_attrs : StreamKind → WellOptions → StreamAttrs
well_attrs kind options = optioned (default_attrs kind) options

-- those that it gives to all three, in the order in which they are made
abbrev pub wells_of : WellOptions → WellOptions → WellOptions → List StreamAttrs
wells_of alarm ntf sys =
    well_attrs kinds.Alarm alarm ∷ well_attrs kinds.Notification ntf ∷ well_attrs kinds.System sys ∷ []
