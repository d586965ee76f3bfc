-- Words of public clauses: which changes can have happened.
use Rattle.std.specs.Prelude.{◌≡◌, true, false, List, [], ◌∷◌, Some, None, is_some}
use Rattle.ais_values.specs.declared.kind.StreamKind.TheVariants as kind
use Rattle.ais_values.specs.declared.status.Status.TheVariants as status
use Rattle.stream_config.specs.Attributes.{PassesAttrs}
use Rattle.stream_config.specs.AttributeTests.{have_one_place}
use Rattle.log_history.specs.Changes.{LogChange, Began, Opened, Stored, Filtered, Closed, Ended}
use Rattle.log_history.specs.Handles.{is_using, is_open}
use Rattle.log_history.specs.Chronicle.{LogSetup}
use Rattle.log_history.specs.Answers.{living_stream, open_answer, filter_answer, is_full}

-- the attributes of the well-known streams pass, and no two of them have one place
pub record IsSetup (setup : LogSetup) : Type 0 where
  pub alarm : PassesAttrs kind.Alarm setup.alarm
  pub notification : PassesAttrs kind.Notification setup.notification
  pub system : PassesAttrs kind.System setup.system
  pub first_apart : have_one_place setup.alarm setup.notification ≡ false
  pub second_apart : have_one_place setup.alarm setup.system ≡ false
  pub third_apart : have_one_place setup.notification setup.system ≡ false

-- a change that a call made which was answered ok
abbrev pub CanFollow : LogSetup → LogChange → List LogChange → Type 0
CanFollow setup (Began client) past = is_using past client ≡ false
CanFollow setup (Opened client name None second number) past =
    (is_using past client ≡ true) × (is_some (living_stream setup past name) ≡ true)
CanFollow setup (Opened client name (Some attrs) second number) past =
    (is_some (living_stream setup past name) ≡ false) × (open_answer setup past client name (Some attrs) ≡ status.Ok)
CanFollow setup (Stored name rec second) past =
    (is_some (living_stream setup past name) ≡ true) × (is_full setup past name rec ≡ false)
CanFollow setup (Filtered client name mask number) past = (is_using past client ≡ true) × (filter_answer setup past client name mask ≡ status.Ok)
CanFollow setup (Closed client name second) past = (is_using past client ≡ true) × (is_open past name client ≡ true)
CanFollow setup (Ended client second) past = is_using past client ≡ true

-- each change could follow those before it
abbrev pub IsLogHistory : LogSetup → List LogChange → Type 0
IsLogHistory setup [] = IsSetup setup
IsLogHistory setup (change ∷ past) = CanFollow setup change past × IsLogHistory setup past
