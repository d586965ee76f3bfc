-- Words of public clauses of the layers above: tests of whether two names or two attributes are equal. `law_of_tests` ties them to equality.
use Rattle.std.specs.Prelude.{ℕ, List, [], Bool, ◌&&◌, ◌==◌}
use Rattle.std.specs.Str.{bytes_eq}
use Rattle.stream_config.specs.declared.attrs.FullAction.{FullAction}
use Rattle.stream_config.specs.declared.attrs.FullAction.TheVariants.{Wrap, Halt, Rotate}
use Rattle.stream_config.specs.declared.attrs.StreamAttrs.{StreamAttrs}
use Rattle.stream_config.specs.declared.attrs.StreamName.{StreamName}
use Rattle.stream_config.specs.declared.attrs.StreamName.TheVariants.{Alarm, Notification, System, App}

-- the standard's number of an action
abbrev pub action_code : FullAction → ℕ
action_code Wrap = 1
action_code Halt = 2
action_code Rotate = 3

-- the names of the four kinds of streams, numbered
abbrev pub name_code : StreamName → ℕ
name_code Alarm = 0
name_code Notification = 1
name_code System = 2
name_code (App name) = 3

-- what an application has named; nothing of a well-known stream
abbrev pub own_name : StreamName → List ℕ
own_name Alarm = []
own_name Notification = []
own_name System = []
own_name (App name) = name

abbrev pub same_name : StreamName → StreamName → Bool
same_name one other = name_code one == name_code other && bytes_eq (own_name one) (own_name other)

abbrev pub same_action : FullAction → FullAction → Bool
same_action one other = action_code one == action_code other

abbrev pub same_attrs : StreamAttrs → StreamAttrs → Bool
same_attrs one other =
    bytes_eq one.file other.file && bytes_eq one.path other.path && one.max_file == other.max_file
    && one.record_size == other.record_size && one.ha == other.ha && same_action one.action other.action
    && one.rotated == other.rotated && bytes_eq one.expr other.expr
