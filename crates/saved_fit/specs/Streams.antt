-- Words of bodies alone: the first three streams of a value, and the others.
use Rattle.std.specs.Prelude.{ℕ, ◌≡◌, ◌≤◌, ◌==◌, nat_le, Bool, true, not, ◌&&◌, ◌||◌, List, [], ◌∷◌, length, map, take, Option, Some, None}
use Rattle.std.specs.List.{AllByRecursion}
use Rattle.calls.specs.declared.saved.SavedStream.{SavedStream}
use Rattle.stream_config.specs.declared.attrs.StreamName.{StreamName}
use Rattle.stream_config.specs.declared.attrs.StreamName.TheVariants as name
use Rattle.stream_config.specs.declared.mark.Mark.{Mark}
use Rattle.stream_config.specs.Attributes.{kind_of}
use Rattle.stream_config.specs.Equality.{same_name}
use Rattle.format_expr.specs.Language.{is_notified}
use Rattle.plain_service.specs.Fitness.{IsOfApplication}

-- a stream has that name, if there is one
abbrev pub IsCalled : StreamName → Option SavedStream → Type 0
IsCalled name None = ⊥
IsCalled name (Some stream) = same_name stream.state.name name ≡ true

-- the well-known streams stand first
abbrev pub BeginsWell : List SavedStream → Type 0
BeginsWell streams =
    map (λ (stream : SavedStream). stream.state.name) (take 3 streams) ≡ name.Alarm ∷ name.Notification ∷ name.System ∷ []

-- streams are applications', and 64 at most
pub record AreFitOthers (others : List SavedStream) : Type 0 where
  pub each : AllByRecursion IsOfApplication others
  pub few : length others ≤ 64

-- a mark is that of a stream which was never set
abbrev pub is_unset : Mark → Bool
is_unset mark = mark.since == 0 && mark.mask == 127

-- a mark is fit, once so many entries were accepted
abbrev pub passes_mark : (number : ℕ) → StreamName → Mark → Bool
passes_mark number name mark =
    nat_le mark.mask 127 && (nat_le mark.since number && (not (is_notified (kind_of name)) || is_unset mark))
