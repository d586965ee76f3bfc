-- Words of public clauses: what holds of all that is kept of a history.
use Rattle.std.specs.Prelude.{◌≡◌, ◌≤◌, nat_lt, Bool, true, false}
use Rattle.std.specs.List.{AllByRecursion, count_by}
use Rattle.client_set.specs.Rising.{IsRising}
use Rattle.ais_values.specs.Codes.{all_differ}
use Rattle.stream_config.specs.Equality.{same_name}
use Rattle.stream_layout.specs.Carrying.{IsFitStream}
use Rattle.log_history.specs.Table.{OpenStream, LogTable, has_nobody}
use Rattle.log_history.specs.KeptAnswers.{is_of_application}

-- a living stream: its attributes pass, its files are those of so many records, the clients that have it open rise, and somebody
-- has it open where it is an application's
pub record IsFitKept (stream : OpenStream) : Type 0 where
  pub state : IsFitStream stream.state
  pub openers : IsRising nat_lt stream.openers
  pub opened : has_nobody stream ≡ false

abbrev pub have_one_name : OpenStream → OpenStream → Bool
have_one_name one other = same_name one.state.name other.state.name

-- users rise; no two living streams have one name; at most 64 are applications'
pub record IsFitTable (kept : LogTable) : Type 0 where
  pub users : IsRising nat_lt kept.users
  pub each : AllByRecursion IsFitKept kept.streams
  pub names : all_differ have_one_name kept.streams ≡ true
  pub few : count_by is_of_application kept.streams ≤ 64
