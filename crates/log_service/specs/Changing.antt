-- Words of bodies alone: what changes as a record is stored, and as streams end.
use Rattle.std.specs.Prelude.{true, ◌≡◌, ℕ, ◌+◌, ℤ, pos, unsigned_abs, List, [], ◌∷◌, ◌++◌, Option, Some, None, if◌then◌else◌}
use Rattle.std.specs.Option.{option_map_or}
use Rattle.std.specs.List.{find}
use Rattle.stream_config.specs.declared.attrs.StreamAttrs.{StreamAttrs}
use Rattle.stream_config.specs.declared.attrs.StreamName.{StreamName}
use Rattle.stream_config.specs.declared.state.StreamState.{StreamState}
use Rattle.stream_config.specs.declared.state.LogFile.{LogFile}
use Rattle.stream_config.specs.declared.event.Stamps.{Stamps}
use Rattle.stream_config.specs.Events.{state_after}
use Rattle.stream_config.specs.declared.event.StreamEvent.{StreamEvent}
use Rattle.record_print.specs.declared.record.LogRecord.{LogRecord}
use Rattle.ais_values.specs.declared.status.Status.{Status}
use Rattle.log_history.specs.Answers.{answer, open_rows}
use Rattle.log_history.specs.KeptAnswers.{kept_attrs, has_place, is_crowd}
use Rattle.log_history.specs.Firsts.{change_first}
use Rattle.log_history.specs.Table.{OpenStream, is_named, with_opener, last_after_due, storing, with_stored, last_after_ends, ends_in, left_streams}
use Rattle.log_history.specs.Table.{has_nobody, without_opener, new_state, opened_stream}
use Rattle.stream_config.specs.Stamps.{stamp_after}
use Rattle.stream_config.specs.declared.event.StreamEvent.TheVariants.{Made, Ended}
use Rattle.log_service.specs.Moments.{second_of}

-- the last stamp once these are taken
abbrev pub last_with : ℤ → Option Stamps → ℤ
last_with last None = last
last_with last (Some stamps) = stamps.created

-- how many files were made once these stamps are taken
abbrev pub opened_with : ℕ → Option Stamps → ℕ
opened_with opened None = opened
opened_with opened (Some stamps) = opened + 1

-- the last stamp, the files that stand and how many were made once the next record is stored
pub record IsFiling (last now : ℤ) (rec : LogRecord) (state : StreamState) (stamp : ℤ) (opened : ℕ) (files : List LogFile) : Type 0 where
  pub stamp_is : stamp ≡ pos (last_after_due (unsigned_abs last) (second_of now) rec state)
  pub opened_is : opened ≡ (state_after (storing (unsigned_abs last) (second_of now) rec state)).opened
  pub files_are : files ≡ (state_after (storing (unsigned_abs last) (second_of now) rec state)).files

-- the streams once a client has made one, with the last stamp then and the events
pub record MakesIn (last now : ℤ) (client number : ℕ) (name : StreamName) (attrs : StreamAttrs)
    (old new : List OpenStream) (made : ℤ × List StreamEvent) : Type 0 where
  pub stamp : made.0 ≡ pos (stamp_after (unsigned_abs last) (second_of now))
  pub events : made.1 ≡ Made (new_state name attrs (stamp_after (unsigned_abs last) (second_of now))) ∷ []
  pub streams : new ≡ old ++ opened_stream client name attrs (stamp_after (unsigned_abs last) (second_of now)) number ∷ []

-- the streams once a client has joined the openers of one
pub record JoinsIn (last : ℤ) (client : ℕ) (name : StreamName) (old new : List OpenStream) (joined : ℤ × List StreamEvent) : Type 0 where
  pub stamp : joined.0 ≡ last
  pub events : joined.1 ≡ []
  pub streams : new ≡ change_first (is_named name) (with_opener client) old

-- the streams once a client has opened one, which lived or not
abbrev pub OpensIn : (last now : ℤ) (client number : ℕ) → StreamName → (making : Option StreamAttrs) → (old new : List OpenStream)
    → ℤ × List StreamEvent → Type 0
OpensIn last now client number name (Some attrs) old new opened = MakesIn last now client number name attrs old new opened
OpensIn last now client number name None old new opened = JoinsIn last client name old new opened

-- the streams once a record is stored in the one of this name, with the last stamp then and the events
pub record StoresIn (last now : ℤ) (name : StreamName) (rec : LogRecord) (old new : List OpenStream) (stored : ℤ × List StreamEvent) : Type 0 where
  pub stamp :
      stored.0 ≡ pos (option_map_or (λ (stream : OpenStream). last_after_due (unsigned_abs last) (second_of now) rec stream.state)
      (find (is_named name) old) (unsigned_abs last))
  pub events :
      stored.1 ≡ option_map_or (λ (stream : OpenStream). storing (unsigned_abs last) (second_of now) rec stream.state ∷ [])
      (find (is_named name) old) []
  pub streams : new ≡ change_first (is_named name) (with_stored (unsigned_abs last) (second_of now) rec) old

-- the last stamp and the events once those streams have ended that nobody has open any more
pub record AreEndsIn (last now : ℤ) (left : List OpenStream) (ended : ℤ × List StreamEvent) : Type 0 where
  pub stamp : ended.0 ≡ pos (last_after_ends (unsigned_abs last) (second_of now) left)
  pub events : ended.1 ≡ ends_in (unsigned_abs last) (second_of now) left

abbrev pub last_of_endings : (last now : ℤ) (client : ℕ) → List OpenStream → ℤ
last_of_endings last now client streams =
    pos (last_after_ends (unsigned_abs last) (second_of now) (left_streams client streams))

abbrev pub endings_of : (last now : ℤ) (client : ℕ) → List OpenStream → List StreamEvent
endings_of last now client streams = ends_in (unsigned_abs last) (second_of now) (left_streams client streams)

-- the last stamp and the events when a client closes one stream
abbrev pub last_of_end : (last now : ℤ) (client : ℕ) → OpenStream → ℕ
last_of_end last now client stream =
    if has_nobody (without_opener client stream) then stamp_after (unsigned_abs last) (second_of now) else unsigned_abs last

abbrev pub end_of : (last now : ℤ) (client : ℕ) → OpenStream → List StreamEvent
end_of last now client stream =
    if has_nobody (without_opener client stream)
    then Ended stream.state (pos (stamp_after (unsigned_abs last) (second_of now))) ∷ []
    else []

-- what decides the making of a stream by a client that uses the service
abbrev pub making_status : List OpenStream → StreamName → StreamAttrs → Status
making_status streams name attrs =
    answer (open_rows true (kept_attrs streams name) (has_place streams attrs) (is_crowd streams) name (Some attrs))
