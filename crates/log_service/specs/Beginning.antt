-- Words of bodies alone: the well-known streams as they are made at the start.
use Rattle.std.specs.Prelude.{◌≡◌, ℕ, ℤ, pos, List, [], ◌∷◌, map}
use Rattle.ais_values.specs.declared.kind.StreamKind.TheVariants as kind
use Rattle.stream_config.specs.Attributes.{PassesAttrs}
use Rattle.stream_config.specs.Marks.{first_mark}
use Rattle.stream_config.specs.Stamps.{stamp_after}
use Rattle.stream_config.specs.declared.attrs.StreamAttrs.{StreamAttrs}
use Rattle.stream_config.specs.declared.attrs.StreamName.{StreamName}
use Rattle.stream_config.specs.declared.attrs.StreamName.TheVariants as name
use Rattle.stream_config.specs.declared.event.StreamEvent.{StreamEvent}
use Rattle.log_history.specs.Table.{OpenStream, new_state}
use Rattle.log_service.specs.State.{made_event}

-- a new stream that nobody has open, and whose mask was never set
abbrev pub unopened_stream : StreamName → StreamAttrs → (created : ℕ) → OpenStream
unopened_stream name attrs created = record { state = new_state name attrs created; openers = []; mark = first_mark }

-- the attributes of the three streams pass
abbrev pub AreWells : List StreamAttrs → Type 0
AreWells (alarm ∷ notification ∷ system ∷ []) =
    PassesAttrs kind.Alarm alarm × PassesAttrs kind.Notification notification × PassesAttrs kind.System system
AreWells _ = ⊥

-- the stamps of the second and of the third stream
abbrev pub second_stamp : ℕ → ℕ
second_stamp start = stamp_after start start

abbrev pub third_stamp : ℕ → ℕ
third_stamp start = stamp_after (second_stamp start) start

abbrev pub well_streams : (start : ℕ) → List StreamAttrs → List OpenStream
well_streams start (alarm ∷ notification ∷ system ∷ []) =
    unopened_stream name.Alarm alarm start ∷ unopened_stream name.Notification notification (second_stamp start)
    ∷ unopened_stream name.System system (third_stamp start) ∷ []
well_streams start _ = []

pub record HasWells (start : ℕ) (wells : List StreamAttrs) (last : ℤ) (streams : List OpenStream) (events : List StreamEvent) : Type 0 where
  pub stamp : last ≡ pos (third_stamp start)
  pub made : streams ≡ well_streams start wells
  pub told : events ≡ map made_event (well_streams start wells)
