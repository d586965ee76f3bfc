-- Words of public clauses: where a record stands.
use Rattle.std.specs.Prelude.{ℕ, ◌-◌, ◌*◌, ◌/◌, ◌%◌, Bool, true, false, Option, Some, None}
use Rattle.stream_config.specs.declared.attrs.FullAction.{FullAction}
use Rattle.stream_config.specs.declared.attrs.FullAction.TheVariants.{Wrap, Halt, Rotate}
use Rattle.stream_config.specs.declared.attrs.StreamAttrs.{StreamAttrs}
use Rattle.stream_config.specs.declared.state.StreamState.{StreamState}
use Rattle.stream_config.specs.Events.{current_file, next_offset}
use Rattle.stream_config.specs.Sizes.{records_per_file, has_room}
use Rattle.stream_layout.specs.declared.spot.Spot.{Spot}

-- the place of record k where a file holds n records of that size: the number of its file, and the offset there
abbrev pub spot_in : FullAction → (n size k : ℕ) → Spot
spot_in Wrap n size k = record { file = 0; at = k % n * size }
spot_in Halt n size k = record { file = 0; at = k * size }
spot_in Rotate n size k = record { file = k / n; at = k % n * size }

abbrev pub spot_of : StreamAttrs → ℕ → Spot
spot_of attrs k = spot_in attrs.action (records_per_file attrs) attrs.record_size k

-- the place of the record that comes next, by whether it has room in the current file: none where it does not fit the one of a HALT stream
abbrev pub next_spot_by : FullAction → (fits : Bool) → (opened offset : ℕ) → Option Spot
next_spot_by Wrap fits opened offset = Some (record { file = 0; at = offset })
next_spot_by Halt true opened offset = Some (record { file = 0; at = offset })
next_spot_by Halt false opened offset = None
next_spot_by Rotate true opened offset = Some (record { file = opened - 1; at = offset })
next_spot_by Rotate false opened offset = Some (record { file = opened; at = 0 })

abbrev pub next_spot : StreamState → (len : ℕ) → Option Spot
next_spot state len =
    next_spot_by state.attrs.action (has_room state.attrs (current_file state.files).bytes len) state.opened (next_offset state)
