-- Words of public clauses: the deeds of what happens to streams.
use Rattle.std.specs.Prelude.{List, [], ◌∷◌, ◌++◌, map}
use Rattle.stream_config.specs.declared.event.StreamEvent.{StreamEvent}
use Rattle.stream_config.specs.declared.event.StreamEvent.TheVariants.{Made}
use Rattle.stream_layout.specs.declared.deed.Deed.{Deed}
use Rattle.stream_layout.specs.Deeds.{deeds_of}
use Rattle.log_history.specs.Changes.{LogChange}
use Rattle.log_history.specs.Chronicle.{LogSetup, Stream, beginning}
use Rattle.log_history.specs.Table.{new_state, table, events_of}

-- the deeds of what happens to streams, in order
abbrev pub deeds_of_all : List StreamEvent → List Deed
deeds_of_all [] = []
deeds_of_all (event ∷ events) = deeds_of event ++ deeds_of_all events

-- the deeds of one more change
abbrev pub deeds_by : LogSetup → LogChange → (past : List LogChange) → List Deed
deeds_by setup change past = deeds_of_all (events_of change (table setup past))

-- a well-known stream is made
abbrev pub made_stream : Stream → StreamEvent
made_stream stream = Made (new_state stream.name stream.attrs stream.current)

-- the deeds of the start, by which the well-known streams are made
abbrev pub opening_deeds : LogSetup → List Deed
opening_deeds setup = deeds_of_all (map made_stream (beginning setup).streams)
