-- Words of bodies alone: entries that go to all servers to which entries go.
use Rattle.std.specs.Prelude.{if◌then◌else◌, List, [], ◌∷◌, ◌++◌, map}
use Rattle.wire.specs.declared.message.Message.{Message}
use Rattle.group_servers.specs.declared.group.Seat.{Seat}
use Rattle.group_servers.specs.Seats.{goes_to}

abbrev pub sent_to : Message → Seat → Seat
sent_to message seat = if goes_to seat then record seat { link = seat.link ++ message ∷ [] } else seat

abbrev pub all_sent : Message → List Seat → List Seat
all_sent message seats = map (sent_to message) seats

-- the first of these messages, if there is one
abbrev pub first_sent : List Message → List Seat → List Seat
first_sent [] seats = seats
first_sent (message ∷ messages) seats = all_sent message seats
