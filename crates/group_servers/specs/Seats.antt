-- Words of bodies alone: what servers beside the active one are, and what is on the way to them.
use Rattle.std.specs.Prelude.{◌==◌, Bool, true, false, ◌&&◌, ◌||◌, not, List, [], ◌∷◌, length}
use Rattle.std.specs.List.{list_any}
use Rattle.wire.specs.declared.message.Message.{Message}
use Rattle.wire.specs.declared.message.Message.TheVariants.{Mirror, MirrorAck}
use Rattle.mirror.specs.declared.heard.Role.{Role}
use Rattle.mirror.specs.declared.heard.Role.TheVariants.{Standby, Joining}
use Rattle.mirror.specs.Pairing.{keeps_deeds}
use Rattle.lead_server.specs.Roles as roles
use Rattle.group_servers.specs.declared.group.Seat.{Seat}

abbrev pub is_entry : Message → Bool
is_entry (Mirror number entry) = true
is_entry _ = false

abbrev pub is_confirmation : Message → Bool
is_confirmation (MirrorAck number) = true
is_confirmation _ = false

-- something is on the way to a server, and on the way back
abbrev pub has_link : Seat → Bool
has_link seat = not (length seat.link == 0)

abbrev pub has_back : Seat → Bool
has_back seat = not (length seat.back == 0)

-- an entry is on the way to a server, and its confirmation on the way back
abbrev pub entry_goes : Seat → Bool
entry_goes seat = list_any is_entry seat.link

abbrev pub confirms : Seat → Bool
confirms seat = list_any is_confirmation seat.back

-- one of both is on the way
abbrev pub still_waits : List Seat → Bool
still_waits seats = list_any entry_goes seats || list_any confirms seats

-- the message is the last confirmation of an entry
abbrev pub is_last : Message → List Seat → Bool
is_last message seats = is_confirmation message && not (still_waits seats)

-- whether entries go to a server: it is standby, or the value of the service is on the way to it
abbrev pub goes_by : Role → List Message → Bool
goes_by Standby link = true
goes_by Joining [] = false
goes_by Joining (message ∷ link) = true
goes_by _ link = false

abbrev pub goes_to : Seat → Bool
goes_to seat = goes_by seat.node.replica.role seat.link

abbrev pub stands_by : Seat → Bool
stands_by seat = roles.stands_by seat.node.replica.role

-- a standby that applied no entry since it started or joined
abbrev pub is_fresh : Seat → Bool
is_fresh seat = stands_by seat && not (keeps_deeds seat.node)

-- a standby to which no entry goes
abbrev pub has_applied : Seat → Bool
has_applied seat = stands_by seat && not (entry_goes seat)

-- an entry goes to some server, and a standby has it
abbrev pub catches : List Seat → Bool
catches seats = list_any entry_goes seats && list_any has_applied seats

abbrev pub is_up : Seat → Bool
is_up seat = not (roles.stays_down seat.node.replica.role)
