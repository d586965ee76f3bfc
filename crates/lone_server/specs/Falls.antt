-- Words of public clauses: a server that goes down.
use Rattle.std.specs.Prelude.{false, []}
use Rattle.disk_model.specs.Counts.{disarmed}
use Rattle.disk_model.specs.Seen.{DiskSeen}
use Rattle.mirror.specs.Replicas.{down}
use Rattle.mirror.specs.Pairing.{alone}
use Rattle.lone_server.specs.declared.lone.Lone.{Lone}

-- nothing is on the way any more; the field of the journal stays, and is not read while the server is down
abbrev pub downed : Lone → Lone
downed servers = record { node = alone down; journal = servers.journal; link = []; back = []; armed = false }

-- a disk that is not armed any more
abbrev pub unarmed : DiskSeen → DiskSeen
unarmed seen = record { files = seen.files; tally = disarmed seen.tally; faults = seen.faults; stops = seen.stops }
