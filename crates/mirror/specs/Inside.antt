-- Words of bodies alone: how a server is kept.
use Rattle.std.specs.Prelude.{IsSome}
use Rattle.mirror.specs.declared.replica.Replica.TheInside.{Inside}
use Rattle.mirror.specs.Replicas.{ReplicaState}

abbrev pub server_of : Inside → ReplicaState
server_of inside = record { role = inside.role; service = inside.service; owed = inside.owed }

-- what is in hand is of a service
abbrev pub IsOfService : Inside → Type 0
IsOfService inside = IsSome inside.owed → IsSome inside.service
