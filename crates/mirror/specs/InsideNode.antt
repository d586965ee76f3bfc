-- Words of bodies alone: how a server stands in memory.
use Rattle.mirror.specs.declared.node.Server.{Server}
use Rattle.mirror.specs.declared.node.Server.TheVariants.{Down, Joining, Fresh, Serving}
use Rattle.mirror.specs.declared.node.Node.TheInside.{Inside}
use Rattle.mirror.specs.declared.state.NodeState.{NodeState}
use Rattle.mirror.specs.Replicas.{down, started}
use Rattle.mirror.specs.Pairing.{alone, joining}

abbrev pub state_in : Server → NodeState
state_in Down = alone down
state_in Joining = alone joining
state_in (Fresh role service) = alone (started role service)
state_in (Serving state) = state.value

abbrev pub state_of : Inside → NodeState
state_of inside = state_in inside.server

-- there is room for all that a server with a service may have
abbrev pub IsOpen : Server → Type 0
IsOpen (Fresh role service) = ⊥
IsOpen _ = Unit {0}
