-- The active server of a cluster at a state of the definitions, whatever stands beside it.
use Rattle.std.specs.Prelude.{Bool, if◌then◌else◌, Option, Some, None, List, []}
use Rattle.plain_service.specs.Setups.{Setup}
use Rattle.cluster_facts.specs.Types.{Entry}
use Rattle.cluster_facts.specs.History.{Hand, Empty, Waiting, Applied, Ready}
use Rattle.mirror.specs.declared.state.NodeState.{NodeState as Node}
use Rattle.mirror.specs.declared.node.Tie.TheVariants.{Apart, Linked}
use Rattle.mirror.specs.Replicas.{ReplicaState, at_rest, at_work}

abbrev pub serving_by : Setup → List Entry → Hand → ReplicaState
serving_by setup past Empty = at_rest setup past
serving_by setup past (Waiting entry) = at_work setup past entry
serving_by setup past (Applied entry) = at_work setup past entry
serving_by setup past (Ready entry) = at_work setup past entry

-- an entry waits until each server to which it goes has it
abbrev pub waits_by : Hand → Option Entry
waits_by Empty = None
waits_by (Waiting entry) = Some entry
waits_by (Applied entry) = Some entry
waits_by (Ready entry) = None

-- its entries go to a server beside it, or to none
abbrev pub lead_by : Setup → List Entry → Hand → Bool → Node
lead_by setup past hand linked =
    record { replica = serving_by setup past hand; waits = waits_by hand; tie = if linked then Linked else Apart; promised = []; kept = None }
