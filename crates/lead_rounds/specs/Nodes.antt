-- Words of public clauses: the active server of a group and its standbys at a state of the definitions.
use Rattle.std.specs.Prelude.{Bool, true, false, if◌then◌else◌, Some, None, List, [], ◌∷◌}
use Rattle.stream_layout.specs.declared.deed.Deed.{Deed}
use Rattle.plain_service.specs.Setups.{Setup}
use Rattle.plain_service.specs.Storing.{deeds_of}
use Rattle.plain_service.specs.Values.{saved_of}
use Rattle.cluster_facts.specs.Types.{Entry}
use Rattle.cluster_facts.specs.History.{Hand}
use Rattle.mirror.specs.declared.heard.Role.TheVariants as role
use Rattle.mirror.specs.declared.state.NodeState.{NodeState as Node}
use Rattle.mirror.specs.declared.node.Tie.TheVariants.{Apart}
use Rattle.mirror.specs.Replicas.{started}
use Rattle.group_cluster.specs.Seats as defined
use Rattle.group_cluster.specs.Seats.{Stance, Linking, Standby, any_seat}
use Rattle.lead_rounds.specs.Leading.{lead_by}

-- a server to which entries go
abbrev pub is_linked : Stance → Bool
is_linked (Linking sent) = true
is_linked (Standby on_way mark keeps) = true
is_linked _ = false

abbrev pub active_by : Setup → List Entry → Hand → List defined.Seat → Node
active_by setup past hand seats = lead_by setup past hand (any_seat is_linked seats)

-- the deeds of the last entry of a history
abbrev pub last_deeds : Setup → List Entry → List Deed
last_deeds setup [] = []
last_deeds setup (entry ∷ past) = deeds_of setup past entry

-- the standby after a history
abbrev pub standby_by : Setup → List Entry → Bool → Node
standby_by setup history keeps = record {
  replica = started role.Standby (saved_of setup history);
  waits = None;
  tie = Apart;
  promised = [];
  kept = if keeps then Some (last_deeds setup history) else None;
}
