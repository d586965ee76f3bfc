-- Words of public clauses: how the servers of a group begin.
use Rattle.std.specs.Prelude.{◌≡◌, List, [], ◌∷◌}
use Rattle.stream_layout.specs.declared.deed.Deed.{Deed}
use Rattle.disk_model.specs.declared.answers.DiskAnswer.{DiskAnswer}
use Rattle.disk_model.specs.declared.answers.DiskAnswer.TheVariants as answers
use Rattle.script_lines.specs.declared.line.Server.TheVariants.{B}
use Rattle.plain_service.specs.Setups.{Setup}
use Rattle.plain_service.specs.Storing.{opening_of}
use Rattle.mirror.specs.declared.state.NodeState.{NodeState as Node}
use Rattle.cluster_facts.specs.History.{Empty}
use Rattle.cluster_clients.specs.declared.answer.EventAnswer.{EventAnswer}
use Rattle.cluster_clients.specs.declared.answer.EventAnswer.TheVariants.{Memory, DiskFault}
use Rattle.group_cluster.specs.Group.{group_start}
use Rattle.lead_rounds.specs.Nodes.{active_by}

-- the active server at the start of a setup, tied to each standby
abbrev pub active_at : Setup → Node
active_at setup = active_by setup [] Empty (group_start (B ∷ []) setup.start 0).peers.seats

-- it, and the deeds of the start
abbrev pub Starts : Setup → Node → List Deed → Type 0
Starts setup active deeds = (active ≡ active_at setup) × (deeds ≡ opening_of setup)

-- why the start was not done
abbrev pub broken_by : DiskAnswer → EventAnswer
broken_by answers.Memory = Memory
broken_by answers.Failed = DiskFault []
broken_by answers.Stopped = Memory
