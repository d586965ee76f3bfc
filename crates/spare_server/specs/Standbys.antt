-- Words of public clauses: what holds of each standby at all times, so that any of them may take over.
use Rattle.std.specs.Prelude.{◌≡◌, true, false, ◌⊎◌, Option, Some, IfSome, List, ◌∷◌}
use Rattle.disk_model.specs.Disk.{Files}
use Rattle.disk_model.specs.Seen.{DiskSeen}
use Rattle.plain_service.specs.Setups.{Setup}
use Rattle.plain_service.specs.Storing.{files_of}
use Rattle.plain_service.specs.Values.{saved_of}
use Rattle.cluster_facts.specs.Types.{Entry}
use Rattle.cluster_facts.specs.History.{Hand, Waiting, committed_by}
use Rattle.cluster_events.specs.Servers.{State}
use Rattle.mirror.specs.declared.heard.Role.TheVariants.{Standby}
use Rattle.mirror.specs.declared.state.NodeState.{NodeState as Node}
use Rattle.mirror.specs.Pairing.{keeps_deeds}
use Rattle.mirror.specs.Replicas.{started}
use Rattle.group_cluster.specs.Seats.{Peers}
use Rattle.cluster_rounds.specs.Seen.{TellsFiles}
use Rattle.group_servers.specs.GroupNodes.{last_deeds}
use Rattle.spare_server.specs.declared.world.TrioWorld.{TrioWorld}
use Rattle.spare_server.specs.Worlds.{IsGood, Shows}

-- Its service stands for the history, or for the history and the entry that waits. Where it applied an entry since it started or joined,
-- the one that waits too, it keeps the deeds of the last one. Where it applied none, it stands for what is answered, and the files are
-- those of it, where the disk tells them: it has nothing to perform as it takes over.
pub record Follows (setup : Setup) (past : List Entry) (hand : Hand) (files : Option Files) (node : Node) : Type 0 where
  pub history : List Entry
  pub follows : (history ≡ committed_by past hand) ⊎ ((entry : Entry) × (hand ≡ Waiting entry) × (history ≡ entry ∷ committed_by past hand))
  pub stands : node.replica ≡ started Standby (saved_of setup history)
  pub keeps : keeps_deeds node ≡ true → node.kept ≡ Some (last_deeds setup history)
  pub fresh : keeps_deeds node ≡ false → (history ≡ past) × IfSome files (λ one. one ≡ files_of setup past)

abbrev pub FollowsIn : Setup → State Peers → Option Files → Node → Type 0
FollowsIn setup state files node =
    node.replica.role ≡ Standby → Follows setup state.world.core.answered state.world.core.hand files node

-- so it is of each server that is standby
pub record StandbysFollow (setup : Setup) (state : State Peers) (files : Option Files) (world : TrioWorld) : Type 0 where
  pub a : FollowsIn setup state files world.a
  pub b : FollowsIn setup state files world.b
  pub c : FollowsIn setup state files world.c

-- in every world that stands for a good state, over a disk that holds the files of it
abbrev pub AllFollow : Type 0
AllFollow =
    (setup : Setup) (state : State Peers) (files : Option Files) (world : TrioWorld)
    → IsGood setup state → Shows setup state world → TellsFiles setup state files → StandbysFollow setup state files world

-- and behind an event
abbrev pub FollowsBehind : TrioWorld → TrioWorld → DiskSeen → DiskSeen → Type 0
FollowsBehind old new held left =
    (setup : Setup) (state : State Peers) → IsGood setup state → Shows setup state old → held.tally.armed ≡ state.peers.armed
    → TellsFiles setup state held.files
    → (now : State Peers) × IsGood setup now × Shows setup now new × StandbysFollow setup now left.files new
