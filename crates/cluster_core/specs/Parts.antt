-- Words of bodies alone: a world that is taken apart by who is active, and put together again.
use Rattle.std.specs.Prelude.{◌≡◌, ℕ, if◌then◌else◌, List, ◌∷◌}
use Rattle.disk_model.specs.Seen.{DiskSeen}
use Rattle.disk_model.specs.declared.answers.DiskAnswer.{DiskAnswer}
use Rattle.script_lines.specs.declared.line.Line.{Line}
use Rattle.script_lines.specs.declared.line.Server.{Server}
use Rattle.script_lines.specs.declared.line.Server.TheVariants.{A, B}
use Rattle.mirror.specs.declared.heard.Role.{Role}
use Rattle.mirror.specs.declared.heard.Role.TheVariants.{Active}
use Rattle.cluster_rounds.specs.declared.cluster.Cluster.{Cluster}
use Rattle.cluster_lines.specs.Playing.{BreaksOff, Plays}
use Rattle.group_servers.specs.declared.group.Seat.{Seat}
use Rattle.group_servers.specs.declared.group.Group.{Group}
use Rattle.group_servers.specs.GroupKit.{group_kit, group_script}
use Rattle.cluster_core.specs.declared.world.World.{World}
use Rattle.cluster_core.specs.Worlds.{is_first, named, own_seat, parts_of, unnamed}

-- `b` is active where it has that role, and `a` otherwise
abbrev pub acting_as : Role → Server
acting_as Active = B
acting_as _ = A

abbrev pub acting_in : World → Server
acting_in world = acting_as world.b.replica.role

-- of two seats that of the server that is not the active one
abbrev pub other_seat : Server → List Seat → Seat
other_seat acting (one ∷ other ∷ seats) = if is_first acting then other else one
other_seat acting _ = own_seat acting

-- the world of these parts
abbrev pub whole_of : Cluster (Group 2) → World
whole_of parts =
    let servers = parts.servers in
    let other = other_seat servers.acting servers.seats in
    record {
      a = named servers.acting servers.active other.node;
      b = unnamed servers.acting servers.active other.node;
      link = other.link;
      back = other.back;
      net = parts.net;
      agents = parts.agents;
      history = parts.history;
      now = parts.now;
      armed = servers.armed;
      callbacks = parts.callbacks;
    }

-- what a line led to, or left that was not done, by the parts that the world was and is made of
abbrev pub PlaysWhole : Line → World → World → List (List ℕ) → List (List ℕ) → DiskSeen → DiskSeen → Type 0
PlaysWhole next old new before after held left =
    (parts : Cluster (Group 2)) × (new ≡ whole_of parts) × Plays (group_kit 2) group_script next (parts_of (acting_in old) old) parts before after held left

abbrev pub BreaksWhole : DiskAnswer → Line → World → World → List (List ℕ) → List (List ℕ) → DiskSeen → DiskSeen → Type 0
BreaksWhole answer next old new before after held left =
    (parts : Cluster (Group 2)) × (new ≡ whole_of parts)
    × BreaksOff (group_kit 2) group_script answer next (parts_of (acting_in old) old) parts before after held left
