-- Words of bodies alone: a world that is taken apart by who is active, and put together again.
use Rattle.std.specs.Prelude.{◌≡◌, ℕ, Bool, true, false, if◌then◌else◌, IfSome, List, [], ◌∷◌}
use Rattle.disk_model.specs.Seen.{DiskSeen}
use Rattle.disk_model.specs.declared.answers.DiskAnswer.{DiskAnswer}
use Rattle.script_lines.specs.declared.line.Server.{Server}
use Rattle.script_lines.specs.declared.line.Server.TheVariants.{A, B, C}
use Rattle.plain_service.specs.Setups.{Setup}
use Rattle.service_laws.specs.PlainOf.{plain_of}
use Rattle.trio_lines.specs.declared.line.TrioLine.{TrioLine}
use Rattle.cluster_events.specs.Outcomes.{Outcome}
use Rattle.cluster_events.specs.Servers.{State}
use Rattle.cluster_events.specs.Running.{Shelf}
use Rattle.mirror.specs.declared.heard.Role.{Role}
use Rattle.mirror.specs.declared.heard.Role.TheVariants.{Active}
use Rattle.mirror.specs.Pairing.{alone}
use Rattle.mirror.specs.Replicas.{down}
use Rattle.group_cluster.specs.Seats.{Peers}
use Rattle.cluster_rounds.specs.declared.cluster.Cluster.{Cluster}
use Rattle.cluster_rounds.specs.Kits.{device_by}
use Rattle.cluster_rounds.specs.Seen.{TellsFiles, counters_of}
use Rattle.cluster_rounds.specs.Worlds as cluster
use Rattle.cluster_lines.specs.Playing.{BreaksOff}
use Rattle.cluster_lines.specs.Shelves.{shelf_of}
use Rattle.group_servers.specs.declared.group.Seat.{Seat}
use Rattle.group_servers.specs.declared.group.Group.{Group}
use Rattle.group_servers.specs.GroupCounts.{UsesLine}
use Rattle.group_servers.specs.GroupKit.{group_kit, group_script}
use Rattle.spare_server.specs.declared.world.TrioWorld.{TrioWorld}
use Rattle.spare_server.specs.Happening.{TrioHappens, group_line}
use Rattle.spare_server.specs.Worlds.{parts_of, with_node}

abbrev pub is_active : Role → Bool
is_active Active = true
is_active _ = false

-- `b` or `c` is active where it has that role, and `a` otherwise
abbrev pub acting_in : TrioWorld → Server
acting_in world =
    if is_active world.b.replica.role then B else if is_active world.c.replica.role then C else A

-- the seats in their order
abbrev pub first_seat : List Seat → Seat
first_seat [] = record { server = A; node = alone down; link = []; back = [] }
first_seat (seat ∷ seats) = seat

abbrev pub second_seat : List Seat → Seat
second_seat [] = first_seat []
second_seat (seat ∷ seats) = first_seat seats

abbrev pub third_seat : List Seat → Seat
third_seat [] = first_seat []
third_seat (seat ∷ seats) = second_seat seats

-- the world of these parts, in which the active server is as in its seat
abbrev pub seated : Cluster (Group 3) → TrioWorld
seated parts =
    let one = first_seat parts.servers.seats in
    let other = second_seat parts.servers.seats in
    let third = third_seat parts.servers.seats in
    record {
      a = one.node;
      b = other.node;
      c = third.node;
      link_a = one.link;
      link_b = other.link;
      link_c = third.link;
      back_a = one.back;
      back_b = other.back;
      back_c = third.back;
      net = parts.net;
      agents = parts.agents;
      history = parts.history;
      now = parts.now;
      armed = parts.servers.armed;
      callbacks = parts.callbacks;
    }

-- the world of these parts
abbrev pub whole_of : Cluster (Group 3) → TrioWorld
whole_of parts = with_node parts.servers.acting parts.servers.active (seated parts)

-- a line was done, of the parts
pub record Played (setup : Setup) (state : State Peers) (next : TrioLine) (new : Cluster (Group 3)) (before after : List (List ℕ))
    (held left : DiskSeen) : Type 0 where
  pub shelf : Shelf
  pub shelf_is : IfSome held.files (λ _. shelf ≡ shelf_of setup)
  pub happened : ℕ → ℕ
  pub outcome : Outcome (State Peers)
  pub leads : TrioHappens (plain_of setup) shelf (device_by setup happened) next state outcome
  pub uses : UsesLine setup (group_line next) happened state outcome held.files (counters_of held) (counters_of left)
  pub is : cluster.Happened (group_kit 3) setup outcome new before after
  pub count : left.tally.armed ≡ outcome.state.peers.armed
  pub files : cluster.LeavesFiles setup outcome.state held.files left.files

-- so it was over each good state that they stood for
abbrev pub Plays : TrioLine → Cluster (Group 3) → Cluster (Group 3) → List (List ℕ) → List (List ℕ) → DiskSeen → DiskSeen → Type 0
Plays next old new before after held left =
    (setup : Setup) (state : State Peers) → cluster.IsGood (group_kit 3) setup state → cluster.Shows (group_kit 3) setup state old
    → held.tally.armed ≡ state.peers.armed → TellsFiles setup state held.files → Played setup state next new before after held left

-- what a line that was not done left of them
abbrev pub Breaks :
    DiskAnswer → TrioLine → Cluster (Group 3) → Cluster (Group 3) → List (List ℕ) → List (List ℕ) → DiskSeen → DiskSeen → Type 0
Breaks answer next old new before after held left = BreaksOff (group_kit 3) group_script answer (group_line next) old new before after held left

-- what a line led to, or left that was not done, by the parts that the world was and is made of
abbrev pub PlaysWhole : TrioLine → TrioWorld → TrioWorld → List (List ℕ) → List (List ℕ) → DiskSeen → DiskSeen → Type 0
PlaysWhole next old new before after held left =
    (parts : Cluster (Group 3)) × (new ≡ whole_of parts) × Plays next (parts_of (acting_in old) old) parts before after held left

abbrev pub BreaksWhole : DiskAnswer → TrioLine → TrioWorld → TrioWorld → List (List ℕ) → List (List ℕ) → DiskSeen → DiskSeen → Type 0
BreaksWhole answer next old new before after held left =
    (parts : Cluster (Group 3)) × (new ≡ whole_of parts) × Breaks answer next (parts_of (acting_in old) old) parts before after held left
