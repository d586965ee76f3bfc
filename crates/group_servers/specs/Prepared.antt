-- Words of bodies alone: a crash of the active server, on the parts of the cluster.
use Rattle.std.specs.Prelude.{◌≡◌, ℕ, ◌≤◌, Bool, List, ◌++◌, length, Result}
use Rattle.std.specs.List.{list_any}
use Rattle.std.specs.Option.{option_to_list}
use Rattle.disk_model.specs.Seen.{DiskSeen}
use Rattle.disk_model.specs.declared.answers.DiskAnswer.{DiskAnswer}
use Rattle.mirror.specs.Replicas.{down}
use Rattle.mirror.specs.Pairing.{alone}
use Rattle.cluster_rounds.specs.declared.cluster.Cluster.{Cluster}
use Rattle.group_servers.specs.declared.group.Group.{Group}
use Rattle.group_servers.specs.Caught.{CatchesIf, PutsCaught, taken_if}
use Rattle.group_servers.specs.Falls.{TakesOver}
use Rattle.group_servers.specs.Lines.{takers, joiners, end_lines}
use Rattle.group_servers.specs.Seats.{catches, is_fresh}

-- the cluster with these servers
abbrev pub with_servers : {n : ℕ} → Cluster (Group n) → Group n → Cluster (Group n)
with_servers world servers = record world { servers = servers }

-- room is there for an entry, all standbys have the entry in hand where one has it, and its line is put; and then those of all ends
pub record Prepares {n : ℕ} (catching fresh : Bool) (base : ℕ) (old new : Cluster (Group n)) (before after : List (List ℕ)) : Type 0 where
  pub catching_is : catching ≡ catches old.servers.seats
  pub caught : CatchesIf catching old.servers.seats new.servers.seats
  pub fresh_is : fresh ≡ list_any is_fresh new.servers.seats
  pub room : 1 ≤ new.history.spare
  pub entries : new.history.entries ≡ old.history.entries
  pub rest : new ≡ record old { servers = record old.servers { seats = new.servers.seats }; history = new.history }
  pub front : List (List ℕ)
  pub puts : PutsCaught catching old.servers.active (length old.history.entries) before front
  pub counted : length front ≡ base
  pub lines : after ≡ front ++ end_lines new.servers.acting (takers fresh new.servers.seats) (joiners new.servers.seats)

-- the active server is down
abbrev pub fell : {n : ℕ} → Group n → Group n
fell servers = record servers { active = alone down }

-- standbys tried to take over; the entry that waited is committed, if all of them have it
pub record Falls {n : ℕ} (catching fresh : Bool) (result : Result (Unit {0}) DiskAnswer) (old new : Cluster (Group n)) (before after : List (List ℕ))
    (held left : DiskSeen) : Type 0 where
  pub ends : TakesOver fresh result (fell old.servers) new.servers before after held left
  pub entries : new.history.entries ≡ option_to_list (taken_if catching old.servers.active.waits) ++ old.history.entries
  pub rest : new ≡ record old { servers = new.servers; history = new.history }
