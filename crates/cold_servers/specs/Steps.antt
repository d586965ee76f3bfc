-- Words of public clauses: what lines on the server and its disks come to.
use Rattle.std.specs.Prelude.{◌≡◌, ℕ, Bool, true, false, Some, None, List, Result}
use Rattle.disk_model.specs.declared.answers.DiskAnswer.{DiskAnswer}
use Rattle.script_lines.specs.declared.line.Line.{Line}
use Rattle.plain_service.specs.Setups.{Setup}
use Rattle.service_laws.specs.PlainOf.{plain_of}
use Rattle.cluster_facts.specs.World.{World}
use Rattle.cluster_events.specs.Servers.{State}
use Rattle.cluster_events.specs.Devices.{Device}
use Rattle.cluster_events.specs.Events.{refuse}
use Rattle.cluster_events.specs.Running.{Shelf}
use Rattle.mirror.specs.declared.heard.Role.{Role}
use Rattle.mirror.specs.declared.heard.Role.TheVariants.{Active}
use Rattle.cluster_rounds.specs.declared.cluster.Cluster.{Cluster}
use Rattle.cluster_rounds.specs.Counted.{Counted}
use Rattle.cluster_rounds.specs.Wild.{GoesWild, IsWild, WildOn, always}
use Rattle.cluster_rounds.specs.Worlds.{Event, HasStateOn, IsGood, Shows, any_state}
use Rattle.cluster_lines.specs.Own.{PlaysLine}
use Rattle.cold_cluster.specs.Cold.{Alone}
use Rattle.cold_cluster.specs.Falling.{armed_alone, fallen}
use Rattle.cold_cluster.specs.Lines.{HappensUp, alone}
use Rattle.cold_servers.specs.declared.solo.Solo.{Solo}
use Rattle.cold_servers.specs.ColdKit.{cold_kit, cold_script}
use Rattle.cold_servers.specs.ColdSeen.{ColdSeen}

abbrev pub is_active : Role → Bool
is_active Active = true
is_active _ = false

-- the server is up, or down, in each good state that the cluster stands for; of a cluster that stands for none this asks nothing
abbrev pub AllBy : Bool → Cluster Solo → Type 0
AllBy up world =
    (setup : Setup) (state : State Alone) → IsGood cold_kit setup state → Shows cold_kit setup state world → state.peers.up ≡ up

abbrev pub AllUp : Cluster Solo → Type 0
AllUp world = AllBy true world

abbrev pub AllDown : Cluster Solo → Type 0
AllDown world = AllBy false world

-- and it is active, or not, also where the cluster stands for no state
pub record AreBy (up : Bool) (world : Cluster Solo) : Type 0 where
  pub role : is_active world.servers.lone.node.replica.role ≡ up
  pub states : AllBy up world

abbrev pub AreUp : Cluster Solo → Type 0
AreUp world = AreBy true world

abbrev pub AreDown : Cluster Solo → Type 0
AreDown world = AreBy false world

-- the line is one that is refused while the server is up, in each such state
abbrev pub IsRefusedUp : Line → Cluster Solo → Type 0
IsRefusedUp next world =
    (setup : Setup) (state : State Alone) → IsGood cold_kit setup state → Shows cold_kit setup state world → (shelf : Shelf) (device : Device)
    → HappensUp (plain_of setup) shelf device next state (refuse (alone (plain_of setup) device) next state)

-- where the cluster may stand for no state it can go on behind this
abbrev pub StaysWild : Cluster Solo → Cluster Solo → ColdSeen → ColdSeen → Type 0
StaysWild old new held left = (seen : World) → IsWild cold_kit seen old held → WildOn cold_kit seen new left

-- all that a line came to while the server is up: over a state, where the cluster may stand for none, and the disks' counts
pub record PlaysUp {T : Type 0} (result : Result T DiskAnswer) (next : Line) (old new : Cluster Solo) (before after : List (List ℕ))
    (held left : ColdSeen) : Type 0 where
  pub states : HasStateOn cold_kit any_state old held → PlaysLine cold_kit cold_script result next old new before after held left
  pub wild : GoesWild cold_kit always result old new held left
  pub counts : Counted cold_kit held left result

abbrev pub fell : Event cold_kit
fell setup state = fallen state

abbrev pub disarmed_both : Event cold_kit
disarmed_both setup state = armed_alone None None state

-- the record disk is armed, or the journal's
abbrev pub disk_armed : ℕ → Event cold_kit
disk_armed count setup state = armed_alone (Some count) state.peers.beside state

abbrev pub journal_armed : ℕ → Event cold_kit
journal_armed count setup state = armed_alone state.peers.armed (Some count) state
