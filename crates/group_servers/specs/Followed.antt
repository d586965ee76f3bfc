-- Words of laws: standbys that have the history that goes on, and the files as they take over.
use Rattle.std.specs.Prelude.{◌≡◌, ℕ, Bool, Option, Some, None, if◌then◌else◌, List, []}
use Rattle.disk_model.specs.Disk.{Files}
use Rattle.disk_model.specs.DeviceCalls.{DeviceCall}
use Rattle.stream_layout.specs.Deeds.{calls_of_all}
use Rattle.plain_service.specs.Setups.{Setup, CanBegin}
use Rattle.service_laws.specs.PlainOf.{plain_of}
use Rattle.service_laws.specs.Disks.{service_disk}
use Rattle.service_laws.specs.StorageOf.{storage_of}
use Rattle.cluster_facts.specs.Types.{Entry}
use Rattle.cluster_facts.specs.Ranges.{AreInRange}
use Rattle.cluster_facts.specs.History.{Hand, accepted, committed_by}
use Rattle.cluster_events.specs.Serving.{IsSteady}
use Rattle.cluster_events.specs.Servers.{State}
use Rattle.group_cluster.specs.Seats.{Stance, Standby, Peers, IsGroup}
use Rattle.group_files.specs.Takeovers.{FilesLeft}
use Rattle.group_servers.specs.GroupNodes.{history_by, last_deeds}

-- each standby has the history that goes on
abbrev pub Follows : List Entry → Hand → Stance → Type 0
Follows past hand (Standby on_way mark keeps) = history_by past hand mark ≡ committed_by past hand
Follows past hand _ = Unit {0}

-- the calls of those that may take over: those that keep no deeds make none
abbrev pub row_calls : Setup → (fresh : Bool) → List Entry → List DeviceCall
row_calls setup fresh history = calls_of_all (if fresh then [] else last_deeds setup history)

-- what the active server leaves of the files as it goes down
abbrev pub GoesOnFrom : Setup → State Peers → Option Files → Option Files → Type 0
GoesOnFrom setup state None left = left ≡ None
GoesOnFrom setup state (Some held) left =
    (files : Files) × (left ≡ Some files) × FilesLeft service_disk (storage_of setup) state.world.core.answered state.world.core.hand files

-- what holds of a state at all times, of it what is asked here
pub record IsGoodGroup (size : ℕ) (setup : Setup) (state : State Peers) : Type 0 where
  pub begins : CanBegin setup
  pub steady : IsSteady (plain_of setup) (IsGroup size) state
  pub range : AreInRange (accepted state.world.core)
