-- Words of bodies alone: what each line of a script does, by the functions that do it.
use Rattle.std.specs.Prelude.{◌≡◌, ℕ, Option, Some, None, IfSome, List, ◌++◌}
use Rattle.disk_model.specs.Disk.{Files}
use Rattle.script_lines.specs.declared.line.Line.{Line}
use Rattle.plain_service.specs.Setups.{Setup}
use Rattle.service_laws.specs.PlainOf.{plain_of}
use Rattle.cluster_events.specs.Outcomes.{Outcome}
use Rattle.cluster_events.specs.Servers.{State}
use Rattle.cluster_events.specs.Events.{deliver}
use Rattle.cluster_events.specs.Running.{Shelf, Happens, list_files, show_file}
use Rattle.event_text.specs.Texts.{file_text_lines, shown_lines}
use Rattle.cluster_rounds.specs.declared.cluster.Cluster.{Cluster}
use Rattle.cluster_rounds.specs.Kits.{Kit, calm_servers}
use Rattle.cluster_rounds.specs.Resting.{Rests}
use Rattle.cluster_rounds.specs.Worlds.{Does, Event, Happened, IsGood, Shows}
use Rattle.cluster_lines.specs.Shelves.{shelf_at}
use Rattle.cluster_lines.specs.Showing.{refused}

module _ {Peers Group : Type 0} (kit : Kit Peers Group) where
  abbrev pub deliver_at : ℕ → Event kit
  deliver_at place setup state = deliver (plain_of setup) (calm_servers kit setup) place state

  -- what happened by a line that leaves the disk alone: whatever the shelf; the answered entries and what the servers keep are as
  -- they were, but for an entry that was accepted
  pub record PlayedAlone (setup : Setup) (state : State Peers) (next : Line) (new : Cluster Group) (before after : List (List ℕ)) : Type 0 where
    pub outcome : Outcome (State Peers)
    pub happens : (shelf : Shelf) → Happens (plain_of setup) shelf (calm_servers kit setup) next state outcome
    pub is : Happened kit setup outcome new before after
    pub rests : Rests (calm_servers kit setup) state outcome.state
    pub armed : (seen : kit.Seen) → kit.Armed state.peers seen → kit.Armed outcome.state.peers seen
    pub tells : (seen : kit.Seen) → kit.Tells setup state seen → kit.Tells setup outcome.state seen

  abbrev pub PlaysAlone : Line → Cluster Group → Cluster Group → List (List ℕ) → List (List ℕ) → Type 0
  PlaysAlone next old new before after =
      (setup : Setup) (state : State Peers) → IsGood kit setup state → Shows kit setup state old → PlayedAlone setup state next new before after

  -- the files, and the lines of one of them
  abbrev pub files_listed : Setup → Shelf → State Peers → Outcome (State Peers)
  files_listed setup shelf state = list_files shelf state

  abbrev pub file_shown : List ℕ → Setup → Shelf → State Peers → Outcome (State Peers)
  file_shown name setup shelf state = show_file shelf (calm_servers kit setup) name state

  -- something was shown of files: of those that the disk tells, or of any where it tells none
  abbrev pub ShowsOn : (Setup → Shelf → State Peers → Outcome (State Peers)) → Cluster Group → List (List ℕ) → List (List ℕ) → Option Files → Type 0
  ShowsOn event world before after held =
      (setup : Setup) (state : State Peers) → IsGood kit setup state → Shows kit setup state world → (shelf : Shelf)
      × IfSome held (λ files. shelf ≡ shelf_at files) × Happened kit setup (event setup shelf state) world before after

  -- what is told of the bytes that were read of a file
  abbrev pub TellsRead : Line → Option (List ℕ) → Cluster Group → List (List ℕ) → List (List ℕ) → Type 0
  TellsRead next (Some bytes) world before after = after ≡ before ++ shown_lines (file_text_lines bytes)
  TellsRead next None world before after = Does kit (refused kit next) world world before after
