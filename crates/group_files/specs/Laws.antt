-- Words of public clauses: what holds of the files of servers, whatever is crashed, armed, restarted or fails.
use Rattle.std.specs.Prelude.{◌≡◌, ℕ, ℤ, true, false, List, []}
use Rattle.std.specs.List.{AllByRecursion}
use Rattle.script_lines.specs.declared.line.Line.{Line}
use Rattle.script_lines.specs.declared.line.Server.{Server}
use Rattle.plain_service.specs.Setups.{Setup, CanBegin}
use Rattle.service_laws.specs.Disks.{service_disk}
use Rattle.service_laws.specs.PlainOf.{plain_of}
use Rattle.service_laws.specs.StorageOf.{storage_of}
use Rattle.cluster_facts.specs.Types.{Entry}
use Rattle.cluster_facts.specs.Storage.{all_applied, Attempt, Between}
use Rattle.cluster_facts.specs.History.{Ready}
use Rattle.cluster_facts.specs.Ranges.{AreInRange}
use Rattle.cluster_events.specs.Lines.{Told}
use Rattle.cluster_events.specs.Servers.{State}
use Rattle.cluster_events.specs.Running.{Shelf}
use Rattle.cluster_events.specs.OnDisk.{RunOnBy}
use Rattle.cluster_events.specs.Filing.{FilesStand, RecordsStay}
use Rattle.group_cluster.specs.Seats.{Seat, Peers, IsGroup}
use Rattle.group_cluster.specs.Group.{group_start, CanStart}
use Rattle.group_cluster.specs.Running.{GroupStepBy}
use Rattle.group_files.specs.Takeovers.{last_deeds, FilesLeft, CanFall, left_history, has_fresh, IsFollowed, IsFresh}

-- wherever the files were left they lie between those of what goes on without its last entry and those with it
abbrev pub LeftBetween : Type 0
LeftBetween =
    (size : ℕ) (setup : Setup) → CanBegin setup → (state : State Peers) (files : service_disk.Files)
    → CanFall size (plain_of setup) service_disk (storage_of setup) state files
    → Between service_disk (storage_of setup) (left_history state) files

-- where some standby keeps no deeds, they are those of what goes on
abbrev pub FreshStands : Type 0
FreshStands =
    (size : ℕ) (setup : Setup) → CanBegin setup → (state : State Peers) (files : service_disk.Files)
    → CanFall size (plain_of setup) service_disk (storage_of setup) state files → has_fresh state ≡ true
    → files ≡ (storage_of setup).files (left_history state)

-- the last entry's deeds make them so from any files between (without an entry there are no such deeds, and the files are as they were
-- left), and a takeover that breaks off leaves files between
abbrev pub TakeoverMakesFiles : Type 0
TakeoverMakesFiles =
    (size : ℕ) (setup : Setup) → CanBegin setup → (state : State Peers) (files between : service_disk.Files)
    → CanFall size (plain_of setup) service_disk (storage_of setup) state files → has_fresh state ≡ false
    → Between service_disk (storage_of setup) (left_history state) between → (left_history state ≡ [] → between ≡ files)
    → all_applied service_disk (last_deeds service_disk (storage_of setup) (left_history state)) between
    ≡ (storage_of setup).files (left_history state)

abbrev pub TakeoverStaysBetween : Type 0
TakeoverStaysBetween =
    (setup : Setup) (history : List Entry) (files left : service_disk.Files) → Between service_disk (storage_of setup) history files
    → Attempt service_disk (last_deeds service_disk (storage_of setup) history) files left
    → Between service_disk (storage_of setup) history left

-- a work that stops or fails leaves such files as a standby can go on from
abbrev pub WorkLeavesFiles : Type 0
WorkLeavesFiles =
    (setup : Setup) (past : List Entry) (entry : Entry) (files left : service_disk.Files) → files ≡ (storage_of setup).files past
    → Attempt service_disk ((storage_of setup).deeds past entry) files left
    → FilesLeft service_disk (storage_of setup) past (Ready entry) left

-- each standby has applied the history, or the history and the waiting entry
abbrev pub StandbysFollow : Type 0
StandbysFollow =
    (size : ℕ) (state : State Peers) → IsGroup size state
    → AllByRecursion (λ (seat : Seat). IsFollowed state.world.core.answered state.world.core.hand seat.stance) state.peers.seats

-- one that keeps no deeds has applied the answered history, and the files are those of that history
abbrev pub FreshFollow : Type 0
FreshFollow =
    (size : ℕ) (setup : Setup) (state : State Peers) (files : service_disk.Files) → IsGroup size state
    → FilesLeft service_disk (storage_of setup) state.world.core.answered state.world.core.hand files
    → AllByRecursion
    (λ (seat : Seat). IsFresh service_disk (storage_of setup) state.world.core.answered state.world.core.hand files seat.stance)
    state.peers.seats

-- the files that a run leaves are those of the history without the entry in hand
abbrev pub GroupFilesStand : Type 0
GroupFilesStand =
    (size : ℕ) (setup : Setup) → CanBegin setup → (shelf : Shelf) (calls : List Entry → Entry → ℕ) (others : List Server)
    → CanStart size others
    → (now : ℤ) (places first : ℕ) (lines : List Line) (state : State Peers) (told : List Told) (mark : service_disk.Files × ℕ)
    → RunOnBy (GroupStepBy (plain_of setup) shelf calls) service_disk (storage_of setup) (group_start others now places) first
    lines state told mark
    → AreInRange state.world.core.answered → FilesStand service_disk (storage_of setup) state.world mark.0

-- and what was answered as stored stays at its place, until the service gives the place away
abbrev pub GroupRecordsStay : Type 0
GroupRecordsStay =
    (size : ℕ) (setup : Setup) → CanBegin setup → (shelf : Shelf) (calls : List Entry → Entry → ℕ) (others : List Server)
    → CanStart size others
    → (now : ℤ) (places first : ℕ) (lines : List Line) (state : State Peers) (told : List Told) (mark : service_disk.Files × ℕ)
    → RunOnBy (GroupStepBy (plain_of setup) shelf calls) service_disk (storage_of setup) (group_start others now places) first
    lines state told mark
    → AreInRange state.world.core.answered → RecordsStay (plain_of setup) service_disk (storage_of setup) state.world mark.0
