-- Words of public clauses: what is promised where a fault of the disk ended a run.
use Rattle.std.specs.Prelude.{◌≡◌, ℕ, Bool, true, false, List, [], ◌∷◌, ◌++◌, Option, Some, IfSome}
use Rattle.disk_model.specs.Counts.{Counters}
use Rattle.disk_model.specs.Disk.{Files}
use Rattle.disk_model.specs.Seen.{DiskSeen}
use Rattle.plain_service.specs.Setups.{Setup}
use Rattle.plain_service.specs.Records.{StoredRecord, record_of, place_of, is_stored}
use Rattle.cluster_facts.specs.Types.{Call, Reply, Entry, Called, Message, Answer}
use Rattle.cluster_facts.specs.Lists.{Stands}
use Rattle.cluster_facts.specs.Messages.{messages_in}
use Rattle.cluster_facts.specs.Storage.{dealt_in}
use Rattle.cluster_facts.specs.World.{World}
use Rattle.cluster_events.specs.Lines.{Told}
use Rattle.cluster_events.specs.Saying.{replies_told}
use Rattle.cluster_events.specs.Filing.{FilesStand, IsKept, RecordsStay}
use Rattle.cluster_events.specs.Promises.{AtEnd}
use Rattle.cluster_events.specs.Servers.{State}
use Rattle.cluster_rounds.specs.Timely.{AreTimely}
use Rattle.service_laws.specs.Disks.{service_disk}
use Rattle.service_laws.specs.PlainOf.{plain_of}
use Rattle.service_laws.specs.StorageOf.{storage_of}
use Rattle.played_runs.specs.Ends.{FaultLeft, Showing, Ending}
use Rattle.played_runs.specs.Games.{Game}
use Rattle.played_runs.specs.Playing.{PlaysFront, seen_behind}
use Rattle.played_runs.specs.Telling.{TellsEach}

-- a record that has a place before the last entry stands there with its bytes, or at its place after that entry, unless the entry leaves it
-- none
abbrev pub KeptAtPlace : Setup → List Entry → Entry → StoredRecord → Files → Type 0
KeptAtPlace setup past entry stored files =
    (spot : List ℕ × ℕ) → place_of setup past stored ≡ Some spot
    → IsKept service_disk (storage_of setup) (entry ∷ past) stored spot files

-- so does what was answered as stored before it
abbrev pub RecordsKept : Setup → List Entry → Files → Type 0
RecordsKept setup [] files = Unit {0}
RecordsKept setup (entry ∷ past) files =
    (client number : ℕ) (call : Call) (reply : Reply) → Stands (number, call, reply) (dealt_in (plain_of setup) client past)
    → is_stored call reply ≡ true → (stored : StoredRecord) × (record_of setup past client number ≡ Some stored)
    × KeptAtPlace setup past entry stored files

-- each reply of the net is the plain service's to an entry of the history
abbrev pub AnswersOnly : Setup → World → Type 0
AnswersOnly setup world =
    (client number : ℕ) (reply : Reply) → Stands (Answer client number reply) (messages_in world.net) → (call : Call)
    × Stands (number, call, reply) (dealt_in (plain_of setup) client world.core.answered)

-- none of these messages is a reply to the last entry, and no `reply` line of it was printed
abbrev pub IsUnanswered : List Entry → List Message → List Told → Type 0
IsUnanswered (Called client number time call ∷ past) messages told =
    (reply : Reply) → ¬ Stands (Answer client number reply) messages × ¬ Stands (number, reply) (replies_told client told)
IsUnanswered _ messages told = Unit {0}

-- where the fault came in an entry's work, or in the takeover behind it, that entry is the last one. Where it came in the takeover behind a
-- crash, the last entry may be answered, though its own record may be unfinished
abbrev pub LeavesUnanswered : (crashes : Bool) → World → List Told → Type 0
LeavesUnanswered true world told = Unit {0}
LeavesUnanswered false world told = IsUnanswered world.core.answered (messages_in world.net) told

-- the disk had a fault that left no server active: history, replies, callbacks and posts are as at the end of a line, with all lines
-- that were told; what was committed in the line that the fault ended is of the time in force, or waited before that line; and the disk,
-- where it tells its files, keeps what was answered before the last entry
pub record EndKeeps (setup : Setup) (crashes : Bool) (old world : World) (line told : List Told) (left : Option Files) : Type 0 where
  pub promises : AtEnd (plain_of setup) world told
  pub times : AreTimely old line
  pub tells : TellsEach setup world
  pub answers : AnswersOnly setup world
  pub unanswered : LeavesUnanswered crashes world told
  pub records : IfSome left (λ files. RecordsKept setup world.core.answered files)

-- the disk had a fault as its files were shown: where it tells them, they are those of the history, and what was answered as
-- stored stands
pub record ShowKeeps (setup : Setup) (world : World) (left : Option Files) : Type 0 where
  pub stand : IfSome left (λ files. FilesStand service_disk (storage_of setup) world files)
  pub stays : IfSome left (λ files. RecordsStay (plain_of setup) service_disk (storage_of setup) world files)

module _ {P L S W : Type 0} (game : Game P L S W) where
  -- by what the fault left behind these lines
  abbrev pub FaultKeeps :
      (setup : Setup) (state : State P) (next : L) (held left : DiskSeen) (world : W) (lines : List ℕ) (before : List Told)
      → FaultLeft game setup state next held left world lines → Type 0
  FaultKeeps setup state next held left world lines before (Showing shows_files shows read rose none) =
      ShowKeeps setup state.world left.files
  FaultKeeps setup state next held left world lines before (Ending told ended printed) =
      EndKeeps setup (game.crashes next) state.world (game.end setup state next told held left world ended).state.world told (told ++ before)
      left.files

  -- so it is behind each front of a script that was played on a disk that told these files before, wherever a fault in the next line
  -- left the world and the disk as they are now
  abbrev pub KeepsAtFault : (held : Option Files) (left : DiskSeen) (world : W) → Type 0
  KeepsAtFault held left world =
      (first : Counters) (script done rest : List L) (next : L) (text lines : List ℕ)
      (front : (PlaysFront game) held first script done (next ∷ rest) text)
      (fault : FaultLeft game front.setup front.goes.state next ((seen_behind game) front.goes) left world lines)
      → FaultKeeps front.setup front.goes.state next ((seen_behind game) front.goes) left world lines front.goes.told fault
