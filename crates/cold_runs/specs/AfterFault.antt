-- Words of public clauses: what is promised of one server and its journal where a disk's fault ended a run, and of what clients were fed where
-- memory ran out in one.
use Rattle.std.specs.Prelude.{◌⊎◌, ℕ, Bool, false, Some, IfSome, List, [], ◌∷◌, ◌++◌}
use Rattle.disk_model.specs.Disk.{Files}
use Rattle.script_lines.specs.declared.line.Line.{Line}
use Rattle.script_lines.specs.declared.line.Line.TheVariants as line
use Rattle.script_lines.specs.declared.line.Server.TheVariants.{A}
use Rattle.plain_service.specs.Legal.{IsHistory}
use Rattle.plain_service.specs.Setups.{Setup}
use Rattle.service_laws.specs.PlainOf.{plain_of}
use Rattle.service_laws.specs.Telling.{TellSends, callbacks_of}
use Rattle.journal_found.specs.Found.{FindsOrOneMore}
use Rattle.cluster_facts.specs.Types.{Entry}
use Rattle.cluster_facts.specs.Agents.{fed_of}
use Rattle.cluster_facts.specs.History.{Hand, Waiting, Ready, committed}
use Rattle.cluster_facts.specs.Messages.{messages_in}
use Rattle.cluster_facts.specs.World.{World}
use Rattle.cluster_events.specs.Lines.{Told}
use Rattle.cluster_events.specs.Promises.{AtEnd}
use Rattle.cluster_events.specs.Servers.{State}
use Rattle.cluster_rounds.specs.declared.cluster.Cluster.{Cluster}
use Rattle.cluster_rounds.specs.Timely.{AreTimely}
use Rattle.cold_cluster.specs.Cold.{Alone}
use Rattle.cold_servers.specs.declared.solo.Solo.{Solo}
use Rattle.cold_servers.specs.ColdSeen.{ColdSeen, TellsBoth}
use Rattle.cold_servers.specs.Down.{IsFound}
use Rattle.command_journal.specs.Playing.{EndedBy, LacksBy}
use Rattle.command_journal.specs.Worlds.{parts_of}
use Rattle.command_journal.specs.declared.world.ColdWorld.{ColdWorld}
use Rattle.played_runs.specs.AfterFault.{AnswersOnly, IsUnanswered, RecordsKept}
use Rattle.played_runs.specs.Telling.{TellsEach}
use Rattle.cold_runs.specs.Ends.{ColdFaultLeft, Showing, Ending}
use Rattle.cold_runs.specs.Playing.{ColdFront}
use Rattle.cold_runs.specs.Promises.{RecordsBy}

-- A disk's fault.

-- what a start finds in the journal is this history, or this and one more entry, which can follow it
abbrev pub FindsHistory : Setup → List Entry → Files → Type 0
FindsHistory setup past files =
    IsFound setup past (Some files) ⊎ ((entry : Entry) × IsHistory setup (entry ∷ past) × FindsOrOneMore setup entry past files)

-- The event of a line ended, and the server is down: history, replies, callbacks and posts are as at the end of a line, with all lines that
-- were told; what that line committed is of the time in force, or waited before it; and a start finds the history, where the journal's disk
-- tells its files.
pub record DownKeeps (setup : Setup) (old world : World) (line told : List Told) (left : ColdSeen) : Type 0 where
  pub promises : AtEnd (plain_of setup) world told
  pub times : AreTimely old line
  pub tells : TellsEach setup world
  pub answers : AnswersOnly setup world
  pub journal : IfSome left.journal.files (FindsHistory setup (committed world.core))

-- an entry waited for the journal, or was in work, and it is not answered
abbrev pub LeavesOpen : Hand → World → List Told → Type 0
LeavesOpen (Waiting entry) world told = IsUnanswered (entry ∷ world.core.answered) (messages_in world.net) told
LeavesOpen (Ready entry) world told = IsUnanswered (entry ∷ world.core.answered) (messages_in world.net) told
LeavesOpen _ world told = ⊥

-- So it did in the append of an entry, or in its work: the record disk, where it tells its files, keeps what was answered before the last
-- entry of the history, which has the one in work and not the one that waited.
pub record WorkKeeps (setup : Setup) (old world : World) (line told : List Told) (left : ColdSeen) : Type 0 where
  pub down : DownKeeps setup old world line told left
  pub unanswered : LeavesOpen world.core.hand world told
  pub records : IfSome left.disk.files (RecordsKept setup (committed world.core))

-- what was answered before the last entry of the history is kept; or, where one more entry was found, which can follow it, what was answered
-- before that one
abbrev pub RecordsFound : Setup → List Entry → Files → Type 0
RecordsFound setup past files =
    RecordsKept setup past files ⊎ ((entry : Entry) × IsHistory setup (entry ∷ past) × RecordsKept setup (entry ∷ past) files)

-- Or in a cold start, which did the deeds of the last entry again. That entry may be answered, though its own record may be unfinished.
pub record StartKeeps (setup : Setup) (old world : World) (line told : List Told) (left : ColdSeen) : Type 0 where
  pub down : DownKeeps setup old world line told left
  pub records : IfSome left.disk.files (RecordsFound setup (committed world.core))

abbrev pub EndKeepsBy :
    (up : Bool) (setup : Setup) (state : State Alone) (next : Line) (new : Cluster Solo) (lines : List (List ℕ)) (before : List Told)
    (held left : ColdSeen) → EndedBy up setup state next new [] lines held left → Type 0
EndKeepsBy false setup state (line.Restart A) new lines before held left ended =
    StartKeeps setup state.world ended.end.state.world ended.end.told (ended.end.told ++ before) left
EndKeepsBy up setup state next new lines before held left ended =
    WorkKeeps setup state.world ended.end.state.world ended.end.told (ended.end.told ++ before) left

-- The record disk had a fault as its files were shown: both disks hold what they held, and what was answered as stored stands as it did.
pub record ShowKeepsCold (setup : Setup) (state : State Alone) (left : ColdSeen) : Type 0 where
  pub holds : TellsBoth setup state left
  pub stays : IfSome left.disk.files (RecordsBy state.peers.up setup state.world)

-- by what the fault left behind these lines
abbrev pub FaultKeepsCold :
    (setup : Setup) (state : State Alone) (next : Line) (held left : ColdSeen) (world : ColdWorld) (lines : List ℕ) (before : List Told)
    → ColdFaultLeft setup state next held left world lines → Type 0
FaultKeepsCold setup state next held left world lines before (Showing shows_files shows fails none) = ShowKeepsCold setup state left
FaultKeepsCold setup state next held left world lines before (Ending shows_files told ended printed) =
    EndKeepsBy state.peers.up setup state next (parts_of world) told before held left ended

-- so it is behind each front of a script that was played on disks of which this was seen before, wherever a fault in the next line left the
-- world and the disks as they are now
abbrev pub KeepsColdAtFault : (held left : ColdSeen) (world : ColdWorld) → Type 0
KeepsColdAtFault held left world =
    (script done rest : List Line) (next : Line) (text lines : List ℕ) (front : ColdFront held script done (next ∷ rest) text)
    (fault : ColdFaultLeft front.setup front.state next front.seen left world lines)
    → FaultKeepsCold front.setup front.state next front.seen left world lines front.told fault

-- Want of memory.

-- of every subscription ever made, the callbacks that its client was fed, by the marks of their items, tell of the first ok sends for which
-- it asked while it lasted, each once and in order, and tell as lost the first of those that were dropped
abbrev pub TellsFed : Setup → World → ((client : ℕ) → List (ℕ × ℕ)) → Type 0
TellsFed setup world marks =
    (client key : ℕ)
    → TellSends setup world.core.answered client key (callbacks_of key (marks client) (fed_of (world.agents client)))

-- so it is of what the event left that broke off
abbrev pub TellsLacked :
    (up : Bool) (next : Line) (setup : Setup) (state : State Alone) (new : Cluster Solo) (held left : ColdSeen)
    → LacksBy up next setup state new held left → Type 0
TellsLacked false (line.Restart A) setup state new held left lacks = TellsFed setup lacks.0.rest (λ client. (lacks.0.fed client).marks)
TellsLacked up next setup state new held left lacks = TellsFed setup lacks.0.rest (λ client. (lacks.0.fed client).marks)

-- and so behind each front of a script, wherever want of memory in the next line left the world and the disks as they are now
abbrev pub TellsColdAtWant : (held left : ColdSeen) (world : ColdWorld) → Type 0
TellsColdAtWant held left world =
    (script done rest : List Line) (next : Line) (text : List ℕ) (front : ColdFront held script done (next ∷ rest) text)
    (lacks : LacksBy front.state.peers.up next front.setup front.state (parts_of world) front.seen left)
    → TellsLacked front.state.peers.up next front.setup front.state (parts_of world) front.seen left lacks
