-- Words of public clauses: what is promised at the end of each line that is played on one server and its journal, each sentence by itself.
use Rattle.std.specs.Prelude.{◌≡◌, ◌⊎◌, ℕ, Bool, true, false, Some, None, IfSome, List, ◌∷◌}
use Rattle.disk_model.specs.Disk.{Files}
use Rattle.script_lines.specs.declared.line.Line.{Line}
use Rattle.script_lines.specs.declared.line.Line.TheVariants as line
use Rattle.script_lines.specs.declared.line.Server.TheVariants.{A}
use Rattle.plain_service.specs.Setups.{Setup}
use Rattle.plain_service.specs.Storing.{files_of}
use Rattle.service_laws.specs.Disks.{service_disk}
use Rattle.service_laws.specs.PlainOf.{plain_of}
use Rattle.service_laws.specs.StorageOf.{storage_of}
use Rattle.journal_found.specs.Found.{JournalOf}
use Rattle.cluster_facts.specs.Types.{Call, Reply, Entry, Answer}
use Rattle.cluster_facts.specs.Lists.{Stands}
use Rattle.cluster_facts.specs.History.{Hand, Empty, Waiting, Applied, Ready, committed}
use Rattle.cluster_facts.specs.Messages.{messages_in}
use Rattle.cluster_facts.specs.Storage.{dealt_in}
use Rattle.cluster_facts.specs.World.{World}
use Rattle.cluster_events.specs.Ending.{is_crash}
use Rattle.cluster_events.specs.Filing.{RecordsStay}
use Rattle.cluster_events.specs.Lines.{Told}
use Rattle.cluster_events.specs.Outcomes.{Outcome}
use Rattle.cluster_events.specs.Runs.{AtEachEnd, RunBy}
use Rattle.cluster_events.specs.Runs.RunBy.{Started, Went}
use Rattle.cluster_events.specs.Servers.{State}
use Rattle.cluster_events.specs.Settled.{IsSettled}
use Rattle.cold_cluster.specs.Cold.{Alone}
use Rattle.cold_servers.specs.ColdSeen.{ColdSeen}
use Rattle.cold_servers.specs.Down.{IsFound}
use Rattle.played_runs.specs.AfterFault.{RecordsKept}
use Rattle.played_runs.specs.Promises.{LineSentence, Sentence}
use Rattle.played_runs.specs.Refusing.{DeclinesRightly}
use Rattle.played_runs.specs.Views.{counters_of}
use Rattle.cold_runs.specs.Playing.{ColdFront, StepsCold}

-- what is said of the lines so far, the last first, of where they led, of what they told and of both disks
abbrev pub ColdSentence : Type 1
ColdSentence = List Line → State Alone → List Told → ColdSeen → Type 0

-- what is said of one line: both disks before it, what was told before it, where it was played, what it led to, and both disks after it
abbrev pub ColdLineSentence : Type 1
ColdLineSentence = ColdSeen → Line → List Told → State Alone → Outcome (State Alone) → ColdSeen → Type 0

-- it is so of each line of a run
abbrev pub OfEachLine :
    {setup : Setup} (Q : ColdLineSentence) {start : State Alone} {first : ColdSeen} {lines : List Line} {state : State Alone} {told : List Told}
    {left : ColdSeen} → RunBy (StepsCold setup) start first lines state told left → Type 0
OfEachLine Q Started = Unit {0}
OfEachLine {setup = setup} Q (Went {state = state} {told = told} {before = before} next outcome after run step) =
    Q before next told state outcome after × OfEachLine {setup = setup} Q run

-- it is so at each end, however far a script was played on disks of which this was seen before
abbrev pub ThroughoutCold : (held : ColdSeen) (Q : Setup → ColdSentence) → Type 0
ThroughoutCold held Q =
    (script done rest : List Line) (text : List ℕ) (front : ColdFront held script done rest text)
    → AtEachEnd (λ (lines : List Line) (state : State Alone) (told : List Told) (seen : ColdSeen). Q front.setup lines state told seen) front.run

abbrev pub OfAllColdLines : (held : ColdSeen) (Q : Setup → ColdLineSentence) → Type 0
OfAllColdLines held Q =
    (script done rest : List Line) (text : List ℕ) (front : ColdFront held script done rest text)
    → OfEachLine {setup = front.setup} (Q front.setup) front.run

-- The sentences that are said of every world: one history, replies, readers, callbacks, posts, places, each item once; and of lines: what an
-- agent declines, and the time of entries. None of them asks a disk.

abbrev pub OfWorld : (Setup → Sentence Line) → Setup → ColdSentence
OfWorld Q setup lines state told seen = (files : Files) → Q setup lines state.world told files

abbrev pub OfLine : LineSentence Line Alone → Setup → ColdLineSentence
OfLine Q setup before next told state outcome after = Q (counters_of before.disk) next told state outcome (counters_of after.disk)

abbrev pub DeclinesCold : Setup → ColdLineSentence
DeclinesCold = OfLine (DeclinesRightly (λ next. Some next))

-- What was answered as stored stands: while the server is up, at its place by the history; while it is down by that or by the history
-- without its last entry, unless the entry gives the place away or removes its file.

abbrev pub RecordsDown : Setup → Hand → World → Files → Type 0
RecordsDown setup (Applied entry) world files = RecordsKept setup (entry ∷ world.core.answered) files
RecordsDown setup (Ready entry) world files = RecordsKept setup (entry ∷ world.core.answered) files
RecordsDown setup hand world files = RecordsStay (plain_of setup) service_disk (storage_of setup) world files

abbrev pub RecordsBy : Bool → Setup → World → Files → Type 0
RecordsBy true setup world files = RecordsStay (plain_of setup) service_disk (storage_of setup) world files
RecordsBy false setup world files = RecordsDown setup world.core.hand world files

abbrev pub KeepsRecordsCold : Setup → ColdSentence
KeepsRecordsCold setup lines state told seen = IfSome seen.disk.files (RecordsBy state.peers.up setup state.world)

-- while the server is up and nothing is in hand, the record files are those of the history, and the journal is that of the history
abbrev pub JournalStands : Setup → ColdSentence
JournalStands setup lines state told seen =
    state.peers.up ≡ true → state.world.core.hand ≡ Empty
    → IfSome seen.disk.files (λ files. files ≡ files_of setup state.world.core.answered)
    × IfSome seen.journal.files (JournalOf setup state.world.core.answered)

-- behind a `settle` that leaves the server up every call is in the history and answered, and no item is held, but for those whose client's
-- queue is full: a `settle` that is refused leaves it down
abbrev pub SettlesCold : Setup → ColdSentence
SettlesCold setup (line.Settle ∷ lines) state told seen = state.peers.up ≡ true → IsSettled (plain_of setup) state.world
SettlesCold setup lines state told seen = Unit {0}

-- The server came back: its history is what the journal held, and has each entry whose reply stands in the net; it is what was committed
-- before, or that and the entry that waited.
pub record ComesBack (setup : Setup) (before : ColdSeen) (state : State Alone) (outcome : Outcome (State Alone)) : Type 0 where
  pub up : outcome.state.peers.up ≡ true
  pub found : IsFound setup (committed outcome.state.world.core) before.journal.files
  pub answered : (client number : ℕ) (reply : Reply) → Stands (Answer client number reply) (messages_in outcome.state.world.net)
      → (call : Call) × Stands (number, call, reply) (dealt_in (plain_of setup) client (committed outcome.state.world.core))
  pub grown : (committed outcome.state.world.core ≡ committed state.world.core)
      ⊎ ((entry : Entry) × (state.world.core.hand ≡ Waiting entry)
      × (committed outcome.state.world.core ≡ entry ∷ committed state.world.core))

abbrev pub FindsAllBy : Bool → Line → Setup → ColdSeen → State Alone → Outcome (State Alone) → Type 0
FindsAllBy false (line.Restart A) setup before state outcome = ComesBack setup before state outcome
FindsAllBy up next setup before state outcome = Unit {0}

abbrev pub FindsAll : Setup → ColdLineSentence
FindsAll setup before next told state outcome after = FindsAllBy state.peers.up next setup before state outcome

-- the server goes down only by `crash`, or in a line that begins with a disk armed
abbrev pub FallsCold : Setup → ColdLineSentence
FallsCold setup before next told state outcome after =
    is_crash next ≡ false → state.peers.up ≡ true → state.peers.armed ≡ None → state.peers.beside ≡ None → outcome.state.peers.up ≡ true
