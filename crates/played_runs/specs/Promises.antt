-- Words of public clauses: what is promised at the end of each line that is played, each sentence by itself.
use Rattle.std.specs.Prelude.{◌≡◌, ℕ, List, [], ◌∷◌, Option, Some}
use Rattle.disk_model.specs.Counts.{Counters}
use Rattle.disk_model.specs.Disk.{Files}
use Rattle.script_lines.specs.declared.line.Line.{Line}
use Rattle.script_lines.specs.declared.line.Line.TheVariants as line
use Rattle.plain_service.specs.Setups.{Setup}
use Rattle.plain_service.specs.Records.{StoredRecord, record_of, place_of}
use Rattle.cluster_facts.specs.World.{World}
use Rattle.cluster_events.specs.Lines.{Told}
use Rattle.cluster_events.specs.Servers.{State}
use Rattle.cluster_events.specs.Filing.{FilesStand, RecordsStay}
use Rattle.cluster_events.specs.Outcomes.{Outcome}
use Rattle.cluster_events.specs.OnDisk.{StepOnDisk}
use Rattle.cluster_facts.specs.Storage.{Disk, Storage}
use Rattle.cluster_events.specs.Runs.{AtEachEnd, RunBy, StepBy}
use Rattle.cluster_events.specs.Runs.RunBy.{Started, Went}
use Rattle.cluster_events.specs.Promises.{OneHistory, InOrder, PostsPrinted, RepliesRight, ReadersRight, CallbacksPrinted, ItemsInOrder, RepliesCalledBack}
use Rattle.cluster_events.specs.Settled.{IsSettled}
use Rattle.service_laws.specs.Disks.{service_disk}
use Rattle.service_laws.specs.PlainOf.{plain_of}
use Rattle.service_laws.specs.StorageOf.{storage_of}
use Rattle.cluster_rounds.specs.Timely.{AreTimely, IsTimelyIn}
use Rattle.played_runs.specs.Games.{Game}
use Rattle.played_runs.specs.Playing.{PlaysFront}

-- what is said of the lines played so far, the last first, of the world where they led, of what they told and of the files
abbrev pub Sentence : Type 0 → Type 1
Sentence L = List L → World → List Told → Files → Type 0

-- what is said of one line: what the disk counted before it, what was told before it, where it was played, what it led to, and what the
-- disk counted after it
abbrev pub LineSentence : Type 0 → Type 0 → Type 1
LineSentence L P = Counters → L → List Told → State P → Outcome (State P) → Counters → Type 0

-- it is so of each line of a run
abbrev pub OfEachLine :
    {L P : Type 0} {Step : StepBy Counters L P} {disk : Disk} {storage : Storage disk} (Q : LineSentence L P) {start : State P} {first : disk.Files × Counters}
    {lines : List L} {state : State P} {told : List Told} {left : disk.Files × Counters}
    → RunBy (StepOnDisk Step disk storage) start first lines state told left → Type 0
OfEachLine Q Started = Unit {0}
OfEachLine Q (Went {state = state} {told = told} {before = before} next outcome after run step) =
    Q before.1 next told state outcome after.1 × OfEachLine Q run

module _ {P L S W : Type 0} (game : Game P L S W) where
  -- it is so at each end, however far a script was played on a disk that told these files before
  abbrev pub Throughout : (held : Option Files) (Q : Setup → Sentence L) → Type 0
  Throughout held Q =
      (first : Counters) (script done rest : List L) (text : List ℕ) (front : (PlaysFront game) held first script done rest text)
      → AtEachEnd (λ (lines : List L) (state : State P) (told : List Told) (left : Files × Counters). Q front.setup lines state.world told left.0)
      front.goes.run

  -- it is so of each line by its setup, however far a script was played on a disk that told these files before
  abbrev pub OfAllLinesOf : (held : Option Files) (Q : Setup → LineSentence L P) → Type 0
  OfAllLinesOf held Q =
      (first : Counters) (script done rest : List L) (text : List ℕ) (front : (PlaysFront game) held first script done rest text)
      → OfEachLine (Q front.setup) front.goes.run

  -- whatever the setup
  abbrev pub OfAllLines : (held : Option Files) (Q : LineSentence L P) → Type 0
  OfAllLines held Q = OfAllLinesOf held (λ setup. Q)

-- one history: it is legal, its entries are those of the `acc` lines, in order, and each client's calls stand in it in their order
abbrev pub KeepsOneHistory : {L : Type 0} → Setup → Sentence L
KeepsOneHistory setup lines world told files = OneHistory (plain_of setup) world told × InOrder world

-- each `reply` line tells the plain service's answer on the history, and each call has at most one
abbrev pub RepliesRightly : {L : Type 0} → Setup → Sentence L
RepliesRightly setup lines world told files = RepliesRight (plain_of setup) world told

-- what a reader reads is the plain service's answer on the history
abbrev pub ReadsRightly : {L : Type 0} → Setup → Sentence L
ReadsRightly setup lines world told files = ReadersRight (plain_of setup) world told

-- of each subscription a client got its first items, in order, each once; of replies it got, in order, the callbacks that they give by
-- the marks seen before each; the `callback` lines are the callbacks handed out, each once, by number
abbrev pub CallsBack : {L : Type 0} → Setup → Sentence L
CallsBack setup lines world told files =
    ItemsInOrder (plain_of setup) world × RepliesCalledBack world told × CallbacksPrinted world told

-- the `post` lines are the byte strings of the net, in order
abbrev pub PrintsPosts : {L : Type 0} → Setup → Sentence L
PrintsPosts setup lines world told files = PostsPrinted world told

-- the files are those of the history, without the entry in hand where there is one
abbrev pub KeepsFiles : {L : Type 0} → Setup → Sentence L
KeepsFiles setup lines world told files = FilesStand service_disk (storage_of setup) world files

-- what was answered as stored stands at its place with its bytes, until wrap or rotation gives the place away
abbrev pub KeepsRecords : {L : Type 0} → Setup → Sentence L
KeepsRecords setup lines world told files = RecordsStay (plain_of setup) service_disk (storage_of setup) world files

-- no two calls have a record at one place
abbrev pub StandsOnce : {L : Type 0} → Setup → Sentence L
StandsOnce setup lines world told files =
    let past = world.core.answered in
    (client number other_client other_number : ℕ) (stored other : StoredRecord) (spot : List ℕ × ℕ)
    → record_of setup past client number ≡ Some stored
    → record_of setup past other_client other_number ≡ Some other → place_of setup past stored ≡ Some spot → place_of setup past other ≡ Some spot
    → (client ≡ other_client) × (number ≡ other_number)

-- after `settle` every call is in the history and answered, and no item is held, but for those whose client's queue is full
abbrev pub IsSettledBy : Setup → Option Line → World → Type 0
IsSettledBy setup (Some line.Settle) world = IsSettled (plain_of setup) world
IsSettledBy setup _ world = Unit {0}

abbrev pub IsSettledAfter : {L : Type 0} → (shared : L → Option Line) → Setup → List L → World → Type 0
IsSettledAfter shared setup [] world = Unit {0}
IsSettledAfter shared setup (next ∷ lines) world = IsSettledBy setup (shared next) world

abbrev pub SettlesAll : {L : Type 0} → (shared : L → Option Line) → Setup → Sentence L
SettlesAll shared setup lines world told files = IsSettledAfter shared setup lines world

-- an entry is of the time that is in force as it is accepted: so is each one that a line commits, and one that waits for other
-- servers behind the line
abbrev pub CommitsInTime : {L P : Type 0} → LineSentence L P
CommitsInTime before next told state outcome after =
    AreTimely state.world outcome.told × IsTimelyIn state.world outcome.state.world.core.hand
