-- Words of public clauses: lines that are played while the server is down, and the one by which it comes back.
use Rattle.std.specs.Prelude.{◌≡◌, ◌⊎◌, ℕ, Option, None, IfErr, IfSome, IsSome, List, ◌∷◌, OnOk, Result, Err}
use Rattle.disk_model.specs.Disk.{Files}
use Rattle.disk_model.specs.declared.answers.DiskAnswer.{DiskAnswer}
use Rattle.journal_start.specs.declared.cold.ColdAnswer.{ColdAnswer}
use Rattle.journal_start.specs.declared.cold.ColdAnswer.TheVariants.{Memory, Failed}
use Rattle.script_lines.specs.declared.line.Line.{Line}
use Rattle.script_lines.specs.declared.line.Line.TheVariants as line
use Rattle.script_lines.specs.declared.line.Server.TheVariants.{A}
use Rattle.plain_service.specs.Legal.{IsHistory}
use Rattle.plain_service.specs.Setups.{Setup}
use Rattle.service_laws.specs.Disks.{service_disk}
use Rattle.service_laws.specs.PlainOf.{plain_of}
use Rattle.service_laws.specs.StorageOf.{storage_of}
use Rattle.cluster_facts.specs.History.{committed}
use Rattle.cluster_facts.specs.Types.{Entry}
use Rattle.cluster_facts.specs.Storage.{Between}
use Rattle.cluster_events.specs.Outcomes.{Outcome}
use Rattle.cluster_events.specs.Servers.{State}
use Rattle.cluster_events.specs.Running.{Shelf}
use Rattle.cluster_rounds.specs.declared.cluster.Cluster.{Cluster}
use Rattle.cluster_rounds.specs.Broken.{Broken}
use Rattle.cluster_rounds.specs.Counted.{Counted}
use Rattle.cluster_rounds.specs.Kits.{Kit, device_by}
use Rattle.cluster_rounds.specs.Wild.{HasWild, always}
use Rattle.cluster_rounds.specs.Worlds.{Happened, HasStateOn, IsGood, Shows, any_state}
use Rattle.cluster_lines.specs.Playing.{BreaksOff, LineEnded}
use Rattle.cluster_lines.specs.Shelves.{shelf_at}
use Rattle.journal_frames.specs.Frames.{HasFile, IsShort, journal_name}
use Rattle.journal_frames.specs.Staging.{HasStaged}
use Rattle.journal_found.specs.Found.{Found, follower_of, messages_of, texts_of}
use Rattle.cold_cluster.specs.Cold.{Alone}
use Rattle.cold_cluster.specs.Lines.{ColdHappens}
use Rattle.cold_servers.specs.declared.solo.Solo.{Solo}
use Rattle.cold_servers.specs.ColdCounts.{Stood}
use Rattle.cold_servers.specs.ColdKit.{cold_kit, cold_script}
use Rattle.cold_servers.specs.ColdSeen.{ColdSeen, JournalBetween, LeavesBoth, LeavesTold, Outlives, Rises, TellsBoth}

-- the lines that ask something of a server, or show files: what is left of them while it is down. `restart a` is told apart
abbrev pub IsDownLine : Line → Type 0
IsDownLine (line.Deliver place) = Unit {0}
IsDownLine (line.Resend client) = Unit {0}
IsDownLine line.Mirror = Unit {0}
IsDownLine line.Ack = Unit {0}
IsDownLine line.Work = Unit {0}
IsDownLine line.Push = Unit {0}
IsDownLine line.Settle = Unit {0}
IsDownLine line.Files = Unit {0}
IsDownLine (line.Cat name) = Unit {0}
IsDownLine (line.Crash server) = Unit {0}
IsDownLine (line.Arm server count) = Unit {0}
IsDownLine line.Disarm = Unit {0}
IsDownLine (line.Restart A) = ⊥
IsDownLine (line.Restart server) = Unit {0}
IsDownLine _ = ⊥

-- What a line led to. Files are shown as the record disk tells them, or as any where it tells none: they are those of the history, or any
-- attempt at its last entry's deeds.
pub record PlayedDown (setup : Setup) (state : State Alone) (next : Line) (new : Cluster Solo) (before after : List (List ℕ))
    (held left : ColdSeen) : Type 0 where
  pub shelf : Shelf
  pub shelf_is : IfSome held.disk.files (λ files. shelf ≡ shelf_at files)
  pub outcome : Outcome (State Alone)
  pub leads : ColdHappens (plain_of setup) shelf (device_by setup (λ number. 0)) next state outcome
  pub uses : cold_script.Uses next setup (λ number. 0) state outcome held left
  pub is : Happened cold_kit setup outcome new before after
  pub count : cold_kit.Armed outcome.state.peers left
  pub files : TellsBoth setup state held → LeavesBoth setup outcome.state held left

-- so it did over each good state that the cluster stood for, and that tells of the disks' armed counts
abbrev pub PlaysDown : Line → Cluster Solo → Cluster Solo → List (List ℕ) → List (List ℕ) → ColdSeen → ColdSeen → Type 0
PlaysDown next old new before after held left =
    (setup : Setup) (state : State Alone) → IsGood cold_kit setup state → Shows cold_kit setup state old → cold_kit.Armed state.peers held
    → PlayedDown setup state next new before after held left

-- this history is found in the journal's file, where the disk tells it
abbrev pub IsFound : Setup → List Entry → Option Files → Type 0
IsFound setup past held = IfSome held (HasFile journal_name (λ file. Found file.bytes past (follower_of setup past)))

-- `restart a`: what is found is known where the disks hold what they hold of the state, and the journal's tells its files. The history is what
-- was found there
abbrev pub PlaysRestart : Cluster Solo → Cluster Solo → List (List ℕ) → List (List ℕ) → ColdSeen → ColdSeen → Type 0
PlaysRestart old new before after held left =
    (setup : Setup) (state : State Alone) → IsGood cold_kit setup state → Shows cold_kit setup state old → cold_kit.Armed state.peers held
    → TellsBoth setup state held → IsSome held.journal.files
    → (played : PlayedDown setup state (line.Restart A) new before after held left)
    × IsFound setup (committed played.outcome.state.world.core) held.journal.files

-- A start that was not done leaves the record files as they were, or between, or any attempt at the deeds of one entry more that was found,
-- which may follow; and the journal so that a start from it finds what it found before.
abbrev pub FilesFound : Setup → List Entry → Files → Type 0
FilesFound setup past files =
    Between service_disk (storage_of setup) past files
    ⊎ ((entry : Entry) × IsHistory setup (entry ∷ past) × Between service_disk (storage_of setup) (entry ∷ past) files)

abbrev pub JournalFound : Setup → List Entry → Files → Type 0
JournalFound setup past files =
    JournalBetween setup past files
    ⊎ ((text : List ℕ) → IsShort text → HasStaged (texts_of (messages_of setup past)) text files)

pub record BetweenFound (setup : Setup) (past : List Entry) (held left : ColdSeen) : Type 0 where
  pub disk : LeavesTold (FilesFound setup past) held.disk.files left.disk.files
  pub journal : LeavesTold (JournalFound setup past) held.journal.files left.journal.files

abbrev pub restart_kit : Kit Alone Solo
restart_kit = record cold_kit { Between = BetweenFound }

-- Where it was not done, by the answer: want of memory left the server down, or it came back and that is not told; a fault left it down,
-- and it can be tried again; neither disk stopped, as none is armed; and a journal that is told is found.
abbrev pub RestartLeaves :
    ColdAnswer → Setup → State Alone → Cluster Solo → List (List ℕ) → List (List ℕ) → ColdSeen → ColdSeen → Type 0
RestartLeaves Memory setup state new before after held left = Broken restart_kit setup state held left new × Stood held left
RestartLeaves Failed setup state new before after held left =
    LineEnded restart_kit cold_script setup state (line.Restart A) new before after held left
RestartLeaves _ setup state new before after held left = ⊥

abbrev pub RestartBreaks : ColdAnswer → Cluster Solo → Cluster Solo → List (List ℕ) → List (List ℕ) → ColdSeen → ColdSeen → Type 0
RestartBreaks answer old new before after held left =
    (setup : Setup) (state : State Alone) → IsGood cold_kit setup state → Shows cold_kit setup state old → cold_kit.Armed state.peers held
    → TellsBoth setup state held → IsSome held.journal.files → RestartLeaves answer setup state new before after held left

-- behind a journal's disk that tells no files the cluster can go on, though it may stand for no state
abbrev pub RestartGoes : Cluster Solo → ColdSeen → ColdSeen → Type 0
RestartGoes new held left = held.journal.files ≡ None → HasWild cold_kit always new left

-- and how the counts of faults went, over any disks
abbrev pub CountsStart : {T : Type 0} → Result T ColdAnswer → ColdSeen → ColdSeen → Type 0
CountsStart (Err Failed) held left = Rises held left
CountsStart _ held left = Outlives held left

-- all that a line came to that is played while the server is down, by its result: over a state it stands for one still
pub record PlaysDownLine {T : Type 0} (result : Result T DiskAnswer) (next : Line) (old new : Cluster Solo) (before after : List (List ℕ))
    (held left : ColdSeen) : Type 0 where
  pub ok : OnOk result (PlaysDown next old new before after held left)
  pub stands : HasStateOn cold_kit any_state old held → OnOk result (HasStateOn cold_kit any_state new left)
  pub broken : IfErr result (λ answer. BreaksOff cold_kit cold_script answer next old new before after held left)
  pub counts : Counted cold_kit held left result
