-- Words of bodies alone: what each line that is played on one server and its journal leads to.
use Rattle.std.specs.Prelude.{◌≡◌, ◌⊎◌, ℕ, ℤ, Bool, false, int_lt, Option, Some, None, List, [], ◌∷◌, ◌++◌, Result, Ok, Err}
use Rattle.std.specs.Io.KnownBytes.{Appends}
use Rattle.disk_model.specs.Seen.{DiskSeen}
use Rattle.disk_model.specs.declared.answers.DiskAnswer.{DiskAnswer}
use Rattle.disk_model.specs.declared.answers.DiskAnswer.TheVariants as disk
use Rattle.plain_service.specs.Setups.{Setup}
use Rattle.script_lines.specs.declared.line.Line.{Line}
use Rattle.script_lines.specs.declared.line.Line.TheVariants as line
use Rattle.script_language.specs.Lines.{Spells}
use Rattle.cluster_lines.specs.Lines.{CanPlay}
use Rattle.cold_servers.specs.ColdKit.{cold_script}
use Rattle.cold_servers.specs.ColdSeen.{ColdSeen, Outlives, Rises}
use Rattle.cluster_lines.specs.Beginning.{Begins}
use Rattle.command_journal.specs.Worlds.{HasCold}
use Rattle.command_journal.specs.declared.answer.EventAnswer.{EventAnswer}
use Rattle.command_journal.specs.declared.answer.EventAnswer.TheVariants as event
use Rattle.command_journal.specs.declared.world.ColdWorld.{ColdWorld}
use Rattle.played_runs.specs.Counts.{HasRisen, HasStood}
use Rattle.played_runs.specs.Edges.{Edge, after, before, fault_count}
use Rattle.played_runs.specs.Ends.{fault_line}
use Rattle.played_runs.specs.Steps.{FindsNames, time_behind}
use Rattle.played_runs.specs.Views.{HoldsNone, NamesFailed, names_told}
use Rattle.played_runs.specs.Writing.{IsNever, IsNone, IsText, Written, joined_lines}
use Rattle.played_runs.specs.declared.ending.Status8.{Status8}
use Rattle.played_runs.specs.declared.ending.Status8.TheVariants as status
use Rattle.cold_runs.specs.Ends.{ColdEnds, ColdLacks, GoesUntold, RisesCold, both_named, record_named, refused_line}
use Rattle.cold_runs.specs.Playing.{ColdFront, StandsCold}
use Rattle.cold_runs.specs.Stages.{BothGoneOn, cold_scene}

-- What lines can be played.

-- a line sets a time below this one
abbrev pub is_late : Line → ℤ → Bool
is_late (line.Time later) now = int_lt later now
is_late _ now = false

-- these lines can be played one after another from a time on
abbrev pub CanFollowCold : ℤ → List Line → Type 0
CanFollowCold now [] = Unit {0}
CanFollowCold now (next ∷ lines) =
    ((raw : List ℕ) × Spells next raw) × CanPlay cold_script now next × CanFollowCold (time_behind now (Some next)) lines

-- from some time on
abbrev pub CanComeCold : List Line → Type 0
CanComeCold lines = (now : ℤ) × CanFollowCold now lines

pub record CanOpenCold (opening : Line) (events : List Line) : Type 0 where
  pub spelled : (raw : List ℕ) × Spells opening raw
  pub begins : (setup : Setup) × (places : ℕ) × Begins opening setup places
  pub follows : (setup : Setup) (places : ℕ) → Begins opening setup places → CanFollowCold setup.start events

abbrev pub IsPlayableCold : List Line → Type 0
IsPlayableCold [] = ⊥
IsPlayableCold (opening ∷ events) = CanOpenCold opening events

-- What disks answer who asks for their names.

-- one: its least name, if it holds a file
abbrev pub NamesOf : DiskSeen → DiskSeen → Result (Option (List ℕ)) DiskAnswer → Type 0
NamesOf held left (Ok found) = FindsNames held.files found × (left ≡ names_told held)
NamesOf held left (Err disk.Memory) = left ≡ names_told held
NamesOf held left (Err disk.Failed) = NamesFailed held left × HasRisen (held.faults, left.faults)
NamesOf held left (Err disk.Stopped) = left ≡ names_told held

-- both: one of them holds a file, and this is its least name
abbrev pub FirstOfBoth : ColdSeen → ColdSeen → Option (List ℕ) → Type 0
FirstOfBoth held left None = HoldsNone held.disk.files × HoldsNone held.journal.files × (left ≡ both_named held)
FirstOfBoth held left (Some name) =
    (FindsNames held.disk.files (Some name) × (left ≡ record_named held))
    ⊎ (HoldsNone held.disk.files × FindsNames held.journal.files (Some name) × (left ≡ both_named held))

-- where they broke off: the one that was asked last failed, or memory was wanting
abbrev pub NamesBroken : DiskAnswer → ColdSeen → ColdSeen → Type 0
NamesBroken disk.Failed held left =
    Rises held left
    × ((NamesFailed held.disk left.disk × (left.journal ≡ held.journal))
    ⊎ ((left.disk ≡ names_told held.disk) × NamesFailed held.journal left.journal))
NamesBroken _ held left = (left ≡ record_named held) ⊎ (left ≡ both_named held)

abbrev pub AsksNames : ColdSeen → ColdSeen → Result (Option (List ℕ)) DiskAnswer → Type 0
AsksNames held left (Ok found) = FirstOfBoth held left found
AsksNames held left (Err answer) = NamesBroken answer held left

-- What is written.

-- of an event that was not done: nothing for want of memory
abbrev pub AnswerWritten : {K : Type 0} → EventAnswer → Edge K (List ℕ) → Status8 → Type 0
AnswerWritten event.Memory sink ended = (ended ≡ status.Memory) × (sink.new ≡ sink.old)
AnswerWritten (event.DiskFault lines) sink ended = Written (IsText status.DiskFault (joined_lines lines ++ fault_line)) IsNever sink ended
AnswerWritten (event.Journal place) sink ended = Written (IsText status.JournalRefused (refused_line place)) IsNone sink ended

-- Lines that were played.

-- These events of a script were done, and others are left, which can be played; world and disks stand where they led.
pub record GoingCold (held : ColdSeen) (script done rest : List Line) (text : List ℕ) (left : ColdSeen) (world : ColdWorld) : Type 0 where
  pub front : ColdFront held script done rest text
  pub now : StandsCold front left world
  pub follows : CanFollowCold front.state.world.now rest

-- so it is, or the script went on behind a `restart a` over a journal's disk that tells no files; and no count of faults fell
pub record GoesCold (held : ColdSeen) (script done rest : List Line) (text : List ℕ) (left : ColdSeen) (world : ColdWorld) : Type 0 where
  pub rises : Outlives held left
  pub goes : GoingCold held script done rest text left world ⊎ GoesUntold script held [] text

-- how a script ends behind some of its events, by what was written since
abbrev pub EndsBehind :
    {K : Type 0} → (held : ColdSeen) (script : List Line) (text : List ℕ) (left : ColdSeen) → (first world : ColdWorld) → Edge K (List ℕ) → Status8
    → Type 0
EndsBehind held script text left first world sink ended =
    let scene = cold_scene held left first world in
    Written (λ reached behind. ColdEnds script scene reached (text ++ behind) × RisesCold reached scene)
    (λ behind. ColdLacks script scene (text ++ behind) × BothGoneOn scene) sink ended

-- one line was done, and its lines were written: each front of a script that stood here has one line more
pub record PlaysLine {K : Type 0} (next : Line) (old new : ColdWorld) (mid left : ColdSeen) (sink : Edge K (List ℕ)) : Type 0 where
  pub text : List ℕ
  pub stood : HasStood (fault_count sink)
  pub appended : Appends (before sink) (after sink) text
  pub stands : HasCold new left
  pub goes : (held : ColdSeen) (script done rest : List Line) (front : List ℕ) → GoesCold held script done (next ∷ rest) front mid old
      → GoesCold held script (done ++ next ∷ []) rest (front ++ text) left new

-- or each such script ended there
abbrev pub PlaysOne :
    {K : Type 0} → Line → (old new : ColdWorld) (mid left : ColdSeen) → Edge K (List ℕ) → Result (Unit {0}) Status8 → Type 0
PlaysOne next old new mid left sink (Ok done) = PlaysLine next old new mid left sink
PlaysOne next old new mid left sink (Err ended) =
    (held : ColdSeen) (script done rest : List Line) (front : List ℕ) (first : ColdWorld) → GoesCold held script done (next ∷ rest) front mid old
    → EndsBehind held script front left first new sink ended

-- some events were played, of which these are left
pub record PlaysTo {K : Type 0} (events rest : List Line) (old new : ColdWorld) (mid left : ColdSeen) (sink : Edge K (List ℕ)) : Type 0 where
  pub text : List ℕ
  pub stood : HasStood (fault_count sink)
  pub appended : Appends (before sink) (after sink) text
  pub goes : (held : ColdSeen) (script done : List Line) (front : List ℕ) → GoesCold held script done events front mid old → (now : List Line)
      × GoesCold held script now rest (front ++ text) left new

-- events were played to their end, behind each front of a script that stood here
abbrev pub PlaysEvents : {K : Type 0} → List Line → (old new : ColdWorld) (mid left : ColdSeen) → Edge K (List ℕ) → Status8 → Type 0
PlaysEvents events old new mid left sink ended =
    (held : ColdSeen) (script done : List Line) (front : List ℕ) (first : ColdWorld) → GoesCold held script done events front mid old
    → EndsBehind held script front left first new sink ended
