-- Words of public clauses: how a run ends, which is its status with what was read, what is printed, and what it leaves.
use Rattle.std.specs.Prelude.{◌≡◌, ℕ, true, false, List, []}
use Rattle.std.specs.Prelude.{Option, Some, None, ◌⊎◌}
use Rattle.std.specs.Io.KnownBytes.{Appends}
use Rattle.ais_values.specs.declared.kind.StreamKind.{StreamKind}
use Rattle.io_edge.specs.Writes.{AppendsFront}
use Rattle.script_lines.specs.declared.line.Line.{Line}
use Rattle.script_language.specs.Scripts.{IsScriptOf}
use Rattle.load_script.specs.Texts.{load_text}
use Rattle.played_runs.specs.declared.ending.Status8.{Status8}
use Rattle.played_runs.specs.declared.ending.Status8.TheVariants.{Done, ScriptRefused, Usage, Memory, ReadFault, WriteFault, DiskFault}
use Rattle.played_runs.specs.declared.ending.Status8.TheVariants.{RootNotEmpty, TooLong, Inseparable}
use Rattle.played_runs.specs.Counts.{HasGoneOn, HasStood, RisesBefore}
use Rattle.played_runs.specs.Edges.{Edge, before, after, fault_count, IsUntouched, LeavesAll}
use Rattle.played_runs.specs.Ends.{RootHolds}
use Rattle.script_inputs.specs.Inputs.{InputTooLong, ReadsWhole, SourceFailed}
use Rattle.aisrun.specs.Edges.{Around}
use Rattle.cluster_core.specs.Runs.{DiskFails, PlayEnds, PlayLacks, PlayedTo}
use Rattle.commands.specs.declared.command.Command.{Command}
use Rattle.commands.specs.declared.command.Command.TheVariants.{Run, Check, Cold, Recover, Trio, Expr, Gen, Load, Scan}
use Rattle.commands.specs.Commands.{command_of, text_of as word_text}
use Rattle.load_runs.specs.Loading.{counting_faults}
use Rattle.world_runs.specs.Loads.{CountedBehind, LoadFails, TellsLoad}
use Rattle.script_runs.specs.Reading.{ReadsScript, ScriptFails}
use Rattle.text_commands.specs.Texts.{ScriptPasses, TextPasses, TextFails}
use Rattle.aisrun.specs.Scanning.{CanScan, CannotScan, ScansAll, ScansFront, TakesText}
use Rattle.aisrun.specs.Usage.{usage_line}

-- a script was read to be played
pub record HasScript {S K D : Type 0} (run : Around S K D) (lines : List Line) : Type 0 where
  pub words : command_of run.words ≡ Some Run
  pub script : ReadsScript run.source lines

-- the script of so many turns from a seed on, which the words tell, was made to be played; the source was not asked
pub record HasLoad {S K D : Type 0} (run : Around S K D) (lines : List Line) : Type 0 where
  pub count : ℕ
  pub seed : ℕ
  pub words : command_of run.words ≡ Some (Load count seed)
  pub source : IsUntouched run.source
  pub script : IsScriptOf lines (load_text count seed)

-- one of both was played
abbrev pub HasLines : {S K D : Type 0} → Around S K D → List Line → Type 0
HasLines run lines = HasScript run lines ⊎ HasLoad run lines

-- what each command comes to where all is well
pub data Succeeds {S K D : Type 0} (run : Around S K D) (text : List ℕ) : Type 0 where
  Ran : (lines : List Line) → HasScript run lines → (done : List Line) → PlayedTo run.stage lines done [] text → Succeeds run text
  Checked :
      command_of run.words ≡ Some Check → LeavesAll run.stage → (bytes : List ℕ) → ReadsWhole run.source bytes → ScriptPasses bytes text
      → Succeeds run text
  Parsed :
      (kind : StreamKind) → command_of run.words ≡ Some (Expr kind) → LeavesAll run.stage → IsUntouched run.source
      → TextPasses kind (word_text run.words) text
      → Succeeds run text
  Generated :
      (count seed : ℕ) → command_of run.words ≡ Some (Gen count seed) → LeavesAll run.stage → IsUntouched run.source → text ≡ load_text count seed
      → Succeeds run text
  Loaded :
      (lines : List Line) → HasLoad run lines → (done : List Line) (unwritten : List ℕ) (behind : CountedBehind true run.stage lines done unwritten)
      → HasStood (counting_faults behind) → TellsLoad behind.front.goes.state (after run.stage.disk) text → Succeeds run text
  Scanned :
      (can : CanScan run.words) → LeavesAll run.stage → (bytes : List ℕ) → ReadsWhole run.source bytes → ScansAll can bytes text
      → Succeeds run text

-- the words are those of a command that reads a script
abbrev pub Reads : List (List ℕ) → Type 0
Reads words = (command_of words ≡ Some Run) ⊎ (command_of words ≡ Some Check)

-- or of one that reads records, for which it needs a text that serves
abbrev pub ReadsSource : List (List ℕ) → Type 0
ReadsSource words = Reads words ⊎ CanScan words

-- the input is no script, or the text no expression
pub data Refuses {S K D : Type 0} (run : Around S K D) (text : List ℕ) : Type 0 where
  NoScript :
      Reads run.words → LeavesAll run.stage → (bytes : List ℕ) → ReadsWhole run.source bytes → ScriptFails bytes text
      → Refuses run text
  NoExpression :
      (kind : StreamKind) → TakesText run.words kind → LeavesAll run.stage → IsUntouched run.source → TextFails kind (word_text run.words) text
      → Refuses run text

-- the words are none of the program's
pub record KnowsNoWords {S K D : Type 0} (run : Around S K D) (text : List ℕ) : Type 0 where
  pub unknown : command_of run.words ≡ None
  pub all : LeavesAll run.stage
  pub source : IsUntouched run.source
  pub printed : text ≡ usage_line

-- the text is an expression, but in records of the size the texts of its tokens cannot be told apart
pub record PartsNoTexts {S K D : Type 0} (run : Around S K D) (text : List ℕ) : Type 0 where
  pub cannot : CannotScan run.words text
  pub all : LeavesAll run.stage
  pub source : IsUntouched run.source

-- the source was not read to its end
pub record StopsReading {S K D : Type 0} (run : Around S K D) (Why : Edge S (List ℕ) → List ℕ → Type 0) (text : List ℕ) : Type 0 where
  pub words : ReadsSource run.words
  pub all : LeavesAll run.stage
  pub why : Why run.source text

-- the source was read to its end, and its first records were told
pub record ScansOn {S K D : Type 0} (run : Around S K D) (text : List ℕ) : Type 0 where
  pub can : CanScan run.words
  pub all : LeavesAll run.stage
  pub bytes : List ℕ
  pub read : ReadsWhole run.source bytes
  pub told : ScansFront can bytes text

-- the disk failed as a script was played, or a large run
pub data Fails {S K D : Type 0} (run : Around S K D) (text : List ℕ) : Type 0 where
  InScript : (lines : List Line) → HasScript run lines → DiskFails lines run.stage text → Fails run text
  InLoad : (lines : List Line) → HasLoad run lines → LoadFails lines run.stage text → Fails run text

-- how a run ends, and its text; or how far the lines of its script were played, or its records told
abbrev pub Ends : {S K D : Type 0} → Around S K D → Option Status8 → List ℕ → Type 0
Ends run None text = ((lines : List Line) × HasScript run lines × PlayEnds lines run.stage None text) ⊎ ScansOn run text
Ends run (Some Done) text = Succeeds run text
Ends run (Some ScriptRefused) text = Refuses run text
Ends run (Some Usage) text = KnowsNoWords run text
Ends run (Some ReadFault) text = StopsReading run SourceFailed text
Ends run (Some TooLong) text = StopsReading run InputTooLong text
Ends run (Some Inseparable) text = PartsNoTexts run text
Ends run (Some RootNotEmpty) text = (lines : List Line) × HasLines run lines × RootHolds run.stage text
Ends run (Some DiskFault) text = Fails run text
Ends run _ text = ⊥

-- a text is printed of which P holds
abbrev pub Prints : {K : Type 0} → Edge K (List ℕ) → (List ℕ → Type 0) → Type 0
Prints sink P = (text : List ℕ) × P text × Appends (before sink) (after sink) text

-- the sink did not take all: a front was written of the text of an end, or of what was done so far, and the counts of source and
-- disk are as by that end
pub record EndsUnwritten {S K D : Type 0} (run : Around S K D) : Type 0 where
  pub reached : Option Status8
  pub text : List ℕ
  pub ends : Ends run reached text
  pub counts : RisesBefore reached (fault_count run.source) (fault_count run.stage.disk)
  pub written : AppendsFront (before run.stage.sink) (after run.stage.sink) text

-- memory ran out as a script was run: before it was read and known, or as it was played
pub data RunLacks {S K D : Type 0} (run : Around S K D) (text : List ℕ) : Type 0 where
  Unread : text ≡ [] → LeavesAll run.stage → RunLacks run text
  Unplayed : (lines : List Line) → HasScript run lines → PlayLacks lines run.stage text → RunLacks run text

-- memory ran out in a large run, of whose lines nothing is written: before it began; as it was played; behind some of its lines, as the
-- next one was made; or behind them all, as files were counted or the line that is printed was made
pub data LoadLacks {S K D : Type 0} (run : Around S K D) (text : List ℕ) : Type 0 where
  Unbegun : text ≡ [] → LeavesAll run.stage → IsUntouched run.source → LoadLacks run text
  Unended : text ≡ [] → (lines : List Line) → HasLoad run lines → (unwritten : List ℕ) → PlayLacks lines run.stage unwritten → LoadLacks run text
  Unmade :
      text ≡ [] → (lines : List Line) → HasLoad run lines → (done rest : List Line) (unwritten : List ℕ)
      → PlayedTo run.stage lines done rest unwritten → LoadLacks run text
  Uncounted :
      text ≡ [] → (lines : List Line) → HasLoad run lines → (done : List Line) (unwritten : List ℕ)
      (behind : CountedBehind false run.stage lines done unwritten) → HasStood (counting_faults behind) → LoadLacks run text

-- memory ran out as records were told: before it was known whether the text serves, where the source is as it was; as the source was
-- read for a text that serves; or behind the first records
pub data RecordsLack {S K D : Type 0} (run : Around S K D) (text : List ℕ) : Type 0 where
  Unjudged : text ≡ [] → LeavesAll run.stage → IsUntouched run.source → RecordsLack run text
  Unheld : CanScan run.words → text ≡ [] → LeavesAll run.stage → RecordsLack run text
  Untold : ScansOn run text → RecordsLack run text

-- the same of each command; `expr`, `gen`, `load` and words that are no command leave the source as it is; `cold`, `recover` and `trio` have
-- clauses of their own
abbrev pub LacksBy : {S K D : Type 0} → Option Command → Around S K D → List ℕ → Type 0
LacksBy None run text = (text ≡ []) × LeavesAll run.stage × IsUntouched run.source
LacksBy (Some Run) run text = RunLacks run text
LacksBy (Some Check) run text = (text ≡ []) × LeavesAll run.stage
LacksBy (Some Cold) run text = ⊥
LacksBy (Some Recover) run text = ⊥
LacksBy (Some Trio) run text = ⊥
LacksBy (Some (Expr kind)) run text = (text ≡ []) × LeavesAll run.stage × IsUntouched run.source
LacksBy (Some (Gen count seed)) run text = (text ≡ []) × LeavesAll run.stage × IsUntouched run.source
LacksBy (Some (Load count seed)) run text = LoadLacks run text
LacksBy (Some (Scan query)) run text = RecordsLack run text

-- memory ran out in the sink; or elsewhere, where no object had failed but the disk in works of servers that went down, and all text up to
-- there was written
pub data EndsLacking {S K D : Type 0} (run : Around S K D) : Type 0 where
  Unwritten : EndsUnwritten run → EndsLacking run
  Lacking :
      (text : List ℕ) → LacksBy (command_of run.words) run text → HasStood (fault_count run.source) → HasGoneOn (fault_count run.stage.disk)
      → Appends (before run.stage.sink) (after run.stage.sink) text → EndsLacking run

-- how a run ends, by its status
abbrev pub EndsBy : {S K D : Type 0} → Status8 → Around S K D → Type 0
EndsBy Memory run = EndsLacking run
EndsBy WriteFault run = EndsUnwritten run
EndsBy status run = Prints run.stage.sink (Ends run (Some status))
