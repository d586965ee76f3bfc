-- The ends of a large run are ends of the program.
use Rattle.std.proofs.Common.{◌≡◌, ℕ, ◌⊎◌, inl, inr, false, List, [], Option, Some, None, sym, subst}
use Rattle.script_lines.specs.declared.line.Line.{Line}
use Rattle.script_language.specs.Scripts.{IsScriptOf}
use Rattle.load_script.specs.Texts.{load_text}
use Rattle.load_lines.specs.Lines.{load_lines}
use Rattle.commands.specs.Commands.{command_of}
use Rattle.commands.specs.declared.command.Command.{Command}
use Rattle.commands.specs.declared.command.Command.TheVariants.{Load}
use Rattle.played_runs.specs.Counts.{HasStood}
use Rattle.played_runs.specs.Edges.{IsUntouched}
use Rattle.played_runs.specs.declared.ending.Status8.{Status8}
use Rattle.played_runs.specs.declared.ending.Status8.TheVariants.{Done, ScriptRefused, Usage, Memory, ReadFault, WriteFault, DiskFault, RootNotEmpty, TooLong, JournalRefused, Inseparable}
use Rattle.cluster_core.specs.Runs.{PlayLacks, PlayedTo}
use Rattle.load_runs.specs.Loading.{counting_faults}
use Rattle.world_runs.specs.Loads.{CountedBehind, LoadEnds, LoadWants}
use Rattle.aisrun.specs.Edges.{Around}
use Rattle.aisrun.specs.Endings.{Ends, HasLoad, InLoad, LacksBy, Loaded, LoadLacks, Uncounted, Unended, Unmade}

module _ {S K D : Type 0} (run : Around S K D) (count seed : ℕ) (words : command_of run.words ≡ Some (Load count seed)) (source : IsUntouched run.source) (script : IsScriptOf (load_lines count seed) (load_text count seed)) where
  abbrev lines : List Line
  lines = load_lines count seed

  abbrev has : HasLoad run lines
  has = record { count = count; seed = seed; words = words; source = source; script = script }

  pub load-run : (reached : Option Status8) (text : List ℕ) → LoadEnds lines run.stage reached text → Ends run reached text
  load-run (Some Done) text ends = Loaded lines has ends.0 ends.1 ends.2 ends.3 ends.4
  load-run (Some DiskFault) text ends = InLoad lines has ends
  load-run (Some RootNotEmpty) text ends = (lines, inr has, ends)
  load-run None text ends = absurd ends
  load-run (Some ScriptRefused) text ends = absurd ends
  load-run (Some Usage) text ends = absurd ends
  load-run (Some Memory) text ends = absurd ends
  load-run (Some ReadFault) text ends = absurd ends
  load-run (Some WriteFault) text ends = absurd ends
  load-run (Some TooLong) text ends = absurd ends
  load-run (Some JournalRefused) text ends = absurd ends
  load-run (Some Inseparable) text ends = absurd ends

  lacks-by : (text unwritten : List ℕ) → text ≡ [] → PlayLacks lines run.stage unwritten ⊎ (((done rest : List Line) × PlayedTo run.stage lines done rest unwritten) ⊎ ((done : List Line) × (behind : CountedBehind false run.stage lines done unwritten) × HasStood (counting_faults behind))) → LoadLacks run text
  lacks-by text unwritten none (inl lacks) = Unended none lines has unwritten lacks
  lacks-by text unwritten none (inr (inl played)) = Unmade none lines has played.0 played.1 unwritten played.2
  lacks-by text unwritten none (inr (inr counted)) = Uncounted none lines has counted.0 unwritten counted.1 counted.2

  pub load-lack : (text : List ℕ) → LoadWants lines run.stage text → LacksBy (command_of run.words) run text
  load-lack text wants =
      let L : Option Command → Type 0 = λ one. LacksBy one run text in
      subst L (sym words) (lacks-by text wants.1.0 wants.0 wants.1.1)
