-- Ends of parts are ends of the whole.
use Rattle.std.proofs.Common.{◌≡◌, ℕ, inl, inr, List, [], Option, Some, None, Result, Ok, Err, refl, sym, subst}
use Rattle.std.specs.Prelude.{IfOk}
use Rattle.ais_values.specs.declared.kind.StreamKind.{StreamKind}
use Rattle.script_lines.specs.declared.line.Line.{Line}
use Rattle.script_language.specs.Scripts.{IsScriptOf}
use Rattle.played_runs.specs.declared.ending.End.{End}
use Rattle.played_runs.specs.declared.ending.Status8.{Status8}
use Rattle.played_runs.specs.declared.ending.Status8.TheVariants.{Done, ScriptRefused, Usage, Memory, ReadFault, WriteFault, DiskFault, RootNotEmpty, TooLong, JournalRefused, Inseparable}
use Rattle.played_runs.specs.Edges.{fault_count, IsUntouched, LeavesAll}
use Rattle.played_runs.specs.Writing.{Counting}
use Rattle.played_runs.proofs.CountSteps.{untouched-on, untouched-stood}
use Rattle.aisrun.specs.Edges.{Around}
use Rattle.cluster_core.specs.Game.{world_game}
use Rattle.commands.specs.declared.command.Command.{Command}
use Rattle.commands.specs.declared.command.Command.TheVariants.{Run, Check, Cold, Recover, Trio, Expr, Gen, Load, Scan}
use Rattle.commands.specs.Commands.{command_of, text_of}
use Rattle.text_commands.specs.Checking.{CheckEnds, ExprEnds, IsExpression, IsNoExpression}
use Rattle.script_inputs.specs.Inputs.{ReadsWhole}
use Rattle.aisrun.specs.Endings.{HasScript, InScript, LacksBy, Unbegun, Unjudged, RunLacks, Unread as Unknown, Unplayed, Ends, Checked, Parsed, Ran, NoScript, NoExpression}
use Rattle.aisrun.specs.RunSteps.{InputEnds, InputLacks}
use Rattle.script_runs.specs.Scripting.{BytesLack}
use Rattle.aisrun.specs.Usage.{usage_line}

module _ {S K D : Type 0} (run : Around S K D) where
  -- a script that was read
  has-script : command_of run.words ≡ Some Run → (bytes : List ℕ) → ReadsWhole run.source bytes → (lines : List Line) → IsScriptOf lines bytes → HasScript run lines
  has-script asked bytes read lines script =
      record { words = asked; script = record { bytes = bytes; read = read; script = script } }

  pub input-run : command_of run.words ≡ Some Run → (reached : Option Status8) (text : List ℕ) → InputEnds run.source run.stage reached text → Ends run reached text
  input-run asked None text ends = inl (ends.2.0, has-script asked ends.0 ends.1 ends.2.0 ends.2.1, ends.2.2)
  input-run asked (Some Done) text ends =
      Ran ends.2.0 (has-script asked ends.0 ends.1 ends.2.0 ends.2.1) ends.2.2.0 ends.2.2.1
  input-run asked (Some DiskFault) text ends = InScript ends.2.0 (has-script asked ends.0 ends.1 ends.2.0 ends.2.1) ends.2.2
  input-run asked (Some RootNotEmpty) text ends = (ends.2.0, inl (has-script asked ends.0 ends.1 ends.2.0 ends.2.1), ends.2.2)
  input-run asked (Some ScriptRefused) text ends = NoScript (inl asked) ends.2.0 ends.0 ends.1 ends.2.1
  input-run asked (Some ReadFault) text ends = record { words = inl (inl asked); all = ends.0; why = ends.1 }
  input-run asked (Some TooLong) text ends = record { words = inl (inl asked); all = ends.0; why = ends.1 }
  input-run asked (Some Usage) text ends = absurd ends.2.2
  input-run asked (Some Memory) text ends = absurd ends.2.2
  input-run asked (Some WriteFault) text ends = absurd ends.2.2
  input-run asked (Some JournalRefused) text ends = absurd ends.2.2
  input-run asked (Some Inseparable) text ends = absurd ends.2.2

  bytes-lacks : command_of run.words ≡ Some Run → (text bytes : List ℕ) → ReadsWhole run.source bytes → (BytesLack world_game) bytes run.stage text → RunLacks run text
  bytes-lacks asked text bytes read (inl early) = Unknown early.0 early.1
  bytes-lacks asked text bytes read (inr later) = Unplayed later.0 (has-script asked bytes read later.0 later.1) later.2

  input-lacks : command_of run.words ≡ Some Run → (text : List ℕ) → InputLacks run.source run.stage text → RunLacks run text
  input-lacks asked text (inl early) = Unknown early.0 early.1
  input-lacks asked text (inr later) = bytes-lacks asked text later.0 later.1 later.2

  pub input-lack : command_of run.words ≡ Some Run → (text : List ℕ) → InputLacks run.source run.stage text → LacksBy (command_of run.words) run text
  input-lack asked text lacks =
      let L : Option Command → Type 0 = λ one. LacksBy one run text in
      subst L (sym asked) (input-lacks asked text lacks)

  pub check-run : command_of run.words ≡ Some Check → LeavesAll run.stage → (reached : Option Status8) (text : List ℕ) → CheckEnds run.source reached text → Ends run reached text
  check-run asked all (Some Done) text ends = Checked asked all ends.0 ends.1 ends.2
  check-run asked all (Some ScriptRefused) text ends = NoScript (inr asked) all ends.0 ends.1 ends.2
  check-run asked all (Some ReadFault) text ends = record { words = inl (inr asked); all = all; why = ends }
  check-run asked all (Some TooLong) text ends = record { words = inl (inr asked); all = all; why = ends }
  check-run asked all None text ends = absurd ends
  check-run asked all (Some Usage) text ends = absurd ends
  check-run asked all (Some Memory) text ends = absurd ends
  check-run asked all (Some WriteFault) text ends = absurd ends
  check-run asked all (Some DiskFault) text ends = absurd ends
  check-run asked all (Some RootNotEmpty) text ends = absurd ends
  check-run asked all (Some JournalRefused) text ends = absurd ends
  check-run asked all (Some Inseparable) text ends = absurd ends

  -- an end where neither source nor disk was asked
  abbrev CountedEnd : Status8 → List ℕ → Type 0
  CountedEnd status text = Counting (fault_count run.source) (fault_count run.stage.disk) (Ends run) (Some status) text

  pub expr-run : (kind : StreamKind) → command_of run.words ≡ Some (Expr kind) → LeavesAll run.stage → IsUntouched run.source → (status : Status8) (text : List ℕ) → ExprEnds kind (text_of run.words) status text → CountedEnd status text
  expr-run kind asked all source status text (IsExpression is passes) =
      let E : Status8 → Type 0 = λ one. CountedEnd one text in
      subst E (sym is) (Parsed kind asked all source passes, (untouched-stood run.source source, untouched-on run.stage.disk all.disk))
  expr-run kind asked all source status text (IsNoExpression is fails) =
      let E : Status8 → Type 0 = λ one. CountedEnd one text in
      subst E (sym is) (NoExpression kind (inl asked) all source fails, (untouched-stood run.source source, untouched-stood run.stage.disk all.disk))

  pub usage-run : {X : Type 0} → command_of run.words ≡ None → LeavesAll run.stage → IsUntouched run.source → (end : Result End X) → IfOk end (λ one. one.status ≡ Usage) → IfOk end (λ one. one.text.items ≡ usage_line) → IfOk end (λ one. CountedEnd one.status one.text.items)
  usage-run unknown all source (Err e) status text = tt
  usage-run unknown all source (Ok one) status text =
      let E : Status8 → Type 0 = λ each. CountedEnd each one.text.items in
      subst E (sym status) (record { unknown = unknown; all = all; source = source; printed = text }, (untouched-stood run.source source, untouched-stood run.stage.disk all.disk))

-- memory was wanting before anything was done
pub lacks-early : {S K D : Type 0} (run : Around S K D) (asked : Option Command) → (asked ≡ Some Trio → ⊥) → (asked ≡ Some Cold → ⊥) → (asked ≡ Some Recover → ⊥) → LeavesAll run.stage → IsUntouched run.source → LacksBy asked run []
lacks-early run None trio cold recover all source = (refl, all, source)
lacks-early run (Some Run) trio cold recover all source = Unknown refl all
lacks-early run (Some Check) trio cold recover all source = (refl, all)
lacks-early run (Some Cold) trio cold recover all source = absurd (cold refl)
lacks-early run (Some Recover) trio cold recover all source = absurd (recover refl)
lacks-early run (Some Trio) trio cold recover all source = absurd (trio refl)
lacks-early run (Some (Expr kind)) trio cold recover all source = (refl, all, source)
lacks-early run (Some (Gen count seed)) trio cold recover all source = (refl, all, source)
lacks-early run (Some (Load count seed)) trio cold recover all source = Unbegun refl all source
lacks-early run (Some (Scan query)) trio cold recover all source = Unjudged refl all source
