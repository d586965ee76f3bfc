-- Words of bodies alone: what a reader ends with, against reading on lists.
use Rattle.std.specs.Prelude.{◌≡◌, ℕ, ◌+◌, ◌<◌, ℤ, Option, Some, None, List, [], ◌∷◌, length, Result, Ok, Err}
use Rattle.script_lines.specs.declared.line.Line.{Line}
use Rattle.script_lines.specs.declared.answer.ScriptWhy.{ScriptWhy}
use Rattle.script_lines.specs.declared.answer.ScriptAnswer.{ScriptAnswer}
use Rattle.script_lines.specs.declared.answer.ScriptAnswer.TheVariants.{Memory, Bad}
use Rattle.script.specs.declared.reader.Reader.{Reader}
use Rattle.script_language.specs.ScriptReading.{behind, judged}

-- what reading on lists ends with
abbrev pub Outcome : Type 0
Outcome = Result (List Line) (ℕ × ScriptWhy)

-- what is told is what reading on lists ends with, unless memory ran out
abbrev pub Refuses : ScriptAnswer → Outcome → Type 0
Refuses Memory outcome = Unit {0}
Refuses (Bad number reason) outcome = outcome ≡ Err (number, reason)

-- what reading one line does
abbrev pub TurnsTo : Option ℤ → ℕ → List ℕ → Result (Option (Line × Option ℤ)) ScriptAnswer → Type 0
TurnsTo now number raw (Ok None) = (raws : List (List ℕ)) → judged now number (raw ∷ raws) ≡ judged now (number + 1) raws
TurnsTo now number raw (Ok (Some found)) =
    (raws : List (List ℕ)) → judged now number (raw ∷ raws) ≡ behind (found.0 ∷ []) (judged found.1 (number + 1) raws)
TurnsTo now number raw (Err answer) = (raws : List (List ℕ)) → Refuses answer (judged now number (raw ∷ raws))

-- this is what is kept of fewer lines than so many
pub record KeepsFew {K : Type 0} (Keeps : K → List Line → Type 0) (kept : K) (limit : ℕ) : Type 0 where
  pub lines : List Line
  pub keeps : Keeps kept lines
  pub few : length lines < limit

-- with the lines that are left a reader comes to this end: that of reading on lists, behind the lines of which it keeps what it keeps
pub record LeadsTo {K : Type 0} (Keeps : K → List Line → Type 0) (reader : Reader K) (raws : List (List ℕ)) (outcome : Outcome) : Type 0 where
  pub lines : List Line
  pub keeps : Keeps reader.kept lines
  pub few : length lines < reader.number
  pub same : outcome ≡ behind lines (judged reader.time reader.number raws)

-- what was kept of the lines that reading on lists ends with, or its refusal, unless memory ran out
abbrev pub Judges : {K : Type 0} → (K → List Line → Type 0) → Result K ScriptAnswer → Outcome → Type 0
Judges Keeps (Ok kept) outcome = (lines : List Line) × (outcome ≡ Ok lines) × Keeps kept lines
Judges Keeps (Err answer) outcome = Refuses answer outcome
