-- Words of public clauses: scripts: which lines some bytes spell, and where bytes that spell none go wrong.
use Rattle.std.specs.Prelude.{◌≡◌, ℕ, ◌+◌, ◌<◌, ◌==◌, ◌⊎◌, ℤ, int_lt, Option, Some, None, List, [], ◌∷◌, ◌++◌, length, if◌then◌else◌}
use Rattle.script_lines.specs.declared.line.Line.{Line}
use Rattle.script_lines.specs.declared.line.Line.TheVariants as line
use Rattle.script_lines.specs.declared.answer.ScriptWhy.{ScriptWhy}
use Rattle.script_lines.specs.declared.answer.ScriptWhy.TheVariants as why
use Rattle.script_language.specs.Lines.{Spells}

-- one more byte at the front of the first line
abbrev pub with_first : ℕ → List (List ℕ) → List (List ℕ)
with_first byte [] = (byte ∷ []) ∷ []
with_first byte (raw ∷ raws) = (byte ∷ raw) ∷ raws

-- the lines of a text: each is ended by LF, which the last may lack
abbrev pub raw_lines : List ℕ → List (List ℕ)
raw_lines [] = []
raw_lines (byte ∷ bytes) = if byte == 10 then [] ∷ raw_lines bytes else with_first byte (raw_lines bytes)

-- a line without bytes, or one that begins with `#`
abbrev pub IsSkipped : List ℕ → Type 0
IsSkipped [] = Unit {0}
IsSkipped (byte ∷ bytes) = byte ≡ 35

-- the lines are spelled one after another, with skipped ones anywhere
pub data SpellAll : List Line → List (List ℕ) → Type 0 where
  done : SpellAll [] []
  skipped : {lines : List Line} {raw : List ℕ} {raws : List (List ℕ)} → IsSkipped raw → SpellAll lines raws → SpellAll lines (raw ∷ raws)
  spelled : {one : Line} {raw : List ℕ} {lines : List Line} {raws : List (List ℕ)} → Spells one raw → SpellAll lines raws → SpellAll (one ∷ lines) (raw ∷ raws)

-- the time in force after a line; there is none before the cluster line
abbrev pub time_after : Option ℤ → Line → Option ℤ
time_after now (line.Cluster start queue callbacks alarm ntf sys) = Some start
time_after now (line.Time later) = Some later
time_after now _ = now

-- the time in force after some lines
abbrev pub time_in_force : Option ℤ → List Line → Option ℤ
time_in_force now [] = now
time_in_force now (one ∷ lines) = time_in_force (time_after now one) lines

-- why a line cannot stand where this time is in force: the cluster line is the first and only the first, and times do not fall
abbrev pub misplaced : Option ℤ → Line → Option ScriptWhy
misplaced None (line.Cluster start queue callbacks alarm ntf sys) = None
misplaced None _ = Some why.Cluster
misplaced (Some now) (line.Cluster start queue callbacks alarm ntf sys) = Some why.Cluster
misplaced (Some now) (line.Time later) = if int_lt later now then Some why.Time else None
misplaced (Some now) _ = None

-- each line can stand where it stands
abbrev pub AreInOrder : Option ℤ → List Line → Type 0
AreInOrder now [] = Unit {0}
AreInOrder now (one ∷ lines) = (misplaced now one ≡ None) × AreInOrder (time_after now one) lines

-- the bytes spell these lines
pub record IsScriptOf (lines : List Line) (bytes : List ℕ) : Type 0 where
  pub spelled : SpellAll lines (raw_lines bytes)
  pub ordered : AreInOrder None lines
  pub begun : 0 < length lines

-- why some bytes are no line where this time is in force: they have no form, or the line that they spell cannot stand there
pub data IsReason : Option ℤ → List ℕ → ScriptWhy → Type 0 where
  formless : {now : Option ℤ} {raw : List ℕ} → ((one : Line) → ¬ Spells one raw) → IsReason now raw why.Grammar
  out_of_place : {now : Option ℤ} {raw : List ℕ} {reason : ScriptWhy} (one : Line) → Spells one raw → misplaced now one ≡ Some reason → IsReason now raw reason

-- the first bad line, where lines are counted from some number and this time is in force: what stands before it is good
pub record IsBadLine (now : Option ℤ) (first : ℕ) (raws : List (List ℕ)) (number : ℕ) (reason : ScriptWhy) : Type 0 where
  pub before : List (List ℕ)
  pub bad : List ℕ
  pub behind : List (List ℕ)
  pub lines : List Line
  pub parts : raws ≡ before ++ bad ∷ behind
  pub place : number ≡ first + length before
  pub spelled : SpellAll lines before
  pub ordered : AreInOrder now lines
  pub shown : ¬ IsSkipped bad
  pub wrong : IsReason (time_in_force now lines) bad reason

-- there are skipped lines alone, and no cluster line was there: the line after the last is bad
pub record LacksCluster (now : Option ℤ) (first : ℕ) (raws : List (List ℕ)) (number : ℕ) (reason : ScriptWhy) : Type 0 where
  pub unbegun : now ≡ None
  pub place : number ≡ first + length raws
  pub spelled : SpellAll [] raws
  pub wrong : reason ≡ why.Cluster

-- the least bad line of the bytes, counted from 1, and its first reason
abbrev pub IsBadAt : List ℕ → ℕ → ScriptWhy → Type 0
IsBadAt bytes number reason = IsBadLine None 1 (raw_lines bytes) number reason ⊎ LacksCluster None 1 (raw_lines bytes) number reason
