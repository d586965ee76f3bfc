-- Words of public clauses: scripts for three servers: which lines some bytes spell, and where bytes that spell none go wrong.
use Rattle.std.specs.Prelude.{◌≡◌, ℕ, ◌+◌, ◌≤◌, List, [], ◌∷◌, ◌++◌, length, filter_map, codes}
use Rattle.std.specs.List.{AllZip}
use Rattle.script_lines.specs.declared.line.Line.{Line}
use Rattle.script_lines.specs.declared.line.Line.TheVariants as line
use Rattle.script_lines.specs.declared.answer.ScriptWhy.{ScriptWhy}
use Rattle.script_lines.specs.declared.answer.ScriptWhy.TheVariants as why
use Rattle.script_language.specs.Lines.{Spells}
use Rattle.script_language.specs.Scripts.{raw_lines, IsSkipped, IsScriptOf, IsBadAt}
use Rattle.trio_lines.specs.declared.line.TrioLine.{TrioLine}
use Rattle.trio_lines.specs.Lines.{shared_line, SpellsOwn, SpellsTrio}

-- the lines are spelled one after another, with skipped ones anywhere
pub data SpellTrios : List TrioLine → List (List ℕ) → Type 0 where
  done : SpellTrios [] []
  skipped : {lines : List TrioLine} {raw : List ℕ} {raws : List (List ℕ)} → IsSkipped raw → SpellTrios lines raws → SpellTrios lines (raw ∷ raws)
  spelled :
      {one : TrioLine} {raw : List ℕ} {lines : List TrioLine} {raws : List (List ℕ)} → SpellsTrio one raw → SpellTrios lines raws
      → SpellTrios (one ∷ lines) (raw ∷ raws)

-- the lines that two servers' scripts have, too
abbrev pub shared_lines : List TrioLine → List Line
shared_lines = filter_map shared_line

-- `#` stands in the place of an own line, and each other line as it is
pub data Masks : List ℕ → List ℕ → Type 0 where
  own : {raw : List ℕ} (line : TrioLine) → SpellsOwn line raw → Masks raw (codes "#")
  other : {raw : List ℕ} → ((line : TrioLine) → ¬ SpellsOwn line raw) → Masks raw raw

-- the bytes with each own line replaced by `#`
abbrev pub AreMasked : List ℕ → List ℕ → Type 0
AreMasked bytes masked = AllZip Masks (raw_lines bytes) (raw_lines masked)

abbrev pub IsCluster : Line → Type 0
IsCluster (line.Cluster start queue callbacks alarm ntf sys) = Unit {0}
IsCluster _ = ⊥

-- none of these is a cluster line
abbrev pub AreUnbegun : List (List ℕ) → Type 0
AreUnbegun [] = Unit {0}
AreUnbegun (raw ∷ raws) = ((one : Line) → Spells one raw → ¬ IsCluster one) × AreUnbegun raws

-- the line of this number, counted from 1, is an own one, and no cluster line stands above it
pub record IsEarly (bytes : List ℕ) (number : ℕ) : Type 0 where
  pub above : List (List ℕ)
  pub own : List ℕ
  pub below : List (List ℕ)
  pub line : TrioLine
  pub parts : raw_lines bytes ≡ above ++ own ∷ below
  pub place : number ≡ 1 + length above
  pub spelled : SpellsOwn line own
  pub unbegun : AreUnbegun above

-- the bytes spell these lines: with `#` in the place of own lines they are a script of the others, and a cluster line stands above each own one
pub record IsTrioOf (lines : List TrioLine) (bytes : List ℕ) : Type 0 where
  pub spelled : SpellTrios lines (raw_lines bytes)
  pub masked : List ℕ
  pub masks : AreMasked bytes masked
  pub script : IsScriptOf (shared_lines lines) masked
  pub begun : (number : ℕ) → ¬ IsEarly bytes number

-- why a line is bad: with `#` in the place of own lines the bytes are bad there, or it is an own one with no cluster line above it
pub data IsFault (bytes : List ℕ) : ℕ → ScriptWhy → Type 0 where
  shared : {number : ℕ} {reason : ScriptWhy} (masked : List ℕ) → AreMasked bytes masked → IsBadAt masked number reason → IsFault bytes number reason
  early : {number : ℕ} → IsEarly bytes number → IsFault bytes number why.Cluster

-- the least bad line of the bytes, counted from 1, and its reason
pub record IsBadTrioAt (bytes : List ℕ) (number : ℕ) (reason : ScriptWhy) : Type 0 where
  pub fault : IsFault bytes number reason
  pub least : (other : ℕ) (why : ScriptWhy) → IsFault bytes other why → number ≤ other
