-- Words of bodies alone: own lines and others in the order of the bytes.
use Rattle.std.specs.Prelude.{◌≡◌, ℕ, ◌+◌, ◌≤◌, List, [], ◌∷◌, ◌++◌, length}
use Rattle.std.specs.List.{AllZip}
use Rattle.std.specs.Vec.Iter.{into_iter_items, into_iter_len}
use Rattle.std.specs.declared.vec.IntoIter.{IntoIter}
use Rattle.std.specs.declared.alloc.Global.{Global}
use Rattle.script_lines.specs.declared.line.Line.{Line}
use Rattle.script_language.specs.Scripts.{SpellAll}
use Rattle.trio_lines.specs.declared.line.TrioLine.{TrioLine}
use Rattle.trio_lines.specs.Lines.{SpellsOwn}
use Rattle.trio_lines.specs.Scripts.{SpellTrios, shared_lines, Masks}

-- an own line is the first that is not skipped, and has this number where lines are counted from some number
pub record BeginsOwn (first : ℕ) (raws : List (List ℕ)) (number : ℕ) : Type 0 where
  pub above : List (List ℕ)
  pub own : List ℕ
  pub below : List (List ℕ)
  pub line : TrioLine
  pub parts : raws ≡ above ++ own ∷ below
  pub place : number ≡ first + length above
  pub skipped : SpellAll [] above
  pub spelled : SpellsOwn line own

-- what stands for a line, with its LF, behind what was written before
pub record PutsMasked (raw before after : List ℕ) : Type 0 where
  pub masked : List ℕ
  pub masks : Masks raw masked
  pub short : length masked ≤ length raw
  pub is : after ≡ before ++ (masked ++ 10 ∷ [])

-- with `#` in the place of own lines these lines are spelled
pub record Fits (shared : List Line) (raws : List (List ℕ)) : Type 0 where
  pub masked : List (List ℕ)
  pub masks : AllZip Masks raws masked
  pub spelled : SpellAll shared masked

-- own lines stand among the shared ones as the bytes spell them
pub record IsWoven (lines : List TrioLine) (shared : List Line) (raws : List (List ℕ)) : Type 0 where
  pub spelled : SpellTrios lines raws
  pub are_shared : shared_lines lines ≡ shared

-- so far these lines are woven; the shared ones that are left are spelled in what is left of the bytes, and lines woven of both complete the whole
pub record Weaves (shared : List Line) (all : List (List ℕ)) (lines : List TrioLine) (left : IntoIter Line Global) (raws : List (List ℕ)) : Type 0 where
  pub rest : List Line
  pub items : into_iter_items left ≡ rest
  pub count : into_iter_len left ≡ length rest
  pub fits : Fits rest raws
  pub goes_on : (more : List TrioLine) → IsWoven more rest raws → IsWoven (lines ++ more) shared all
