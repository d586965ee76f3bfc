-- Words of public clauses: a script or an expression that passes, and a text that is no expression.
use Rattle.std.specs.Prelude.{◌≡◌, ℕ, List, ◌++◌, length, codes}
use Rattle.std.specs.Fmt.{decimal}
use Rattle.ais_values.specs.declared.kind.StreamKind.{StreamKind}
use Rattle.format_expr.specs.declared.piece.Piece.{Piece}
use Rattle.format_expr.specs.declared.fault.ExprFault.{ExprFault}
use Rattle.format_expr.specs.Language.{ArePiecesOf}
use Rattle.format_expr.specs.Faults.{IsFault, word_of}
use Rattle.script_lines.specs.declared.line.Line.{Line}
use Rattle.script_language.specs.Scripts.{IsScriptOf}

-- the lines of a script are counted: all but blank lines and comments
pub record ScriptPasses (bytes text : List ℕ) : Type 0 where
  pub lines : List Line
  pub script : IsScriptOf lines bytes
  pub printed : text ≡ codes "ok " ++ (decimal (length lines) ++ codes "\n")

-- the text is an expression: its pieces are counted, and it has no fault
pub record TextPasses (kind : StreamKind) (text printed : List ℕ) : Type 0 where
  pub pieces : List Piece
  pub spelled : ArePiecesOf kind pieces text
  pub faultless : (fault : ExprFault) → IsFault kind text fault → ⊥
  pub shown : printed ≡ codes "ok " ++ (decimal (length pieces) ++ codes "\n")

-- the text is none: its fault is told
pub record TextFails (kind : StreamKind) (text printed : List ℕ) : Type 0 where
  pub fault : ExprFault
  pub found : IsFault kind text fault
  pub shown : printed ≡ codes "bad " ++ (decimal fault.place ++ (codes " " ++ (word_of fault.why ++ codes "\n")))
