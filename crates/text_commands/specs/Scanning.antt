-- Words of public clauses: what the commands `scan` and `find` make of a text.
use Rattle.std.specs.Prelude.{◌≡◌, ℕ, List, ◌++◌, codes}
use Rattle.std.specs.Fmt.{decimal}
use Rattle.ais_values.specs.declared.kind.StreamKind.{StreamKind}
use Rattle.format_expr.specs.declared.piece.Piece.{Piece}
use Rattle.format_expr.specs.declared.fault.ExprFault.{ExprFault}
use Rattle.format_expr.specs.Language.{ArePiecesOf}
use Rattle.format_expr.specs.Faults.{IsFault}
use Rattle.record_scan.specs.Separable.{IsSeparable, IsFirstInWay}
use Rattle.commands.specs.declared.command.RecordQuery.{RecordQuery}

-- the text is an expression of these pieces
pub record IsExprOf (kind : StreamKind) (pieces : List Piece) (text : List ℕ) : Type 0 where
  pub spelled : ArePiecesOf kind pieces text
  pub faultless : (fault : ExprFault) → IsFault kind text fault → ⊥

-- it is, and in records of the size the texts of its tokens can be told apart
pub record IsParted (query : RecordQuery) (text : List ℕ) (pieces : List Piece) : Type 0 where
  pub expr : IsExprOf query.kind pieces text
  pub separable : IsSeparable pieces query.size

-- it is, but they cannot: the first piece in the way is told
pub record CannotPart (query : RecordQuery) (text printed : List ℕ) : Type 0 where
  pub pieces : List Piece
  pub expr : IsExprOf query.kind pieces text
  pub piece : ℕ
  pub first : IsFirstInWay pieces query.size piece
  pub shown : printed ≡ codes "inseparable " ++ (decimal piece ++ codes "\n")
