use Rattle.format_expr.proofs.TokenLaws.{part_with-told, part_with-letters}
use Rattle.format_expr.proofs.law.law_of_tokens.Goals as goal

pub returns-clause-told : goal.returns-clause-told
returns-clause-told c = part_with-told

pub returns-clause-only : goal.returns-clause-only
returns-clause-only c = λ part class field. part_with-letters class field part
