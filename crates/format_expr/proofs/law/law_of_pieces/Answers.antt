use Rattle.std.proofs.Common.{sym}
use Rattle.format_expr.proofs.ReadingLaws.{read_spells, parse_is_read}
use Rattle.format_expr.proofs.law.law_of_pieces.Goals as goal

pub returns-clause-pieces : goal.returns-clause-pieces
returns-clause-pieces c = read_spells

pub returns-clause-only : goal.returns-clause-only
returns-clause-only c = λ kind pieces text spells. sym (parse_is_read kind pieces text spells)
