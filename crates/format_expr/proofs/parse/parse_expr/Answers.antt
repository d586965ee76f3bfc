use Rattle.std.proofs.Common.{refl}
use Rattle.format_expr.proofs.FaultLaws.{hand_on, no_fault}
use Rattle.format_expr.proofs.parse.parse_expr.Goals as goal

pub returns-in-Err-clause-bad : goal.returns-in-Err-clause-bad
returns-in-Err-clause-bad c = λ fault. hand_on c.in-Err.fault fault c.check_expr.result _ c.in-Err.is refl (c.check_expr.ensures.refused fault)

pub known_expr-requires-clause-valid : goal.known_expr-requires-clause-valid
known_expr-requires-clause-valid c = ((c.in-Ok.ensures.ok).0 refl).0

pub known_expr-requires-clause-bound : goal.known_expr-requires-clause-bound
known_expr-requires-clause-bound c = ((c.in-Ok.ensures.ok).0 refl).1

pub returns-in-Err-known_expr-clause-bad : goal.returns-in-Err-known_expr-clause-bad
returns-in-Err-known_expr-clause-bad c = λ fault. (λ e. absurd cc, λ is. absurd (no_fault c.check_expr.result _ fault c.in-Ok.is (c.check_expr.ensures.refused fault) is))

pub returns-in-Ok-known_expr-clause-bad : goal.returns-in-Ok-known_expr-clause-bad
returns-in-Ok-known_expr-clause-bad c = λ fault. (λ e. absurd cc, λ is. absurd (no_fault c.check_expr.result _ fault c.in-Ok.is (c.check_expr.ensures.refused fault) is))

pub returns-in-Ok-known_expr-clause-pieces : goal.returns-in-Ok-known_expr-clause-pieces
returns-in-Ok-known_expr-clause-pieces c = c.in-Ok-known_expr.ensures.pieces

pub returns-in-Ok-known_expr-clause-only : goal.returns-in-Ok-known_expr-clause-only
returns-in-Ok-known_expr-clause-only c = c.in-Ok-known_expr.ensures.only
