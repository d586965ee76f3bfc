use Rattle.std.proofs.Common.{sym, ap, subst, ◌∙◌, List, ℕ}
use Rattle.ais_values.specs.declared.kind.StreamKind.{StreamKind}
use Rattle.format_expr.specs.Reading.{pieces_of}
use Rattle.format_expr.proofs.ReadingLaws.{parse_is_read}
use Rattle.stream_config.specs.Attributes.{IsFormat}
use Rattle.log_service.proofs.live.expression.Goals as goal

pub known_expr-requires-clause-valid : goal.known_expr-requires-clause-valid
known_expr-requires-clause-valid c =
    let kind_is = subst (λ (kind : StreamKind). IsFormat kind c.args.attrs.now.expr) (sym c.kind.ensures) c.requires.format in
    (subst (λ (bytes : List ℕ). IsFormat c.kind.result bytes) (sym c.as_slice.ensures.bytes) kind_is).valid

pub known_expr-requires-clause-bound : goal.known_expr-requires-clause-bound
known_expr-requires-clause-bound c =
    let kind_is = subst (λ (kind : StreamKind). IsFormat kind c.args.attrs.now.expr) (sym c.kind.ensures) c.requires.format in
    (subst (λ (bytes : List ℕ). IsFormat c.kind.result bytes) (sym c.as_slice.ensures.bytes) kind_is).bound

pub returns : goal.returns
returns c =
    sym (parse_is_read c.kind.result c.in_ok-expr.expr.pieces c.as_slice.result.now c.in_ok-expr.ensures.pieces) ∙ ap pieces_of c.as_slice.ensures.bytes
