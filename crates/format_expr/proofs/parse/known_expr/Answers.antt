use Rattle.std.proofs.Common.{◌≤◌, length, ap, sym, ◌∙◌, subst}
use Rattle.format_expr.specs.Language.{ArePiecesOf, spelling, are_pieces}
use Rattle.format_expr.proofs.ReadingLaws.{read_spells, parse_is_read}
use Rattle.format_expr.proofs.parse.known_expr.Goals as goal

pub invariant_of-result : goal.invariant_of-result
invariant_of-result c =
    let spells = read_spells c.args.kind c.args.text.now c.requires.valid in
    let pieces = c.from_vec.ensures ∙ c.in_ok-pieces.ensures in
    record {
      parsed = ap (are_pieces c.args.kind) pieces ∙ spells.valid;
      bounded = subst (λ bs. length bs ≤ 1024) (spells.spelled ∙ ap spelling (sym pieces)) c.requires.bound;
    }

pub returns-clause-pieces : goal.returns-clause-pieces
returns-clause-pieces c =
    let pieces = c.from_vec.ensures ∙ c.in_ok-pieces.ensures in
    subst (λ ps. ArePiecesOf c.args.kind ps c.args.text.now) (sym pieces) (read_spells c.args.kind c.args.text.now c.requires.valid)

pub returns-clause-only : goal.returns-clause-only
returns-clause-only c =
    let pieces = c.from_vec.ensures ∙ c.in_ok-pieces.ensures in
    λ others spells. sym (parse_is_read c.args.kind others c.args.text.now spells) ∙ sym pieces
