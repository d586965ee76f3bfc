use Rattle.std.proofs.Common.{refl, sym}
use Rattle.std.proofs.lemmas.List.{take_rest}
use Rattle.record_scan.proofs.ContentLaws.{fixed_ends}
use Rattle.record_scan.proofs.scan.content_end.Goals as goal

pub returns-then-are_spaces : goal.returns-then-are_spaces
returns-then-are_spaces c =
    fixed_ends c.args.pieces.now c.args.size c.args.body.now _ c.total_places-end.result c.if-size-eq0.false (sym c.if-has_variable.ensures) c.total_places-end.ensures c.if-end-body.true
    (take_rest c.args.body.now c.total_places-end.result) (c.if-are_spaces.ensures.0 refl)
