use Rattle.std.proofs.Common.{◌+◌, ◌++◌, ◌∙◌, [], ◌∷◌, take, sym, ap}
use Rattle.std.proofs.lemmas.List.{take_more}
use Rattle.script_printer.proofs.Chain.{flat_step}
use Rattle.script_printer.proofs.pieces.put_all.Goals as goal

pub loop-piece-preserved : goal.loop-piece-preserved
loop-piece-preserved g c =
    let pieces = c.args.pieces.now in
    let i = c.loop-piece.piece-index in
    flat_step g.P.Printable.text (take i pieces) (take (i + 1) pieces) c.piece-item.result c.args.out.now.items c.loop-piece.out.items c.print.new.out.items
    (take_more pieces i c.piece-item.result c.loop-piece-test.true ∙ ap (λ x. take i pieces ++ x ∷ []) (sym c.piece-item.is))
    c.loop-piece.invariant c.in_ok-print.ensures
