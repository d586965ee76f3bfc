use Rattle.std.proofs.Common.{subst, ◌∙◌}
use Rattle.record_print.specs.Sheets.{Adds}
use Rattle.record_print.proofs.LineLaws.{pieces_text-more}
use Rattle.record_print.proofs.SheetLaws.{adds_then}
use Rattle.record_print.proofs.sheet.Sheet.put_pieces.Goals as goal

pub loop-piece-preserved : goal.loop-piece-preserved
loop-piece-preserved c =
    record {
      kept = record { limit = c.put_piece.ensures.kept.limit ∙ c.loop-piece.invariant.kept.limit; size = c.put_piece.ensures.kept.size ∙ c.loop-piece.invariant.kept.size };
      text = λ half figures.
          subst (Adds c.args.self.now c.put_piece.new.self)
          (pieces_text-more half c.args.figures.now.number c.args.figures.now.mark c.args.rec.now c.args.pieces.now c.loop-piece.piece-index c.piece-item.result c.loop-piece-test.true c.piece-item.is)
          (adds_then _ _ _ _ _ (c.loop-piece.invariant.text half figures) (c.put_piece.ensures.text half figures));
    }
