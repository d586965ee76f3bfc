use Rattle.script_printer.proofs.Chain.{chained}
use Rattle.script_printer.proofs.streams.put_option.Goals as goal

pub returns : goal.returns
returns c = chained _ _ _ _ _ (chained _ _ _ _ _ c.in_ok-put.ensures c.in_ok-put-2.ensures) c.in_ok-put_piece.ensures
