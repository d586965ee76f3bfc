use Rattle.std.proofs.Common.{sym}
use Rattle.record_scan.proofs.SeparableLaws.{first_second, end_in_way, separable_end}
use Rattle.record_scan.proofs.in_way.first_in_way.Goals as goal

pub returns-in-Some-clause-way : goal.returns-in-Some-clause-way
returns-in-Some-clause-way c = first_second c.args.pieces.now c.args.size c.in-Some.piece c.in-Some.ensures.piece

pub returns-then-has_open_end-clause-way : goal.returns-then-has_open_end-clause-way
returns-then-has_open_end-clause-way c = end_in_way c.args.pieces.now c.args.size c.in-None.ensures.piece (sym c.if-has_open_end.ensures)

pub returns-else-has_open_end-clause-way : goal.returns-else-has_open_end-clause-way
returns-else-has_open_end-clause-way c = separable_end c.args.pieces.now c.args.size c.in-None.ensures.piece (sym c.if-has_open_end.ensures)
