use Rattle.record_print.proofs.LineLaws.{cut_mark-cut, cut_mark-whole}
use Rattle.record_print.proofs.law.law_of_cut_marks.Goals as goal

pub returns-clause-cut : goal.returns-clause-cut
returns-clause-cut c = cut_mark-cut

pub returns-clause-whole : goal.returns-clause-whole
returns-clause-whole c = cut_mark-whole
