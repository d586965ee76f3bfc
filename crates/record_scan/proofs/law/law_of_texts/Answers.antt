use Rattle.record_scan.proofs.ScanLaws.{texts_only}
use Rattle.record_scan.proofs.law.law_of_texts.Goals as goal

pub returns : goal.returns
returns c = texts_only
