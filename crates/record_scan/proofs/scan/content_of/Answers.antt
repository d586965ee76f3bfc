use Rattle.record_scan.proofs.ContentLaws.{no_end, content_at}
use Rattle.record_scan.proofs.scan.content_of.Goals as goal

pub returns-in-None-content_end : goal.returns-in-None-content_end
returns-in-None-content_end c = no_end c.args.pieces.now c.args.size c.args.bytes.now c.in-Some.body.now c.in-Some.ensures c.in-None-content_end.ensures

pub returns-in-Some-content_end : goal.returns-in-Some-content_end
returns-in-Some-content_end c = content_at c.args.pieces.now c.args.size c.args.bytes.now c.in-Some.body.now c.in-Some-content_end.end c.in-Some.ensures c.in-Some-content_end.ensures
