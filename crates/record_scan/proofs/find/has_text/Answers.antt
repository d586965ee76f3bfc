use Rattle.record_scan.proofs.ScanLaws.{has_found, has_none}
use Rattle.record_scan.proofs.find.has_text.Goals as goal

pub returns-in-Some : goal.returns-in-Some
returns-in-Some c =
    has_found c.args.expr.now.pieces c.args.size c.args.token c.args.wanted.now c.args.bytes.now c.in-Some.texts c.as_slice.result.now c.in_ok-texts.field-0 c.is_text-found.result
    c.in-Some.is c.in_ok-texts.ensures.texts c.as_slice.ensures c.is_text-found.ensures

pub returns-in-None : goal.returns-in-None
returns-in-None c = has_none c.args.expr.now.pieces c.args.size c.args.token c.args.wanted.now c.args.bytes.now c.in_ok-texts.field-0 c.in-None.is c.in_ok-texts.ensures.texts
