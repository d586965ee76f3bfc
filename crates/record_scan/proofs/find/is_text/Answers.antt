use Rattle.std.proofs.Common.{◌<◌, arith}
use Rattle.record_scan.proofs.NumberLaws.{text_decided, no_text}
use Rattle.record_scan.proofs.find.is_text.Goals as goal

pub returns-in-Some : goal.returns-in-Some
returns-in-Some c =
    let some : 0 < c.args.token = omega arith in
    text_decided c.args.texts.now c.args.token c.args.wanted.now c.as_slice.result.now c.in-Some.text.now c.eq.result some c.in-Some.ensures.lookup.3.0 c.in-Some.ensures.lookup.1 c.as_slice.ensures c.eq.ensures

pub returns-in-None : goal.returns-in-None
returns-in-None c = no_text c.args.texts.now c.args.token c.args.wanted.now c.in-None.ensures.lookup.3
