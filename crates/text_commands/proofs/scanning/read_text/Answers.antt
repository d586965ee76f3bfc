use Rattle.std.proofs.Common.{Err, ap}
use Rattle.text_commands.proofs.scanning.read_text.Goals as goal

pub returns-in_ok-read-in-Ok : goal.returns-in_ok-read-in-Ok
returns-in_ok-read-in-Ok c =
    let pieces = c.in-Ok.ensures in
    c.in_ok-read-in-Ok.ensures c.args.text.now (record { spelled = pieces.pieces; faultless = λ fault found. let bad = (pieces.bad fault).1 found in cc })

pub returns-in-Err : goal.returns-in-Err
returns-in-Err c = c.refused.ensures c.args.text.now (λ fault is. (c.in-Err.ensures.bad fault).0 (ap Err is))
