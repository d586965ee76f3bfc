use Rattle.std.proofs.Common.{◌∙◌, sym}
use Rattle.trio_lines.proofs.Weaving.{weave-skipped, weave-own, weave-shared, weave-lacks}
use Rattle.trio_lines.proofs.reading.weave.Goals as goal

pub returns-then-skips : goal.returns-then-skips
returns-then-skips c shared all raws h =
    weave-skipped shared all c.args.lines.now c.args.left.now c.args.raw.now raws (sym c.skips.ensures ∙ c.if-skips.true) h

pub returns-in-Some : goal.returns-in-Some
returns-in-Some c shared all raws h =
    weave-own shared all c.args.lines.now c.push.new.self c.args.left.now c.args.raw.now raws c.in-Some.line (sym c.in-Some.ensures) c.in_ok-push.ensures.ok h

pub returns-in_ok-push-in-Some-next : goal.returns-in_ok-push-in-Some-next
returns-in_ok-push-in-Some-next c shared all raws h =
    let taken = c.in-Some-next.ensures.cases in
    weave-shared shared all c.args.lines.now c.push-in-Some-next.new.self c.args.left.now c.next.new.self c.args.raw.now raws c.in-Some-next.line
    (sym c.skips.ensures ∙ c.if-skips.false) (sym c.own_line.ensures ∙ c.in_default.is) taken.0 taken.1 c.in_ok-push-in-Some-next.ensures.ok h

pub returns-in-None : goal.returns-in-None
returns-in-None c shared all raws h =
    weave-lacks shared all c.args.lines.now c.args.left.now c.next.new.self c.args.raw.now raws
    (sym c.skips.ensures ∙ c.if-skips.false) (sym c.own_line.ensures ∙ c.in_default.is) c.in-None.ensures.cases.0 h
