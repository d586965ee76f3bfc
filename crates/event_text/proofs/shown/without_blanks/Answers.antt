use Rattle.std.proofs.Common.{◌≡◌, ◌-◌, take, refl, arith}
use Rattle.std.proofs.lemmas.Grind.{common_steps}
use Rattle.event_text.specs.Texts.{trimmed}
use Rattle.event_text.proofs.ShownText.{back-step, back-end}
use Rattle.event_text.proofs.shown.without_blanks.Goals as goal

pub loop-end-preserved : goal.loop-end-preserved
loop-end-preserved c =
    record { within = omega arith; same = back-step c.args.line.now c.loop-end.end (c.loop-end.end - 1) c.loop-end.invariant.within refl (cc) c.loop-end.invariant.same }

pub returns : goal.returns
returns c =
    let e : take c.loop-end.end c.args.line.now ≡ trimmed c.args.line.now = back-end c.args.line.now c.loop-end.end c.loop-end.invariant.within (cc) c.loop-end.invariant.same in
    grind (arith, common_steps)
