use Rattle.std.proofs.Common.{◌≡◌, ◌-◌, ℕ, suc, drop, get_or, ap, sym, ◌∙◌, subst, arith}
use Rattle.std.specs.Prelude.{pos, None}
use Rattle.stream_config.specs.declared.state.LogFile.{LogFile}
use Rattle.stream_config.specs.Fit.{next_first, IsFilled}
use Rattle.saved_fit.proofs.FillingLaws.{filled-at}
use Rattle.saved_fit.proofs.filling.are_filled.Goals as goal

pub returns-then-not-is_filled : goal.returns-then-not-is_filled
returns-then-not-is_filled c =
    let attrs = c.args.attrs.now in
    let taken = c.args.taken in
    let files = c.args.files.now in
    let place = c.loop-i.i - 1 in
    let none : LogFile = record { created = pos 0; closed = None; first = 0; bytes = 0 } in
    let above : suc place ≡ c.loop-i.i = omega (arith, c.loop-i-test.true) in
    let next : next_first (drop (suc place) files) taken ≡ c.loop-i.next = ap (λ k. next_first (drop k files) taken) above ∙ sym c.loop-i.invariant.0 in
    (λ e. absurd cc, λ all. c.if-not-is_filled.ensures.1 (subst (λ (n : ℕ). IsFilled attrs taken n (get_or files place none)) next (filled-at attrs taken files place none (omega (arith, c.loop-i-test.true, c.loop-i.auto.i)) all)))
