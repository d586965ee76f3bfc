use Rattle.std.proofs.Common.{sym, subst, Bool}
use Rattle.std.specs.Prelude.{IsTrue, ◌↔◌}
use Rattle.plain_service.specs.Fitness.{IsFitMark}
use Rattle.saved_fit.proofs.MarkLaws.{decides_mark}
use Rattle.saved_fit.proofs.streams.is_fit_mark.Goals as goal

pub returns : goal.returns
returns c =
    subst (λ (b : Bool). IsTrue b ↔ IsFitMark c.args.number c.args.name.now c.args.mark) (sym c.passes_mark.ensures) (decides_mark c.args.number c.args.name.now c.args.mark)
