use Rattle.std.proofs.Common.{ap, sym, ◌∙◌, subst}
use Rattle.plain_service.specs.Fitness.{IsFit}
use Rattle.service_table.specs.Tables.{saved_table}
use Rattle.service_core.specs.Inside.{kept_table}
use Rattle.service_core.specs.declared.kept.Whole.{Whole}
use Rattle.service_core.proofs.service.Service.save.Goals as goal

pub returns-clause-fit : goal.returns-clause-fit
returns-clause-fit c = subst IsFit (sym (c.in_ok-saved.ensures ∙ ap (λ (whole : Whole). saved_table (kept_table whole.kept)) c.deref.ensures)) c.self.invariant.fit
