use Rattle.std.proofs.Common.{ap, sym, subst}
use Rattle.service_table.specs.Tables.{saved_table}
use Rattle.service_core.specs.declared.kept.Whole.{Whole}
use Rattle.service_core.specs.Inside.{kept_table, IsKeptAs}
use Rattle.service_core.proofs.service.service_of.Goals as goal

pub invariant_of-result : goal.invariant_of-result
invariant_of-result c =
    subst (λ (whole : Whole). IsKeptAs (kept_table whole.kept) whole.cap) (sym c.in_ok-whole.ensures.ok) c.requires

pub returns : goal.returns
returns c =
    ap (λ (whole : Whole). saved_table (kept_table whole.kept)) c.in_ok-whole.ensures.ok
