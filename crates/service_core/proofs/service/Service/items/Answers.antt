use Rattle.std.proofs.Common.{ap, sym, ◌∙◌, subst}
use Rattle.ntf_history.specs.Tables.{HaveQueues}
use Rattle.plain_service.specs.Values.{StandsFor}
use Rattle.service_core.specs.Holding.{items_in}
use Rattle.service_core.specs.Inside.{kept_table}
use Rattle.service_core.specs.declared.kept.Whole.{Whole}
use Rattle.service_core.specs.Valuing.{items_held}
use Rattle.service_core.proofs.HoldingLaws.{items-stand, items-saved}
use Rattle.service_core.proofs.service.Service.items.Goals as goal

pub returns-clause-value : goal.returns-clause-value
returns-clause-value c =
    c.in_ok-items.ensures ∙ ap (λ (whole : Whole). items_in whole.kept.parts.ntf.table) c.deref-2.ensures ∙ sym (items-saved c.self.inside.whole.value.kept.parts.ntf.table.subs) ∙ ap items_held c.self.view_is

pub returns-clause-history : goal.returns-clause-history
returns-clause-history c =
    λ setup past stands.
    let sound = subst (λ (whole : Whole). HaveQueues whole.kept.parts.ntf.table.capacity whole.kept.parts.ntf.table.subs) c.deref.ensures c.show_sound.ensures in
    c.in_ok-items.ensures ∙ ap (λ (whole : Whole). items_in whole.kept.parts.ntf.table) c.deref-2.ensures ∙ items-stand setup past (kept_table c.self.inside.whole.value.kept) sound (subst (StandsFor setup past) (sym c.self.view_is) stands)
