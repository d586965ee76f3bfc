use Rattle.std.proofs.Common.{ap, sym, ◌∙◌, subst}
use Rattle.client_set.specs.Rising.{IsRising}
use Rattle.service_table.specs.Tables.{window_before}
use Rattle.service_table.specs.Steps.{window_for}
use Rattle.service_core.specs.Applying.{next_in}
use Rattle.service_core.specs.Inside.{kept_table}
use Rattle.service_core.specs.declared.kept.Whole.{Whole}
use Rattle.service_core.proofs.FollowLaws.{next-is}
use Rattle.service_core.proofs.ValueLaws.{windows-rise}
use Rattle.service_core.proofs.service.Service.next.Goals as goal

pub next_call-requires : goal.next_call-requires
next_call-requires c =
    subst (IsRising window_before) (sym (c.as_slice.ensures.value ∙ ap (λ (whole : Whole). whole.kept.callers.items) c.deref.ensures)) (windows-rise (kept_table c.self.inside.whole.value.kept) c.self.invariant.fit)

pub returns : goal.returns
returns c =
    c.next_call.ensures ∙ ap (λ callers. (window_for c.args.client callers).next) c.as_slice.ensures.value
    ∙ ap (λ (whole : Whole). (window_for c.args.client whole.kept.callers.items).next) c.deref.ensures
    ∙ sym (next-is (kept_table c.self.inside.whole.value.kept) c.args.client)
    ∙ ap (λ saved. next_in saved c.args.client) c.self.view_is
