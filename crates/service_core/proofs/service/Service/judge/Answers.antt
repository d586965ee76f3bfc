use Rattle.std.proofs.Common.{ap, sym, ◌∙◌, subst}
use Rattle.ntf_history.specs.Tables.{HaveQueues}
use Rattle.plain_service.specs.Replies.{replies_to}
use Rattle.plain_service.specs.Values.{StandsFor}
use Rattle.client_set.specs.Rising.{IsRising}
use Rattle.service_table.specs.Tables.{window_before}
use Rattle.service_table.specs.Steps.{window_for}
use Rattle.service_table.proofs.SavedLaws.{stands-table}
use Rattle.service_core.specs.Inside.{kept_table}
use Rattle.service_core.specs.declared.kept.Whole.{Whole}
use Rattle.service_core.specs.Valuing.{window_in}
use Rattle.service_core.proofs.FollowLaws.{window-is}
use Rattle.service_core.proofs.ValueLaws.{windows-rise, window-saved}
use Rattle.service_core.proofs.service.Service.judge.Goals as goal

pub judge_call-requires : goal.judge_call-requires
judge_call-requires c =
    subst (IsRising window_before) (sym (c.as_slice.ensures.value ∙ ap (λ (whole : Whole). whole.kept.callers.items) c.deref-2.ensures)) (windows-rise (kept_table c.self.inside.whole.value.kept) c.self.invariant.fit)

pub returns : goal.returns
returns c =
    let kept = kept_table c.self.inside.whole.value.kept in
    let callers = ap (window_for c.args.client) (c.as_slice.ensures.value ∙ ap (λ (whole : Whole). whole.kept.callers.items) c.deref-2.ensures) in
    let sound = subst (λ (whole : Whole). HaveQueues whole.kept.parts.ntf.table.capacity whole.kept.parts.ntf.table.subs) c.deref.ensures c.show_sound.ensures in
    record {
      value = λ replies is.
          c.judge_call.ensures replies (callers ∙ sym (window-saved kept c.args.client) ∙ ap (λ saved. window_in saved c.args.client) c.self.view_is ∙ is);
      history = λ setup past history stands.
          let is = stands-table setup past kept sound (subst (StandsFor setup past) (sym c.self.view_is) stands) in
          c.judge_call.ensures (replies_to setup c.args.client past) (callers ∙ window-is setup past c.args.client kept is);
    }
