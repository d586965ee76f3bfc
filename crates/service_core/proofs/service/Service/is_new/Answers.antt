use Rattle.std.proofs.Common.{ap, sym, ◌∙◌, subst}
use Rattle.ntf_history.specs.Tables.{HaveQueues, is_new_in as is_new_for_table}
use Rattle.plain_service.specs.Values.{StandsFor}
use Rattle.service_core.specs.Applying.{is_new_in}
use Rattle.service_core.specs.Inside.{kept_table}
use Rattle.service_core.specs.declared.kept.Whole.{Whole}
use Rattle.service_core.proofs.FollowLaws.{new-is, new-stands}
use Rattle.service_core.proofs.service.Service.is_new.Goals as goal

pub returns : goal.returns
returns c =
    let kept = kept_table c.self.inside.whole.value.kept in
    let is = c.is_new.ensures ∙ ap (λ (whole : Whole). is_new_for_table whole.kept.parts.ntf.table c.args.client c.args.key c.args.through) c.deref-2.ensures in
    let sound = subst (λ (whole : Whole). HaveQueues whole.kept.parts.ntf.table.capacity whole.kept.parts.ntf.table.subs) c.deref.ensures c.show_sound.ensures in
    record {
      value = is ∙ sym (new-is kept c.args.client c.args.key c.args.through) ∙ ap (λ saved. is_new_in saved c.args.client c.args.key c.args.through) c.self.view_is;
      history = λ setup past stands. is ∙ new-stands setup past kept sound (subst (StandsFor setup past) (sym c.self.view_is) stands) c.args.client c.args.key c.args.through;
    }
