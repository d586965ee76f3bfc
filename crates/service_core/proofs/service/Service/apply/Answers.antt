use Rattle.std.proofs.Common.{◌≡◌, rules, ap, sym, ◌∙◌, subst, to_z, of_z, w64}
use Rattle.ntf_history.specs.Tables.{HaveQueues, is_new_in as is_new_for_table}
use Rattle.calls.specs.declared.entry.Entry.TheVariants.{Called, Receipted}
use Rattle.plain_service.specs.Legal.{CanFollow}
use Rattle.plain_service.specs.Values.{StandsFor}
use Rattle.service_table.specs.Tables.{saved_table}
use Rattle.service_table.specs.Steps.{after_receipt_in, window_for}
use Rattle.service_core.specs.Applying.{CanApply, next_in, is_new_in}
use Rattle.service_core.specs.Following.{HasFollowed}
use Rattle.service_core.specs.Inside.{kept_table, HasApplied}
use Rattle.service_core.specs.declared.kept.Whole.{Whole}
use Rattle.service_core.specs.Valuing.{Applies}
use Rattle.service_core.proofs.FollowLaws.{next-is, new-is, followed-call, followed-receipt}
use Rattle.service_core.proofs.ValueLaws.{call-applies, receipt-applies}
use Rattle.service_core.proofs.service.Service.apply.Goals as goal

pub apply_call-requires-clause-next : goal.apply_call-requires-clause-next
apply_call-requires-clause-next c =
    let can = subst (λ entry. CanApply entry c.args.self.now) c.in-Called.is c.requires in
    can.1 ∙ ap (λ saved. next_in saved c.in-Called.client) (sym c.self.view_is) ∙ next-is (kept_table c.self.inside.whole.value.kept) c.in-Called.client
    ∙ ap (λ (whole : Whole). (window_for c.in-Called.client whole.kept.callers.items).next) (sym c.deref_mut.ensures.value)

pub invariant_of-self-in-Called : goal.invariant_of-self-in-Called
invariant_of-self-in-Called c =
    record { fit = c.apply_call.ensures.fit; capacity = ap (λ (whole : Whole). whole.cap) c.deref_mut.ensures.value ∙ c.self.invariant.capacity ∙ ap (λ (whole : Whole). whole.kept.parts.ntf.table.capacity) (sym c.deref_mut.ensures.value) ∙ sym c.apply_call.ensures.capacity }

pub apply_receipt-requires-clause-new : goal.apply_receipt-requires-clause-new
apply_receipt-requires-clause-new c =
    let can = subst (λ entry. CanApply entry c.args.self.now) c.in-Receipted.is c.requires in
    ap (λ (whole : Whole). is_new_for_table whole.kept.parts.ntf.table c.in-Receipted.client c.in-Receipted.key c.in-Receipted.through) c.deref_mut-in-Receipted.ensures.value
    ∙ sym (new-is (kept_table c.self.inside.whole.value.kept) c.in-Receipted.client c.in-Receipted.key c.in-Receipted.through) ∙ ap (λ saved. is_new_in saved c.in-Receipted.client c.in-Receipted.key c.in-Receipted.through) c.self.view_is ∙ can.1

pub invariant_of-self-in-Receipted : goal.invariant_of-self-in-Receipted
invariant_of-self-in-Receipted c =
    record { fit = c.apply_receipt.ensures.fit; capacity = ap (λ (whole : Whole). whole.cap) c.deref_mut-in-Receipted.ensures.value ∙ c.self.invariant.capacity ∙ ap (λ (whole : Whole). whole.kept.parts.ntf.table.capacity) (sym c.deref_mut-in-Receipted.ensures.value) ∙ sym c.apply_receipt.ensures.capacity }

pub returns-in_ok-effect-in-Called-clause-ok : goal.returns-in_ok-effect-in-Called-clause-ok
returns-in_ok-effect-in-Called-clause-ok c =
    let kept = kept_table c.self.inside.whole.value.kept in
    let sound = subst (λ (whole : Whole). HaveQueues whole.kept.parts.ntf.table.capacity whole.kept.parts.ntf.table.subs) c.deref.ensures c.show_sound.ensures in
    let later = kept_table c.apply_call.new.kept in
    let time_is : to_z w64 (of_z w64 c.in-Called.time) ≡ c.in-Called.time = search rules in
    let applied = subst (λ moment. HasApplied kept c.in-Called.client c.in-Called.seq moment c.in-Called.call later c.in_ok-effect-in-Called.effect) time_is (subst (λ (whole : Whole). HasApplied (kept_table whole.kept) c.in-Called.client c.in-Called.seq (to_z w64 (of_z w64 c.in-Called.time)) c.in-Called.call later c.in_ok-effect-in-Called.effect) c.deref_mut.ensures.value (rw c.get.ensures at c.in_ok-effect-in-Called.ensures.ok)) in
    λ setup past history stands can.
    subst (λ entry. HasFollowed setup past entry (saved_table later) c.in_ok-effect-in-Called.effect) (sym c.in-Called.is) (followed-call setup past c.in-Called.client c.in-Called.seq c.in-Called.time c.in-Called.call kept later c.in_ok-effect-in-Called.effect sound history (subst (StandsFor setup past) (sym c.self.view_is) stands) (subst (λ entry. CanFollow setup entry past) c.in-Called.is can) applied)

pub returns-in-Receipted-clause-ok : goal.returns-in-Receipted-clause-ok
returns-in-Receipted-clause-ok c =
    let kept = kept_table c.self.inside.whole.value.kept in
    let sound = subst (λ (whole : Whole). HaveQueues whole.kept.parts.ntf.table.capacity whole.kept.parts.ntf.table.subs) c.deref.ensures c.show_sound.ensures in
    let later = kept_table c.apply_receipt.new.kept in
    let now = c.apply_receipt.ensures.now ∙ ap (λ (whole : Whole). after_receipt_in (kept_table whole.kept) c.in-Receipted.client c.in-Receipted.key c.in-Receipted.through) c.deref_mut-in-Receipted.ensures.value in
    λ setup past history stands can.
    subst (λ entry. HasFollowed setup past entry (saved_table later) c.apply_receipt.result) (sym c.in-Receipted.is) (followed-receipt setup past c.in-Receipted.client c.in-Receipted.key c.in-Receipted.through c.in-Receipted.time kept later c.apply_receipt.result sound history (subst (StandsFor setup past) (sym c.self.view_is) stands) (subst (λ entry. CanFollow setup entry past) c.in-Receipted.is can) now c.apply_receipt.ensures.reply c.apply_receipt.ensures.deeds)

pub returns-in_ok-effect-in-Called-clause-value : goal.returns-in_ok-effect-in-Called-clause-value
returns-in_ok-effect-in-Called-clause-value c =
    let kept = kept_table c.self.inside.whole.value.kept in
    let sound = subst (λ (whole : Whole). HaveQueues whole.kept.parts.ntf.table.capacity whole.kept.parts.ntf.table.subs) c.deref.ensures c.show_sound.ensures in
    let later = kept_table c.apply_call.new.kept in
    let effect = c.in_ok-effect-in-Called.effect in
    let time_is : to_z w64 (of_z w64 c.in-Called.time) ≡ c.in-Called.time = search rules in
    let applied = subst (λ moment. HasApplied kept c.in-Called.client c.in-Called.seq moment c.in-Called.call later effect) time_is (subst (λ (whole : Whole). HasApplied (kept_table whole.kept) c.in-Called.client c.in-Called.seq (to_z w64 (of_z w64 c.in-Called.time)) c.in-Called.call later effect) c.deref_mut.ensures.value (rw c.get.ensures at c.in_ok-effect-in-Called.ensures.ok)) in
    subst (λ entry. Applies entry c.args.self.now (saved_table later) effect) (sym c.in-Called.is)
    (subst (λ saved. Applies (Called c.in-Called.client c.in-Called.seq c.in-Called.time c.in-Called.call) saved (saved_table later) effect) c.self.view_is
    (call-applies c.in-Called.client c.in-Called.seq c.in-Called.time c.in-Called.call kept later effect sound applied))

pub returns-in-Receipted-clause-value : goal.returns-in-Receipted-clause-value
returns-in-Receipted-clause-value c =
    let kept = kept_table c.self.inside.whole.value.kept in
    let sound = subst (λ (whole : Whole). HaveQueues whole.kept.parts.ntf.table.capacity whole.kept.parts.ntf.table.subs) c.deref.ensures c.show_sound.ensures in
    let later = kept_table c.apply_receipt.new.kept in
    let now = c.apply_receipt.ensures.now ∙ ap (λ (whole : Whole). after_receipt_in (kept_table whole.kept) c.in-Receipted.client c.in-Receipted.key c.in-Receipted.through) c.deref_mut-in-Receipted.ensures.value in
    let effect = c.apply_receipt.result in
    subst (λ entry. Applies entry c.args.self.now (saved_table later) effect) (sym c.in-Receipted.is)
    (subst (λ saved. Applies (Receipted c.in-Receipted.client c.in-Receipted.key c.in-Receipted.through c.in-Receipted.time) saved (saved_table later) effect) c.self.view_is
    (receipt-applies c.in-Receipted.client c.in-Receipted.key c.in-Receipted.through c.in-Receipted.time kept later effect sound now c.apply_receipt.ensures.reply c.apply_receipt.ensures.deeds))
