use Rattle.std.proofs.Common.{subst, ◌∙◌, w64}
use Rattle.std.proofs.lemmas.Int.{to_z-of_z}
use Rattle.std.proofs.lemmas.Result.{IfOk-weaker}
use Rattle.calls.specs.declared.entry.Entry.TheVariants.{Called}
use Rattle.plain_service.specs.Legal.{CanFollow}
use Rattle.mirror.specs.ByValue.{serving, IsAcceptedAt}
use Rattle.mirror.specs.Reacting.{IsAccepted}
use Rattle.mirror.proofs.HearingLaws.{request-new}
use Rattle.mirror.proofs.ByValueLaws as by_value
use Rattle.mirror.proofs.hearing.hear_request.Goals as goal

pub returns-then-seq-next-clause-ok : goal.returns-then-seq-next-clause-ok
returns-then-seq-next-clause-ok c =
    let a = c.args in
    IfOk-weaker c.accept.result _ _ (λ reaction accepted setup past history stands.
    let server = serving c.accept.new.service reaction.owed in
    request-new setup past a.client a.seq a.call.now a.now a.service.now reaction.heard server stands c.requires.can (c.if-seq-next.true ∙ c.next.ensures)
    (subst (λ call. CanFollow setup (Called a.client a.seq a.now call) past → IsAccepted setup past (Called a.client a.seq a.now call) reaction.heard server) c.in_ok-copy.ensures
    (subst (λ moment. CanFollow setup (Called a.client a.seq moment c.in_ok-copy.field-0) past → IsAccepted setup past (Called a.client a.seq moment c.in_ok-copy.field-0) reaction.heard server) (to_z-of_z w64 a.now c.ranges.now) (accepted setup past history stands))))
    c.accept.ensures.ok

pub returns-then-seq-next-clause-value : goal.returns-then-seq-next-clause-value
returns-then-seq-next-clause-value c =
    let a = c.args in
    IfOk-weaker c.accept.result _ _ (λ reaction accepted saved fit same.
    let server = serving c.accept.new.service reaction.owed in
    by_value.request-new a.service.now saved a.client a.seq a.call.now a.now reaction.heard server fit same (c.if-seq-next.true ∙ c.next.ensures)
    (subst (λ call. IsAcceptedAt saved (Called a.client a.seq a.now call) reaction.heard server) c.in_ok-copy.ensures
    (subst (λ moment. IsAcceptedAt saved (Called a.client a.seq moment c.in_ok-copy.field-0) reaction.heard server) (to_z-of_z w64 a.now c.ranges.now) (accepted saved same))))
    c.accept.ensures.value

pub returns-clause-value : goal.returns-clause-value
returns-clause-value c =
    let a = c.args in
    λ saved fit same.
    by_value.request-again a.service.now saved a.client a.seq a.call.now a.now c.in_ok-heard.heard same (c.in_ok-heard.ensures.value saved fit same)
