use Rattle.std.proofs.Common.{sym, subst, w64}
use Rattle.std.proofs.lemmas.Int.{to_z-of_z}
use Rattle.std.proofs.lemmas.Result.{IfOk-weaker}
use Rattle.calls.specs.declared.entry.Entry.TheVariants.{Receipted}
use Rattle.plain_service.specs.Legal.{CanFollow}
use Rattle.service_core.specs.Applying.{is_new_in}
use Rattle.service_laws.specs.PlainOf.{plain_of}
use Rattle.cluster_facts.specs.Service.{is_new}
use Rattle.mirror.specs.Hearing.{IsReceiptHeard}
use Rattle.mirror.specs.ByValue.{serving, IsAcceptedAt, IsReceiptByValue}
use Rattle.mirror.specs.Reacting.{IsAccepted}
use Rattle.mirror.proofs.HearingLaws.{receipt-new, receipt-done}
use Rattle.mirror.proofs.ByValueLaws as by_value
use Rattle.mirror.proofs.hearing.hear_receipt.Goals as goal

pub returns-then-is_new-clause-ok : goal.returns-then-is_new-clause-ok
returns-then-is_new-clause-ok c =
    let a = c.args in
    IfOk-weaker c.accept.result _ _ (λ reaction accepted setup past history stands.
    let server = serving c.accept.new.service reaction.owed in
    receipt-new setup past a.client a.key a.through a.now a.service.now reaction.heard server stands c.requires (sym c.if-is_new.ensures.value)
    (subst (λ moment. CanFollow setup (Receipted a.client a.key a.through moment) past → IsAccepted setup past (Receipted a.client a.key a.through moment) reaction.heard server) (to_z-of_z w64 a.now c.ranges.now) (accepted setup past history stands)))
    c.accept.ensures.ok

pub returns-clause-ok : goal.returns-clause-ok
returns-clause-ok c =
    let a = c.args in
    λ setup past history stands.
    subst (λ owed. IsReceiptHeard setup past a.client a.key a.through a.now (is_new (plain_of setup) past a.client a.key a.through) c.react_not.result.heard (serving a.service.now owed)) (sym c.react_not.ensures.owed) (receipt-done setup past a.client a.key a.through a.now a.service.now c.react_not.result.heard stands (sym c.if-is_new.ensures.value) c.react_not.ensures.heard)

pub returns-then-is_new-clause-value : goal.returns-then-is_new-clause-value
returns-then-is_new-clause-value c =
    let a = c.args in
    IfOk-weaker c.accept.result _ _ (λ reaction accepted saved fit same.
    let server = serving c.accept.new.service reaction.owed in
    by_value.receipt-new a.service.now saved a.client a.key a.through a.now reaction.heard server same (sym c.if-is_new.ensures.value)
    (subst (λ moment. IsAcceptedAt saved (Receipted a.client a.key a.through moment) reaction.heard server) (to_z-of_z w64 a.now c.ranges.now) (accepted saved same)))
    c.accept.ensures.value

pub returns-clause-value : goal.returns-clause-value
returns-clause-value c =
    let a = c.args in
    λ saved fit same.
    subst (λ owed. IsReceiptByValue saved a.client a.key a.through a.now (is_new_in saved a.client a.key a.through) c.react_not.result.heard (serving a.service.now owed)) (sym c.react_not.ensures.owed) (by_value.receipt-done a.service.now saved a.client a.key a.through a.now c.react_not.result.heard same (sym c.if-is_new.ensures.value) c.react_not.ensures.heard)
