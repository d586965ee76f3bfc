use Rattle.std.proofs.Common.{◌<◌, ◌≤◌, subst}
use Rattle.std.proofs.lemmas.Result.{IfOk-weaker}
use Rattle.mirror.proofs.HearingLaws.{again-ahead, again-repeat, again-rest}
use Rattle.mirror.proofs.ByValueLaws as by_value
use Rattle.mirror.proofs.hearing.hear_again.Goals as goal

pub returns-then-next-seq-clause-history : goal.returns-then-next-seq-clause-history
returns-then-next-seq-clause-history c =
    let a = c.args in
    λ setup past history stands.
    again-ahead setup past a.client a.seq a.service.now c.ignore.result stands (subst (λ next. next < a.seq) c.next.ensures c.if-next-seq.true) c.ignore.ensures

pub returns-then-next-seq-clause-value : goal.returns-then-next-seq-clause-value
returns-then-next-seq-clause-value c =
    let a = c.args in
    λ saved fit same.
    by_value.again-ahead a.service.now saved a.client a.seq c.ignore.result fit same (subst (λ next. next < a.seq) c.next.ensures c.if-next-seq.true) c.ignore.ensures

pub returns-in-Repeat-clause-history : goal.returns-in-Repeat-clause-history
returns-in-Repeat-clause-history c =
    let a = c.args in
    IfOk-weaker c.repeat.result _ _ (λ heard is setup past history stands. again-repeat setup past a.client a.seq c.in-Repeat.reply.now heard history (c.in-Repeat.ensures.history setup past history stands) is) c.repeat.ensures

pub returns-in-Repeat-clause-value : goal.returns-in-Repeat-clause-value
returns-in-Repeat-clause-value c =
    let a = c.args in
    IfOk-weaker c.repeat.result _ _ (λ heard is saved fit same. by_value.again-repeat a.service.now saved a.client a.seq c.in-Repeat.reply.now heard fit same c.in-Repeat.ensures.value is) c.repeat.ensures

pub returns-in_default-clause-history : goal.returns-in_default-clause-history
returns-in_default-clause-history c =
    let a = c.args in
    λ setup past history stands.
    again-rest setup past a.client a.seq a.service.now c.ignore-in_default.result c.judge.result c.in_default.not-Repeat (c.judge.ensures.history setup past history stands) stands c.requires.number c.requires.other (subst (λ next. a.seq ≤ next) c.next.ensures c.if-next-seq.false) c.ignore-in_default.ensures

pub returns-in_default-clause-value : goal.returns-in_default-clause-value
returns-in_default-clause-value c =
    let a = c.args in
    λ saved fit same.
    by_value.again-rest a.service.now saved a.client a.seq c.ignore-in_default.result c.judge.result fit same c.in_default.not-Repeat c.judge.ensures.value c.requires.number c.requires.other (subst (λ next. a.seq ≤ next) c.next.ensures c.if-next-seq.false) c.ignore-in_default.ensures
