use Rattle.std.proofs.Common.{refl}
use Rattle.wire.specs.declared.message.Message.TheVariants.{Reply as Answer}
use Rattle.mirror.specs.Hearing.{repeated}
use Rattle.mirror.proofs.HearingLaws.{again-repeat}
use Rattle.mirror.proofs.ByValueLaws as by_value
use Rattle.mirror.proofs.hearing.kept_reply.Goals as goal

pub returns-in-Repeat-clause-again : goal.returns-in-Repeat-clause-again
returns-in-Repeat-clause-again c =
    let a = c.args in
    let reply = c.in-Repeat.reply.now in
    let heard = repeated (Answer a.client a.seq reply) in (
      λ setup past history stands. again-repeat setup past a.client a.seq reply heard history (c.in-Repeat.ensures.history setup past history stands) refl,
      λ saved fit same. by_value.again-repeat a.service.now saved a.client a.seq reply heard fit same c.in-Repeat.ensures.value refl,
    )

pub returns-in-Repeat-clause-value : goal.returns-in-Repeat-clause-value
returns-in-Repeat-clause-value c =
    let a = c.args in
    λ saved fit same. by_value.told-again a.service.now saved a.client a.seq c.in-Repeat.reply.now fit same c.in-Repeat.ensures.value

pub returns-in_default-clause-value : goal.returns-in_default-clause-value
returns-in_default-clause-value c =
    let a = c.args in
    λ saved fit same. by_value.untold-again a.service.now saved a.client a.seq c.judge.result fit same c.in_default.not-Repeat c.judge.ensures.value c.requires
