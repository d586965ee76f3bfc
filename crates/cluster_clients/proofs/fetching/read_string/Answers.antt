use Rattle.std.proofs.Common.{ℕ, Err, ap, sym, subst}
use Rattle.wire.specs.declared.message.WireWhy.{WireWhy}
use Rattle.wire.specs.declared.message.WireAnswer.{WireAnswer}
use Rattle.wire.specs.declared.message.WireAnswer.TheVariants.{Refused}
use Rattle.wire.specs.Messages.{IsRefusedAt, IsRefused}
use Rattle.cluster_clients.proofs.fetching.read_string.Goals as goal

pub returns-in-Err-Refused : goal.returns-in-Err-Refused
returns-in-Err-Refused c =
    let place = c.in-Err-Refused.place in
    let why = c.in-Err-Refused.why in
    let R : WireAnswer → Type 0 = λ answer. (other : ℕ) (reason : WireWhy) → IsRefusedAt c.args.bytes.now other reason → IsRefused other reason (Err answer) in
    let every : R (Refused place why) = subst R c.in-Err-Refused.field-0-is c.in-Err-Refused.ensures.every_fault in (
      c.in-Err-Refused.ensures.fault place why (ap Err c.in-Err-Refused.field-0-is),
      λ other reason refused. let same = every other reason refused in (sym same.0, sym same.1),
    )
