use Rattle.std.proofs.Common.{ℕ, ap, sym, ◌∙◌}
use Rattle.lead_server.specs.Again.{reply_to}
use Rattle.lead_server.proofs.AgainLaws.{reply-past}
use Rattle.lead_server.proofs.again.reply_to.Goals as goal

pub returns-then-seq-eq0-clause-value : goal.returns-then-seq-eq0-clause-value
returns-then-seq-eq0-clause-value c = λ saved fit is. ap (λ (number : ℕ). reply_to saved c.args.client number) (sym c.if-seq-eq0.true)

pub returns-else-seq-eq0-clause-value : goal.returns-else-seq-eq0-clause-value
returns-else-seq-eq0-clause-value c = λ saved fit is.
    c.reply_again.ensures.value saved fit is ∙ reply-past saved c.args.client c.args.seq c.if-seq-eq0.false
