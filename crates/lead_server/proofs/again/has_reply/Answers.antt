use Rattle.std.proofs.Common.{◌≡◌, sym, subst}
use Rattle.std.specs.Prelude.{IfOk, IsTrue}
use Rattle.calls.specs.declared.reply.Reply.{Reply}
use Rattle.wire.specs.declared.message.Message.TheVariants.{Reply as Answer}
use Rattle.wire.specs.MessageSpelling.{MessageInRange}
use Rattle.lead_server.specs.Again.{IsPosted, is_newest}
use Rattle.lead_server.proofs.again.has_reply.Goals as goal

pub is_newest-newest-requires : goal.is_newest-newest-requires
is_newest-newest-requires c =
    let a = c.args in
    subst (λ (reply : Reply). MessageInRange (Answer a.client a.seq reply)) (sym c.in_ok-copy.ensures) c.requires

pub returns-clause-posted : goal.returns-clause-posted
returns-clause-posted c =
    let a = c.args in
    subst (λ (reply : Reply). IfOk c.is_newest-newest.result (λ newest. IsTrue newest → IsPosted (Answer a.client a.seq reply) a.net.now)) c.in_ok-copy.ensures c.is_newest-newest.ensures.posted

pub returns-clause-value : goal.returns-clause-value
returns-clause-value c =
    let a = c.args in
    subst (λ (reply : Reply). IfOk c.is_newest-newest.result (λ newest. newest ≡ is_newest (Answer a.client a.seq reply) a.net.now)) c.in_ok-copy.ensures c.is_newest-newest.ensures.value
