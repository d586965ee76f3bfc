use Rattle.std.proofs.Common.{Some, None, sym, ◌∙◌}
use Rattle.std.proofs.lemmas.Result.{IfOk-weaker}
use Rattle.wire.specs.declared.message.Message.TheVariants.{Reply as Answer}
use Rattle.lead_server.proofs.AgainLaws.{answered-by, answers-as, no-call}
use Rattle.lead_server.proofs.again.is_answered.Goals as goal

pub has_reply-requires : goal.has_reply-requires
has_reply-requires c =
    let a = c.args in
    let answer = Answer c.in-Request.client c.in-Request.seq c.in-Some.reply.now in
    c.requires.range answer (answers-as a.message.now c.in-Request.client c.in-Request.seq _ a.active.now answer c.in-Request.is c.in-Some.ensures.again)

pub returns-in-Some-clause-posted : goal.returns-in-Some-clause-posted
returns-in-Some-clause-posted c =
    let a = c.args in
    let answer = Answer c.in-Request.client c.in-Request.seq c.in-Some.reply.now in
    let again = answers-as a.message.now c.in-Request.client c.in-Request.seq _ a.active.now answer c.in-Request.is c.in-Some.ensures.again in
    IfOk-weaker c.has_reply.result _ _ (λ answered posted yes. (answer, again, posted yes)) c.has_reply.ensures.posted

-- nothing is in hand
pub returns-in-Some-clause-hand : goal.returns-in-Some-clause-hand
returns-in-Some-clause-hand c =
    IfOk-weaker c.has_reply.result _ _ (λ answered same some. absurd (let no = c.in-Some.ensures.hand some in cc)) c.has_reply.ensures.value

pub returns-in-Some-clause-value : goal.returns-in-Some-clause-value
returns-in-Some-clause-value c =
    let a = c.args in
    IfOk-weaker c.has_reply.result _ _
    (λ answered same saved fit is. same ∙ answered-by saved a.message.now c.in-Request.client c.in-Request.seq _ (Some c.in-Some.reply.now) a.net.now c.in-Request.is (c.in-Some.ensures.value saved fit is))
    c.has_reply.ensures.value

pub returns-in-None-clause-value : goal.returns-in-None-clause-value
returns-in-None-clause-value c = λ saved fit is.
    let a = c.args in
    answered-by saved a.message.now c.in-Request.client c.in-Request.seq _ None a.net.now c.in-Request.is (c.in-None.ensures.value saved fit is)

pub returns-in_default-clause-value : goal.returns-in_default-clause-value
returns-in_default-clause-value c = λ saved fit is.
    sym (no-call saved c.args.message.now c.args.net.now (λ client number call same. c.in_default.not-Request client number call same))
