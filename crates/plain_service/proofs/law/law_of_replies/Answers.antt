use Rattle.std.specs.Prelude.{refl}
use Rattle.plain_service.specs.Answers.{status_of}
use Rattle.plain_service.specs.Changing.{past_of}
use Rattle.plain_service.proofs.ReplyLaws.{replies-stand, replies-own, length-replies, reply-refused, reply-ok}
use Rattle.plain_service.proofs.law.law_of_replies.Goals as goal

pub returns : goal.returns
returns c = record {
  stand = replies-stand;
  own = replies-own;
  count = length-replies;
  refused = λ setup past client now call refused.
      reply-refused setup past client now call (status_of setup (past_of setup past) client now call) refused refl;
  told = reply-ok;
}
