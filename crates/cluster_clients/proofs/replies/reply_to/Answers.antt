use Rattle.std.proofs.Common.{◌≡◌, List, ℕ, length, ap, subst, ◌∙◌}
use Rattle.std.proofs.lemmas.Result.{IfOk-weaker}
use Rattle.cluster_clients.specs.Replies.{reply_front, FindsFirst}
use Rattle.cluster_clients.proofs.ReplySteps.{front-length, finds-reply}
use Rattle.cluster_clients.proofs.replies.reply_to.Goals as goal

pub returns : goal.returns
returns c =
    let net = c.args.net.now in
    let front : c.reply_front-front.result ≡ reply_front c.args.client c.args.seq = c.reply_front-front.ensures in
    IfOk-weaker c.first_with.result _ _ (λ found finds. finds-reply c.args.client c.args.seq net found c.requires.client c.requires.count (subst (λ (f : List ℕ). FindsFirst f net found) front finds)) c.first_with.ensures

pub first_with-requires : goal.first_with-requires
first_with-requires c =
    let front : c.reply_front-front.result ≡ reply_front c.args.client c.args.seq = c.reply_front-front.ensures in
    ap length front ∙ front-length c.args.client c.args.seq
