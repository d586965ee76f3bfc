use Rattle.std.proofs.Common.{◌∙◌}
use Rattle.std.proofs.lemmas.Option.{get_or_from_slice_get}
use Rattle.std.proofs.lemmas.Result.{IfOk-weaker}
use Rattle.client_agent.specs.Seen.{seen_of}
use Rattle.cluster_clients.proofs.agents.sent_again.Goals as goal

pub returns : goal.returns
returns c =
    IfOk-weaker c.resend.result _ _ (λ messages sent client places agent at. sent client places agent (c.index-agents-at.is ∙ get_or_from_slice_get c.args.agents.now c.args.at (seen_of client places agent) c.index-agents-at.result at)) c.resend.ensures
