use Rattle.std.proofs.Common.{Some, ap, ◌-◌, ◌∙◌, arith}
use Rattle.client_agent.proofs.Falling.{falling-call}
use Rattle.client_agent.proofs.kept.call_at.Goals as goal

pub returns : goal.returns
returns c =
    let sent = c.index-sent.result.now in
    ap Some c.get.ensures
    ∙ falling-call c.args.number c.requires.0 (c.index.result.now.number - c.args.number) c.args.kept.now.items sent c.requires.1 (omega arith) c.index-sent.ensures (omega arith)
