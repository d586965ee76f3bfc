use Rattle.std.proofs.Common.{Some, option_map, ap, ◌∙◌}
use Rattle.client_agent.specs.declared.kept.Kept.{Kept}
use Rattle.client_agent.proofs.Keeping.{kept_call-find}
use Rattle.client_agent.proofs.kept.look_for.Goals as goal

pub returns-in-Some : goal.returns-in-Some
returns-in-Some c = ap Some c.get.ensures ∙ ap (option_map (λ (sent : Kept). sent.call)) c.in-Some.ensures ∙ kept_call-find c.args.number c.args.kept.now.items

pub returns-in-None : goal.returns-in-None
returns-in-None c = ap (option_map (λ (sent : Kept). sent.call)) c.in-None.ensures ∙ kept_call-find c.args.number c.args.kept.now.items
