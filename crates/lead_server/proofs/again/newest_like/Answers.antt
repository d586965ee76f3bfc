use Rattle.std.proofs.Common.{ℕ, Option, ap, ◌∙◌}
use Rattle.lead_server.specs.Again.{string_at}
use Rattle.lead_server.proofs.again.newest_like.Goals as goal

pub returns-in-None : goal.returns-in-None
returns-in-None c = ap (λ (place : Option ℕ). string_at place c.args.net.now) c.in-None.ensures

pub returns-in-Some : goal.returns-in-Some
returns-in-Some c = c.at.ensures ∙ ap (λ (place : Option ℕ). string_at place c.args.net.now) c.in-Some.ensures
