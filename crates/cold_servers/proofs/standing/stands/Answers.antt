use Rattle.std.proofs.Common.{◌∙◌}
use Rattle.cold_servers.proofs.StandingSteps.{standing-is}
use Rattle.cold_servers.proofs.standing.stands.Goals as goal

pub returns : goal.returns
returns c = λ setup state good shows. c.standing_of.ensures ∙ standing-is setup state c.args.world.now good shows
